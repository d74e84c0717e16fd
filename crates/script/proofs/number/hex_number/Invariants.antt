use Rattle.std.proofs.Common.{◌≡◌, min, take, drop}
use Rattle.script.specs.Numbers.{is_hex, value_of}
use Rattle.std.specs.List.{list_all}
use Rattle.script.proofs.number.hex_number.Given as goal

abbrev pub invariant-loop-b : goal.invariant-loop-b
invariant-loop-b l =
    (list_all is_hex l.word ≡ list_all is_hex (drop l.b-index l.word))
    × (l.value ≡ min (value_of (take l.b-index l.word)) 256)
