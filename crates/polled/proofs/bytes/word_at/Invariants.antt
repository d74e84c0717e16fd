use Rattle.std.proofs.Common.{◌≡◌, ◌*◌}
use Rattle.packed.specs.Packed.{word}
use Rattle.polled.proofs.bytes.word_at.Given as goal

abbrev pub invariant-loop-i : goal.invariant-loop-i
invariant-loop-i l = l.word ≡ word 1 l.bytes (64 * l.group) l.i
