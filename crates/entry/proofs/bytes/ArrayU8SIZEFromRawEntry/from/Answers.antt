use Rattle.std.proofs.Common.{◌≡◌, ap, ◌∙◌, rules}
use Rattle.std.specs.Int.{to_le_bytes}
use mir.Syntax.{w128}
use Rattle.packed.specs.Packed.{bytes_of}
use Rattle.packed.proofs.Bytes.{all_quotients, word_back}
use Rattle.entry.specs.Layout.{bits_in}
use Rattle.entry.proofs.bytes.ArrayU8SIZEFromRawEntry.from.Goals as goal

pub returns : goal.returns
returns c =
    let x = c.args.raw.bits in
    let written : c.to_le_bytes.result ≡ bytes_of 16 x = c.to_le_bytes.ensures ∙ ap (to_le_bytes w128) (search rules) ∙ all_quotients 15 x in
    (written, ap bits_in written ∙ word_back 16 x (search rules))
