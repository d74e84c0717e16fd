use Rattle.std.proofs.Common.{◌^◌, ◌<◌, length, ◌∙◌, ap₂, rules}
use Rattle.vectors.specs.Sets.{has, cut}
use Rattle.vectors.proofs.Bitwise.{has_and_not, cut_one}
use Rattle.vectors.proofs.set.VectorSet.clear.Goals as goal

pub returns : goal.returns
returns c v g w =
    let h : c.args.group < length c.args.self.now.words = search rules in
    let f : c.args.word < 2 ^ 64 = search rules in
    rw c.index.ensures.value
    (has_and_not c.args.self.now.words c.args.group c.args.word f h ∙ ap₂ (cut (has c.args.self.now.words)) g w ∙ cut_one (has c.args.self.now.words) v)
