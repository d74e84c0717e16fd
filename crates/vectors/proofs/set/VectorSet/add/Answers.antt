use Rattle.std.proofs.Common.{◌<◌, length, ◌∙◌, ap₂, rules}
use Rattle.vectors.specs.Sets.{has, joined}
use Rattle.vectors.proofs.Bitwise.{has_or, join_one}
use Rattle.vectors.proofs.set.VectorSet.add.Goals as goal

pub returns-clause-all : goal.returns-clause-all
returns-clause-all c =
    let h : c.args.group < length c.args.self.now.words = search rules in
    rw c.index.ensures.value (has_or c.args.self.now.words c.args.group c.args.word h)

pub returns-clause-one : goal.returns-clause-one
returns-clause-one c v g w =
    returns-clause-all c ∙ ap₂ (joined (has c.args.self.now.words)) g w ∙ join_one (has c.args.self.now.words) v
