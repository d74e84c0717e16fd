use Rattle.std.proofs.Common.{◌<◌, length, rules}
use Rattle.vectors.proofs.Bitwise.{has_emptied}
use Rattle.vectors.proofs.set.VectorSet.empty_group.Goals as goal

pub returns-clause-keeps : goal.returns-clause-keeps
returns-clause-keeps c u v t =
    let h : c.args.group < length c.args.self.now.words = search rules in
    u v (has_emptied c.args.self.now.words c.args.group v h (rw c.index.ensures.value at t))
