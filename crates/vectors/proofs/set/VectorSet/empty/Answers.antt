use Rattle.vectors.proofs.Bitwise.{has_blank}
use Rattle.vectors.proofs.set.VectorSet.empty.Goals as goal

pub returns-clause-set : goal.returns-clause-set
returns-clause-set c = has_blank
