use Rattle.std.proofs.Common.{refl}
use Rattle.sink.specs.Ops.{none, more}
use Rattle.piles.proofs.posts.FrozenPostVisit.visit.Goals as goal

pub returns-clause-did : goal.returns-clause-did
returns-clause-did g c = (_, (refl, refl), more c.freeze.ensures.did (more c.park.ensures.did none))
