use Rattle.std.proofs.Common.{refl}
use Rattle.sink.specs.Ops.{none, more}
use Rattle.piles.proofs.tests.DriveVisit.visit.Goals as goal

pub returns-clause-did : goal.returns-clause-did
returns-clause-did g c = (
  _,
  refl,
  more c.park-first.ensures.did (more c.bell-ring.ensures.did (more c.freeze.ensures.did (more c.park-second.ensures.did
      (more c.bell-again.ensures.did (more c.thaw.ensures.did (more c.draw-drawn.ensures.did none)))))),
)
