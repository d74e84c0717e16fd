use Rattle.std.proofs.Common.{refl, rules}
use Rattle.sink.specs.Ops.{none, more}
use Rattle.descriptor.proofs.tests.PostVisit.visit.Goals as goal

pub returns : goal.returns
returns g c = record {
  did = (_, (refl, refl), more c.set_aim.ensures.did (more c.park.ensures.did none));
  fixed = search rules;
}
