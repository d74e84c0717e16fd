use Rattle.std.proofs.Common.{[], ◌∷◌, refl, rules}
use Rattle.sink.specs.declared.face.Aim.TheVariants.{Wake}
use Rattle.sink.specs.Ops.{park, set_aim, none, more}
use Rattle.polled.proofs.tests.PosterVisit.visit.Goals as goal

pub returns : goal.returns
returns g c = record {
  did = (park c.args.self.now.vector c.park.result ∷ set_aim Wake ∷ [], (c.park.result, refl), more c.park.ensures.did (more c.set_aim.ensures.did none));
  fixed = search rules;
}
