use Rattle.layers.specs.Holding.{own_of}
use Rattle.layers.proofs.Layering.{draw_both}
use Rattle.layers.proofs.migration.MigrationSink.draw.Goals as goal

pub returns-clause-after : goal.returns-clause-after
returns-clause-after g c = draw_both _ _ (own_of c.args.self.now.held) _ _ c.draw.ensures.after c.draw-2.ensures.after
