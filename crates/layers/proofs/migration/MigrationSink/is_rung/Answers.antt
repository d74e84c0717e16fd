use Rattle.layers.proofs.Layering.{sound_migrated}
use Rattle.layers.proofs.migration.MigrationSink.is_rung.Goals as goal

pub returns-then-is_rung-clause-sound : goal.returns-then-is_rung-clause-sound
returns-then-is_rung-clause-sound g c = let s = c.args.self.now in sound_migrated (g.S.Sink.meaning s.below) s.held c.is_rung.ensures.sound

pub returns-else-is_rung-clause-sound : goal.returns-else-is_rung-clause-sound
returns-else-is_rung-clause-sound g c = let s = c.args.self.now in sound_migrated (g.S.Sink.meaning s.below) s.held c.is_rung.ensures.sound
