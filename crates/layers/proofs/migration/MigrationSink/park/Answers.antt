use Rattle.std.proofs.Common.{sym, ◌∙◌}
use Rattle.sink.specs.Meaning.{route_of}
use Rattle.layers.specs.Holding.{own_of}
use Rattle.layers.proofs.Layering.{park_below, park_gained}
use Rattle.layers.proofs.migration.MigrationSink.park.Goals as goal

pub returns-then-not-self-clause-after : goal.returns-then-not-self-clause-after
returns-then-not-self-clause-after g c =
    let s = c.args.self.now in
    park_below (g.S.Sink.meaning s.below) (own_of s.held) c.args.vector (route_of c.park.result) c.park.ensures.after

pub returns-clause-after : goal.returns-clause-after
returns-clause-after g c =
    let s = c.args.self.now in
    park_gained (g.S.Sink.meaning s.below) (own_of s.held) c.args.vector (sym c.in_ok-vector.was ∙ c.name.ensures.answer) c.insert.ensures.words
