use Rattle.std.proofs.Common.{ap, rules}
use Rattle.layers.specs.Holding.{own_of, migrated, MigratedDid}
use Rattle.layers.proofs.Passing.{migration_each, visited}
use Rattle.layers.proofs.visits.with_migration.Goals as goal

pub returns-clause-did : goal.returns-clause-did
returns-clause-did g c =
    let new = c.new-layer.ensures in
    visited g.S.Sink.did (λ s. s.now) (λ l. own_of l.held) (λ l. l.below) (λ _. MigratedDid) (λ _. migration_each) g.S.Sink.meaning migrated g.V.Visit.did
    new.own (ap (λ s. s.now) new.below) (search rules) c.visit.ensures.did
