use Rattle.std.proofs.Common.{ap, rules}
use Rattle.layers.specs.Renames.{renamed, RenamedDid}
use Rattle.layers.proofs.Passing.{renaming_each, renamed_visit, visited}
use Rattle.layers.proofs.visits.with_renaming.Goals as goal

pub returns-clause-did : goal.returns-clause-did
returns-clause-did g c =
    let new = c.new-layer.ensures in
    renamed_visit g.S.Sink.did g.S.Sink.meaning g.V.Visit.did
    (visited g.S.Sink.did (λ s. s.now) (λ l. l.table.names) (λ l. l.below) (λ _. RenamedDid) (λ _. renaming_each) g.S.Sink.meaning renamed g.V.Visit.did
    (ap (λ t. t.names) new.table) (ap (λ s. s.now) new.below) (search rules) c.visit.ensures.did)
