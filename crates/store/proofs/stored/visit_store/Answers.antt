use Rattle.std.proofs.Common.{List, subst, rules}
use Rattle.sink.specs.Ops.{Op, Chain}
use Rattle.sink.proofs.Chains.{chain_map}
use Rattle.store.specs.Forms.{means, StoreDid}
use Rattle.store.proofs.stored.visit_store.Goals as goal

pub returns-clause-did : goal.returns-clause-did
returns-clause-did g c =
    let d = c.visit.ensures.did in
    let F = g.S.Store.form in
    let bytes = g.S.Store.bytes in
    subst (λ (y : g.row.S.Denot). (os : List Op)
    × g.V.Visit.did c.args.visitor.now (means F (bytes c.args.store.now)) os c.visit.result c.visit.new.self (means F (bytes y))
    × Chain (StoreDid F) (bytes c.args.store.now) os (bytes y))
    (search rules) (d.0, d.1, chain_map _ (StoreDid F) (λ s. bytes s.store.now) (λ x y o r. r) d.2)
