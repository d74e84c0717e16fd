use Rattle.std.proofs.Common.{ℕ, ◌/◌, ◌<◌, ◌≤◌, leb, length, set, ap, ◌∙◌, arith, rules}
use Rattle.std.proofs.lemmas.Bool.{and_parts, leb-true}
use Rattle.vectors.specs.Sets.{gained}
use Rattle.sink.specs.Meaning.{with_parked}
use Rattle.descriptor.specs.Layout.{described}
use Rattle.descriptor.proofs.Changes.{noted_described}
use Rattle.descriptor.proofs.Lawfulness.{lawful_set, vectors_permitted}
use Rattle.descriptor.proofs.live.DescriptorStore.note.Goals as goal

pub invariant_of-self : goal.invariant_of-self
invariant_of-self c =
    let d = c.args.self.now in
    let v = c.from-vector.result in
    let low : 16 ≤ v = leb-true 16 v (and_parts (leb 16 v) (leb v 255) c.from-vector.ensures.1).0 in
    let within : v / 8 < length d.bytes.now = search rules in
    record { whole = (search rules, lawful_set d.bytes.now (v / 8) _ within (vectors_permitted (v / 8) _ (omega arith) (omega arith)) d.whole.1) }

pub returns-clause-after : goal.returns-clause-after
returns-clause-after c =
    let bs = c.args.self.now.bytes.now in
    let v = c.from-vector.result in
    ap (λ (x : ℕ). described (set bs (v / 8) x)) c.byte_with.ensures.value
    ∙ noted_described bs v c.args.self.now.whole.0 c.byte_with.ensures.narrow (search rules)
    ∙ ap (λ (w : ℕ). with_parked (described bs) (gained (described bs).parked w)) c.from-vector.ensures.0
