-- What the owner of a descriptor's bytes knows after a visit.
use Rattle.std.proofs.Common.{◌≡◌, ℕ, true, List, [], ◌∷◌, Result, ap, ◌∙◌, subst}
use Rattle.vectors.specs.declared.faults.Fault.{Fault}
use Rattle.sink.specs.declared.face.Placed.{Placed}
use Rattle.sink.specs.Ops.{Op, freeze, Chain, Records}
use Rattle.sink.proofs.Chains.{one_of_chain, two_of_chain}
use Rattle.descriptor.specs.Steps.{DescriptorDid}
use Rattle.layers.specs.Holding.{Own, fresh, MigratedDid, MigrationPasses}
use Rattle.piles.specs.Asked.{FrozenFirst, PostedInto}

-- a frozen post to a descriptor
pub frozen_known : (xs ys : List ℕ) (v : ℕ) (os : List Op) (r : Result Placed Fault) → FrozenFirst v os r → Chain DescriptorDid xs os ys
    → PostedInto xs v r ys
frozen_known xs ys v os r e c =
    let t = two_of_chain DescriptorDid (subst (λ (l : List Op). Chain DescriptorDid xs l ys) e c) in
    subst (λ (m : List ℕ). PostedInto m v r ys) t.1 t.2

-- a post to a frozen migration layer: of the two operations only the freeze reaches the sink below
frozen_passes : (v : ℕ) (os ps : List Op) (r : Result Placed Fault) (own : Own) → FrozenFirst v os r → MigrationPasses fresh os ps own → ps ≡ freeze ∷ []
frozen_passes v os ps r own e c =
    let t = two_of_chain (MigratedDid Records) (subst (λ (l : List Op). Chain (MigratedDid Records) (fresh, []) l (own, ps)) e c) in
    let held : t.0.0.frozen ≡ true = ap (λ (a : Own). a.frozen) t.1.0 in
    (t.2.0 held).1 ∙ t.1.1

-- and so nothing changes in the bytes below it
pub above_known : (xs ys : List ℕ) (v : ℕ) (os ps : List Op) (r : Result Placed Fault) (own : Own) → FrozenFirst v os r → MigrationPasses fresh os ps own
    → Chain DescriptorDid xs ps ys → ys ≡ xs
above_known xs ys v os ps r own e p c =
    one_of_chain DescriptorDid (subst (λ (l : List Op). Chain DescriptorDid xs l ys) (frozen_passes v os ps r own e p) c)
