-- Operations one after another, and what reaches the sink below a layer.
use Rattle.std.proofs.Common.{◌≡◌, List, [], ◌∷◌, ◌++◌, sym, subst, append_assoc, append-nil}
use Rattle.sink.specs.Ops.{Op, Chain, none, more}

pub chain_one : {X : Type 0} (R : X → Op → X → Type 0) {x y : X} {o : Op} → R x o y → Chain R x (o ∷ []) y
chain_one R r = more r none

-- and what a chain of one or two operations says
pub one_of_chain : {X : Type 0} (R : X → Op → X → Type 0) {x y : X} {o : Op} → Chain R x (o ∷ []) y → R x o y
one_of_chain R (more r none) = r

pub two_of_chain : {X : Type 0} (R : X → Op → X → Type 0) {x z : X} {o p : Op} → Chain R x (o ∷ p ∷ []) z → (y : X) × R x o y × R y p z
two_of_chain R (more {y = m} r (more q none)) = (m, r, q)

pub chain_append : {X : Type 0} (R : X → Op → X → Type 0) {x y z : X} {os ps : List Op} → Chain R x os y → Chain R y ps z → Chain R x (os ++ ps) z
chain_append R none d = d
chain_append R (more r c) d = more r (chain_append R c d)

-- a chain seen through a function of the state
pub chain_map : {X Y : Type 0} (R : X → Op → X → Type 0) (Q : Y → Op → Y → Type 0) (f : X → Y)
    → ((x y : X) (o : Op) → R x o y → Q (f x) o (f y)) → {x z : X} {os : List Op} → Chain R x os z → Chain Q (f x) os (f z)
chain_map R Q f each none = none
chain_map R Q f each (more r c) = more (each _ _ _ r) (chain_map R Q f each c)

-- the same where the two ends are known under other names
pub chain_seen : {X Y : Type 0} (R : X → Op → X → Type 0) (Q : Y → Op → Y → Type 0) (f : X → Y)
    → ((x y : X) (o : Op) → R x o y → Q (f x) o (f y)) → (x z : X) (os : List Op) (a b : Y) → f x ≡ a → f z ≡ b → Chain R x os z → Chain Q a os b
chain_seen {X} {Y} R Q f each x z os a b p q c =
    subst (λ (u : Y). Chain Q u os b) p (subst (λ (u : Y). Chain Q (f x) os u) q (chain_map R Q f each c))

-- Operations on a layer, as what reaches the sink below. D is the layer over any sink; `each` says that a step of it shows
-- over a recorder what it does over R.
module _ {A X : Type 0} (R : X → Op → X → Type 0) (D : A × X → Op → A × X → Type 0) (T : A × List Op → Op → A × List Op → Type 0)
    (each : (s t : A × X) (o : Op) (qs : List Op) → D s o t → (ps : List Op) × T (s.0, qs) o (t.0, qs ++ ps) × Chain R s.1 ps t.1) where
  pub reaches : {s t : A × X} {os : List Op} (qs : List Op) → Chain D s os t → (ps : List Op) × Chain T (s.0, qs) os (t.0, qs ++ ps) × Chain R s.1 ps t.1
  reaches {s} qs none = ([], subst (λ (xs : List Op). Chain T (s.0, qs) [] (s.0, xs)) (sym (append-nil qs)) none, none)
  reaches {s} {t} qs (more {y = m} {o = o} {os = rest} r c) =
      let e = each s m o qs r in
      let l = reaches (qs ++ e.0) c in (
        e.0 ++ l.0,
        more e.1 (subst (λ (xs : List Op). Chain T (m.0, qs ++ e.0) rest (t.0, xs)) (append_assoc qs e.0 l.0) l.1),
        chain_append R e.2 l.2,
      )
