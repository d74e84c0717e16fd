-- What of the operations on a layer reaches the sink below.
use Rattle.std.proofs.Common.{◌≡◌, ℕ, Bool, true, false, List, [], ◌∷◌, ◌++◌, get_or, sym, refl, ◌∙◌, subst, append-nil}
use Rattle.std.proofs.lemmas.Bool.{both_ways}
use Rattle.vectors.specs.Sets.{usable}
use Rattle.sink.specs.Ops.{Op, park, bell, ack, set_quiet, set_aim, draw, freeze, thaw, Chain, none, more, Records}
use Rattle.sink.specs.Meaning.{Meaning}
use Rattle.sink.proofs.Chains.{chain_one, chain_map, reaches}
use Rattle.layers.specs.Holding.{Own, MigratedDid, stays}
use Rattle.layers.specs.Renames.{renamed, RenamedDid, RenamedVisit}

-- nothing reaches a sink that is as it was
still : {X : Type 0} (R : X → Op → X → Type 0) (x y : X) → y ≡ x → Chain R x [] y
still {X} R x y e = subst (λ (z : X). Chain R x [] z) (sym e) none

module _ {X : Type 0} (R : X → Op → X → Type 0) where
  -- one step of migration, shown over a recorder
  pub migration_each : (s t : Own × X) (o : Op) (qs : List Op) → MigratedDid R s o t
      → (ps : List Op) × MigratedDid Records (s.0, qs) o (t.0, qs ++ ps) × Chain R s.1 ps t.1
  migration_each s t (park v r) qs d = pick s.0.frozen refl
    where
      pick : (f : Bool) → s.0.frozen ≡ f → (ps : List Op) × MigratedDid Records (s.0, qs) (park v r) (t.0, qs ++ ps) × Chain R s.1 ps t.1
      pick true e = ([], ((λ _. ((d.0 e).0, append-nil qs, (d.0 e).2)), (λ n. absurd (both_ways s.0.frozen n e))), still R s.1 t.1 (d.0 e).1)
      pick false e = (park v r ∷ [], ((λ n. absurd (both_ways s.0.frozen e n)), (λ _. ((d.1 e).0, refl))), chain_one R (d.1 e).1)
  migration_each s t (bell u r) qs d = pick (stays s) refl
    where
      pick : (f : Bool) → stays s ≡ f → (ps : List Op) × MigratedDid Records (s.0, qs) (bell u r) (t.0, qs ++ ps) × Chain R s.1 ps t.1
      pick true e = ([], ((λ _. ((d.0 e).0, append-nil qs)), (λ n. absurd (both_ways (stays s) n e))), still R s.1 t.1 (d.0 e).1)
      pick false e = (bell u r ∷ [], ((λ n. absurd (both_ways (stays s) e n)), (λ _. ((d.1 e).0, refl))), chain_one R (d.1 e).1)
  migration_each s t ack qs d = (ack ∷ [], (d.0, refl), chain_one R d.1)
  migration_each s t (set_quiet b) qs d = (set_quiet b ∷ [], (d.0, refl), chain_one R d.1)
  migration_each s t (set_aim a) qs d = (set_aim a ∷ [], (d.0, refl), chain_one R d.1)
  migration_each s t (draw g r) qs d = (draw g d.0 ∷ [], (d.0, refl, d.2, d.3), chain_one R d.1)
  migration_each s t freeze qs d = (freeze ∷ [], (d.0, refl), chain_one R d.1)
  migration_each s t thaw qs d = (thaw ∷ [], (d.0, refl), chain_one R d.1)

  -- and one of renaming
  pub renaming_each : (s t : List ℕ × X) (o : Op) (qs : List Op) → RenamedDid R s o t
      → (ps : List Op) × RenamedDid Records (s.0, qs) o (t.0, qs ++ ps) × Chain R s.1 ps t.1
  renaming_each s t (park v r) qs d = pick (usable v) refl
    where
      pick : (u : Bool) → usable v ≡ u → (ps : List Op) × RenamedDid Records (s.0, qs) (park v r) (t.0, qs ++ ps) × Chain R s.1 ps t.1
      pick true e = (park (get_or s.0 v 0) r ∷ [], (d.0, (λ _. refl), (λ n. absurd (both_ways (usable v) n e))), chain_one R (d.1 e))
      pick false e = ([], (d.0, (λ n. absurd (both_ways (usable v) e n)), (λ _. append-nil qs)), still R s.1 t.1 (d.2 e))
  renaming_each s t (bell u r) qs d = (bell u r ∷ [], (d.0, refl), chain_one R d.1)
  renaming_each s t ack qs d = (ack ∷ [], (d.0, refl), chain_one R d.1)
  renaming_each s t (set_quiet b) qs d = (set_quiet b ∷ [], (d.0, refl), chain_one R d.1)
  renaming_each s t (set_aim a) qs d = (set_aim a ∷ [], (d.0, refl), chain_one R d.1)
  renaming_each s t (draw g r) qs d = (draw g r ∷ [], (d.0, refl), chain_one R d.1)
  renaming_each s t freeze qs d = (freeze ∷ [], (d.0, refl), chain_one R d.1)
  renaming_each s t thaw qs d = (thaw ∷ [], (d.0, refl), chain_one R d.1)

  -- the table stays
  kept_each : (s t : List ℕ × X) (o : Op) → RenamedDid R s o t → t.0 ≡ s.0
  kept_each s t (park v r) d = d.0
  kept_each s t (bell u r) d = d.0
  kept_each s t ack d = d.0
  kept_each s t (set_quiet b) d = d.0
  kept_each s t (set_aim a) d = d.0
  kept_each s t (draw g r) d = d.0
  kept_each s t freeze d = d.0
  kept_each s t thaw d = d.0

  pub table_kept : (s t : List ℕ × X) (os : List Op) → Chain (RenamedDid R) s os t → t.0 ≡ s.0
  table_kept s t os none = refl
  table_kept s t os (more {y = m} {o = o} {os = rest} r c) = table_kept m t rest c ∙ kept_each s m o r

-- the same of a visit: the table that it begins with is the one that it ends with
pub renamed_visit : {X V O : Type 0} (R : X → Op → X → Type 0) (m : X → Meaning) (D : V → Meaning → List Op → O → V → Meaning → Type 0)
    {table : List ℕ} {x z : X} {v w : V} {r : O}
    → (ps : List Op) × ((os : List Op) × (b : List ℕ) × D v (renamed (m x) table) os r w (renamed (m z) b) × Chain (RenamedDid Records) (table, []) os (b, ps)) × Chain R x ps z
    → (ps : List Op) × RenamedVisit table D v (m x) ps r w (m z) × Chain R x ps z
renamed_visit R m D {table} h =
    let kept = table_kept Records (table, []) (h.1.1, h.0) h.1.0 h.1.3 in
    (h.0, (h.1.0, rw kept at h.1.2, rw kept at h.1.3), h.2)

-- A visit to a layer of the type L that stands on a lent sink, which goes by R: `own` is the layer's own state, `below` the
-- sink, and D what an operation does to the two.
module _ {A L Y X V O : Type 0} (R : X → Op → X → Type 0) (now : Y → X) (own : L → A) (below : L → Y)
    (D : (Z : Type 0) → (Z → Op → Z → Type 0) → A × Z → Op → A × Z → Type 0)
    (each : (Z : Type 0) (Q : Z → Op → Z → Type 0) (s t : A × Z) (o : Op) (qs : List Op) → D Z Q s o t
    → (ps : List Op) × D (List Op) Records (s.0, qs) o (t.0, qs ++ ps) × Chain Q s.1 ps t.1)
    (m : X → Meaning) (over : Meaning → A → Meaning) (Did : V → Meaning → List Op → O → V → Meaning → Type 0) where
  abbrev pub Lent : Y → Op → Y → Type 0
  Lent x o y = R (now x) o (now y)

  abbrev pub Layer : L → Op → L → Type 0
  Layer s o t = D Y Lent (own s, below s) o (own t, below t)

  pub visited : {s t : L} {a : A} {x z : X} {v w : V} {r : O} → own s ≡ a → now (below s) ≡ x → now (below t) ≡ z
      → (os : List Op) × Did v (over (m (now (below s))) (own s)) os r w (over (m (now (below t))) (own t)) × Chain Layer s os t
      → (ps : List Op) × ((os : List Op) × (b : A) × Did v (over (m x) a) os r w (over (m z) b) × Chain (D (List Op) Records) (a, []) os (b, ps)) × Chain R x ps z
  visited {s} {t} e f h d =
      let p = reaches Lent (D Y Lent) (D (List Op) Records) (each Y Lent) [] (chain_map Layer (D Y Lent) (λ l. (own l, below l)) (λ _ _ _ q. q) d.2) in
      rw (← e, ← f, ← h) (p.0, (d.0, own t, d.1, p.1), chain_map Lent R now (λ _ _ _ q. q) p.2)
