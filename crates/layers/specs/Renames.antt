-- Renaming: a post goes down under the name that the table has for its vector; all else passes down as it is.
use Rattle.std.specs.Prelude.{◌≡◌, ℕ, true, false, List, [], slice_index}
use Rattle.vectors.specs.Sets.{usable}
use Rattle.sink.specs.Meaning.{Meaning}
use Rattle.sink.specs.Ops.{Op, park, bell, ack, set_quiet, set_aim, draw, freeze, thaw, Chain, Records}

-- the table first, then the naming below
abbrev pub renamed : Meaning → List ℕ → Meaning
renamed m table = record m { naming = λ v. m.naming (slice_index table v) }

-- A table and a sink that goes by R: what an operation does to the two. The table stays; a vector that is refused reaches nothing.
abbrev pub RenamedDid : {X : Type 0} → (X → Op → X → Type 0) → List ℕ × X → Op → List ℕ × X → Type 0
RenamedDid R s (park v r) t =
    (t.0 ≡ s.0) × (usable v ≡ true → R s.1 (park (slice_index s.0 v) r) t.1) × (usable v ≡ false → t.1 ≡ s.1)
RenamedDid R s (bell urgent r) t = (t.0 ≡ s.0) × R s.1 (bell urgent r) t.1
RenamedDid R s ack t = (t.0 ≡ s.0) × R s.1 ack t.1
RenamedDid R s (set_quiet b) t = (t.0 ≡ s.0) × R s.1 (set_quiet b) t.1
RenamedDid R s (set_aim a) t = (t.0 ≡ s.0) × R s.1 (set_aim a) t.1
RenamedDid R s (draw g r) t = (t.0 ≡ s.0) × R s.1 (draw g r) t.1
RenamedDid R s freeze t = (t.0 ≡ s.0) × R s.1 freeze t.1
RenamedDid R s thaw t = (t.0 ≡ s.0) × R s.1 thaw t.1

-- of the operations os on the layer, ps reach the sink below
abbrev pub RenamingPasses : List ℕ → List Op → List Op → Type 0
RenamingPasses table os ps = Chain (RenamedDid Records) (table, []) os (table, ps)

-- A visit through a renaming layer, of a visitor that goes by D: it does some operations to the layer, of which ps reach the
-- sink below.
abbrev pub RenamedVisit : {V O : Type 0} → List ℕ → (V → Meaning → List Op → O → V → Meaning → Type 0) → V → Meaning → List Op → O → V → Meaning → Type 0
RenamedVisit table D v m ps r w n = (os : List Op) × D v (renamed m table) os r w (renamed n table) × RenamingPasses table os ps
