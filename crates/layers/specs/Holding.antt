-- Migration: while it is frozen, posts and bells stay in the layer and nothing of them reaches the sink below.
use Rattle.std.specs.Prelude.{◌≡◌, ℕ, Bool, true, false, if◌then◌else◌, ◌||◌, List, [], Some, None, Ok, Err, Option, Result, bit_or, nat_lt}
use Rattle.vectors.specs.declared.faults.Fault.{Fault}
use Rattle.vectors.specs.Sets.{words_of, blank, gained, cleared}
use Rattle.layers.specs.declared.held.Held.{Held}
use Rattle.sink.specs.declared.face.Placed.{Placed}
use Rattle.sink.specs.declared.face.Ring.{Ring}
use Rattle.sink.specs.declared.face.Route.TheVariants.{Parked}
use Rattle.sink.specs.Meaning.{Meaning, route_of}
use Rattle.sink.specs.Ops.{Op, park, bell, ack, set_quiet, set_aim, draw, freeze, thaw, Chain, Records}

-- the layer's own fields: the frozen mark, its set by words, and its rung mark
pub record Own : Type 0 where
  pub frozen : Bool
  pub set : ℕ → ℕ
  pub rung : Bool

-- and as the code holds them
abbrev pub own_of : Held → Own
own_of h = record { frozen = h.frozen; set = words_of h.set; rung = h.rung }

-- it begins thawed, its set empty and its mark clear
abbrev pub fresh : Own
fresh = record { frozen = false; set = blank; rung = false }

-- two sets together, word by word
abbrev pub both : (ℕ → ℕ) → (ℕ → ℕ) → ℕ → ℕ
both p q g = bit_or (p g) (q g)

-- parked is what is in its set or below; it is rung if either is
abbrev pub migrated : Meaning → Own → Meaning
migrated m a = record m { parked = both a.set m.parked; rung = a.rung || m.rung }

-- a post that it keeps: the vector, by its name, joins the set
abbrev pub kept : Own → Result Placed Fault → Own
kept a (Ok p) = record a { set = gained a.set p.vector }
kept a (Err f) = a

-- a bell that rings in the layer sets its own mark
abbrev pub chimed : Own → Option Ring → Own
chimed a None = a
chimed a (Some r) = record a { rung = true }

-- a bell stays in the layer while its own mark is set or it is frozen
abbrev pub stays : {X : Type 0} → Own × X → Bool
stays s = s.0.rung || s.0.frozen

-- a word of its own joined with the answer from below
abbrev pub together : ℕ → Result ℕ Fault → Result ℕ Fault
together x (Ok w) = Ok (bit_or x w)
together x (Err f) = Err f

-- The layer's own fields and a sink that goes by R: what an operation does to the two.
abbrev pub MigratedDid : {X : Type 0} → (X → Op → X → Type 0) → Own × X → Op → Own × X → Type 0
MigratedDid R s (park v r) t =
    (s.0.frozen ≡ true → (t.0 ≡ kept s.0 r) × (t.1 ≡ s.1) × (route_of r ≡ Parked))
    × (s.0.frozen ≡ false → (t.0 ≡ s.0) × R s.1 (park v r) t.1)
MigratedDid R s (bell urgent r) t =
    (stays s ≡ true → (t.0 ≡ chimed s.0 r) × (t.1 ≡ s.1))
    × (stays s ≡ false → (t.0 ≡ s.0) × R s.1 (bell urgent r) t.1)
MigratedDid R s ack t = (t.0 ≡ record s.0 { rung = false }) × R s.1 ack t.1
MigratedDid R s (set_quiet q) t = (t.0 ≡ s.0) × R s.1 (set_quiet q) t.1
MigratedDid R s (set_aim a) t = (t.0 ≡ s.0) × R s.1 (set_aim a) t.1
MigratedDid R s (draw g r) t =
    (below : Result ℕ Fault) × R s.1 (draw g below) t.1 × (r ≡ together (s.0.set g) below)
    × (t.0 ≡ (if nat_lt g 4 then record s.0 { set = cleared s.0.set g } else s.0))
MigratedDid R s freeze t = (t.0 ≡ record s.0 { frozen = true }) × R s.1 freeze t.1
MigratedDid R s thaw t = (t.0 ≡ record s.0 { frozen = false }) × R s.1 thaw t.1

-- of the operations os on the layer, ps reach the sink below; the layer's own fields go from a to b
abbrev pub MigrationPasses : Own → List Op → List Op → Own → Type 0
MigrationPasses a os ps b = Chain (MigratedDid Records) (a, []) os (b, ps)

-- A visit through a fresh migration layer, of a visitor that goes by D: it does some operations to the layer, of which ps
-- reach the sink below.
abbrev pub MigratedVisit : {V O : Type 0} → (V → Meaning → List Op → O → V → Meaning → Type 0) → V → Meaning → List Op → O → V → Meaning → Type 0
MigratedVisit D v m ps r w n = (os : List Op) × (own : Own) × D v (migrated m fresh) os r w (migrated n own) × MigrationPasses fresh os ps own
