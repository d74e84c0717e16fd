-- From a message to what it asks for, by remapping entries that lie one after another in bytes, 16 bytes each.
use Rattle.std.specs.Prelude.{ℕ, ◌*◌, ◌/◌, Bool, true, List, [], ◌∷◌, length, take, drop, Ok, Err, Result, ◌==◌, nat_lt}
use Rattle.packed.specs.Packed.{is_set}
use Rattle.vectors.specs.Sets.{usable}
use Rattle.entry.specs.declared.format.Entry.{Entry}
use Rattle.entry.specs.declared.format.Target.{Target}
use Rattle.entry.specs.declared.format.Target.TheVariants as target
use Rattle.entry.specs.Layout.{lawful, entry_of, bits_in}
use Rattle.remap.specs.declared.faults.Fault.{Fault}
use Rattle.remap.specs.declared.faults.Fault.TheVariants.{Index, Absent, Unlawful, Source, Vector, Descriptor}
use Rattle.remap.specs.declared.faults.Refusal.{Refusal}
use Rattle.remap.specs.declared.message.Message.{Message}
use Rattle.remap.specs.declared.resolve.Resolved.{Resolved}
use Rattle.remap.specs.declared.resolve.Resolved.TheVariants.{Host, Posted}
use Rattle.remap.specs.Messages.{index_of}
use Rattle.remap.specs.Questions.{asked}
use Rattle.remap.specs.Sources.{passes}

-- how many entries there are, and the bits of one
abbrev pub count : List ℕ → ℕ
count bs = length bs / 16

abbrev pub bits_at : List ℕ → ℕ → ℕ
bits_at bs i = bits_in (take 16 (drop (16 * i) bs))

-- a posted entry names this seat's descriptor; a host entry is not asked
abbrev pub names : ℕ → Target → Bool
names d (target.Host logical hint level delivery destination) = true
names d (target.Posted urgent address) = address == d

abbrev pub outcome : ℕ → Target → Resolved
outcome v (target.Host logical hint level delivery destination) = Host v destination
outcome v (target.Posted urgent address) = Posted v urgent

abbrev pub resolved : Entry → Resolved
resolved e = outcome e.vector e.target

-- what is asked of an entry, for a message from a source to the seat whose descriptor is at d
abbrev pub entry_questions : ℕ → ℕ → Entry → List (Bool × Fault)
entry_questions d source e = (passes e source, Source) ∷ (usable e.vector, Vector) ∷ (names d e.target, Descriptor) ∷ []

-- before that of its bits, and first of its index
abbrev pub bits_questions : ℕ → ℕ → ℕ → List (Bool × Fault)
bits_questions d source x = (is_set 0 x, Absent) ∷ (lawful x, Unlawful) ∷ entry_questions d source (entry_of x)

abbrev pub index_questions : List ℕ → ℕ → ℕ → ℕ → List (Bool × Fault)
index_questions bs d source i = (nat_lt i (count bs), Index) ∷ bits_questions d source (bits_at bs i)

abbrev pub resolves : List ℕ → ℕ → ℕ → ℕ → Result Resolved Fault
resolves bs d source i = asked (index_questions bs d source i) (resolved (entry_of (bits_at bs i)))

-- a refusal has the index to record
abbrev pub recorded : {X : Type 0} → ℕ → Result X Fault → Result X Refusal
recorded i (Ok x) = Ok x
recorded i (Err f) = Err (record { fault = f; index = i })

-- a message: 0 is recorded where it has no index
abbrev pub resolves_index : List ℕ → ℕ → ℕ → Result ℕ Fault → Result Resolved Refusal
resolves_index bs d source (Ok i) = recorded i (resolves bs d source i)
resolves_index bs d source (Err f) = Err (record { fault = f; index = 0 })

abbrev pub resolution : List ℕ → ℕ → ℕ → Message → Result Resolved Refusal
resolution bs d source m = resolves_index bs d source (index_of m)
