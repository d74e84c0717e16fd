-- The 64 bytes of a descriptor.
-- Bits 255-0 are the parked vectors: vector v is bit v mod 8 of byte v div 8. Byte 32 has the marks: bit 0 rung, bit 1 quiet.
-- Byte 34 is the vector that a ring sends: F2h aims at notification, F1h at wake. Byte 37 is the destination, any value.
-- No vector below 10h is parked, and all other bits are zero.
use Rattle.std.specs.Prelude.{◌≡◌, ℕ, ◌+◌, ◌*◌, ◌/◌, ◌%◌, Bool, true, false, if◌then◌else◌, ◌&&◌, ◌||◌, List, [], ◌∷◌, length, replicate, Ok, Err, Result, ◌==◌, nat_lt, slice_index, slice_set}
use Rattle.packed.specs.Packed.{word}
use Rattle.sink.specs.declared.face.Aim.{Aim}
use Rattle.sink.specs.declared.face.Aim.TheVariants.{Notification, Wake}
use Rattle.sink.specs.declared.face.Marks.{Marks}
use Rattle.sink.specs.Meaning.{Meaning}
use Rattle.descriptor.specs.declared.faults.Fault.{Fault}
use Rattle.descriptor.specs.declared.faults.Fault.TheVariants.{Length, Contents}

-- the byte of the marks, and back
abbrev pub marked : Bool → Bool → ℕ
marked rung quiet = (if rung then 1 else 0) + (if quiet then 2 else 0)

abbrev pub rung_in : ℕ → Bool
rung_in b = b % 2 == 1

abbrev pub quiet_in : ℕ → Bool
quiet_in b = b / 2 % 2 == 1

-- the vector of an aim, and back
abbrev pub sent_for : Aim → ℕ
sent_for Notification = 0xF2
sent_for Wake = 0xF1

abbrev pub aim_in : ℕ → Aim
aim_in b = if b == 0xF1 then Wake else Notification

-- the marks, and the word of each group
abbrev pub marks_in : List ℕ → Marks
marks_in bs = record { rung = rung_in (slice_index bs 32); quiet = quiet_in (slice_index bs 32); aim = aim_in (slice_index bs 34) }

abbrev pub parked_in : List ℕ → ℕ → ℕ
parked_in bs g = if nat_lt g 4 then word 8 bs (8 * g) 8 else 0

abbrev pub described : List ℕ → Meaning
described bs = record {
  parked = parked_in bs;
  rung = (marks_in bs).rung;
  quiet = (marks_in bs).quiet;
  aim = (marks_in bs).aim;
  naming = λ v. v;
}

-- may the byte at place k be b?
abbrev pub permits : ℕ → ℕ → Bool
permits k b =
    if nat_lt k 2 then b == 0
    else if nat_lt k 32 then true
    else if k == 32 then nat_lt b 4
    else if k == 34 then b == 0xF1 || b == 0xF2
    else if k == 37 then true
    else b == 0

-- are all bytes, the first of them at place k, as they may be?
unfoldable pub lawful_from : ℕ → List ℕ → Bool
lawful_from k [] = true
lawful_from k (b ∷ bs) = permits k b && lawful_from (k + 1) bs

abbrev pub lawful : List ℕ → Bool
lawful bs = lawful_from 0 bs

-- bytes that are a descriptor
abbrev pub IsDescriptor : List ℕ → Type 0
IsDescriptor bs = (length bs ≡ 64) × (lawful bs ≡ true)

-- bytes taken up as a descriptor: the length is judged first
abbrev pub verdict : {X : Type 0} → List ℕ → X → Result X Fault
verdict bs x = if length bs == 64 then (if lawful bs then Ok x else Err Contents) else Err Length

-- the same of an answer, whatever came of taking the bytes up
abbrev pub Judged : {X : Type 0} → List ℕ → Result X Fault → Type 0
Judged bs (Ok x) = IsDescriptor bs
Judged bs (Err Length) = length bs ≡ 64 → ⊥
Judged bs (Err Contents) = (length bs ≡ 64) × (lawful bs ≡ false)

-- the bytes of an empty descriptor
abbrev pub prepared : List ℕ
prepared = slice_set (replicate 64 0) 34 0xF2
