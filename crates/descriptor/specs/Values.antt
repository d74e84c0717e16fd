-- A descriptor as a value: what reading its bytes gives, and the bytes that writing it leaves.
use Rattle.std.specs.Prelude.{◌≡◌, ℕ, Bool, true, if◌then◌else◌, List, [], ◌∷◌, ◌++◌, length, replicate, Ok, Err, Result, ◌==◌, slice_index}
use Rattle.packed.specs.Packed.{word, bytes_of}
use Rattle.vectors.specs.Sets.{words_of, usable_word}
use Rattle.descriptor.specs.declared.contents.Contents.{Contents}
use Rattle.descriptor.specs.declared.faults.Fault.{Fault}
use Rattle.descriptor.specs.declared.faults.Fault.TheVariants as fault
use Rattle.descriptor.specs.Layout.{marked, sent_for, marks_in, verdict}

-- the value in 64 lawful bytes
abbrev pub contents_of : List ℕ → Contents
contents_of bs = record {
  parked = record { words = word 8 bs 0 8 ∷ word 8 bs 8 8 ∷ word 8 bs 16 8 ∷ word 8 bs 24 8 ∷ [] };
  marks = marks_in bs;
  ndst = slice_index bs 37;
}

abbrev pub reads : List ℕ → Result Contents Fault
reads bs = verdict bs (contents_of bs)

-- the bytes of a value from place 32 on, and all 64 of them
abbrev pub tail_of : Contents → List ℕ
tail_of c = marked c.marks.rung c.marks.quiet ∷ 0 ∷ sent_for c.marks.aim ∷ 0 ∷ 0 ∷ c.ndst ∷ replicate 26 0

abbrev pub layout_of : Contents → List ℕ
layout_of c =
    bytes_of 8 (words_of c.parked 0) ++ (bytes_of 8 (words_of c.parked 1) ++ (bytes_of 8 (words_of c.parked 2) ++ (bytes_of 8 (words_of c.parked 3) ++ tail_of c)))

-- a value with a vector below 10h is not written; the room is judged first
abbrev pub writable : Contents → Bool
writable c = usable_word 0 (words_of c.parked 0)

abbrev pub writes : Contents → List ℕ → Result (Unit {0}) Fault
writes c bs = if length bs == 64 then (if writable c then Ok tt else Err fault.Contents) else Err fault.Length

abbrev pub written : Contents → List ℕ → List ℕ
written c bs = if length bs == 64 then (if writable c then layout_of c else bs) else bs

-- bytes that writing a value gives
abbrev pub WrittenAs : Contents → List ℕ → Type 0
WrittenAs c bs = (writable c ≡ true) × (layout_of c ≡ bs)
