-- A page as a value: what is read from bytes, and the bytes that are written for a value.
use Rattle.std.specs.Prelude.{ℕ, zero, suc, Bool, if◌then◌else◌, ◌&&◌, List, [], ◌∷◌, ◌++◌, Ok, Err, Result, ◌==◌, slice_index}
use Rattle.vectors.specs.Sets.{members, words_of, usable_word}
use Rattle.polled.specs.declared.contents.Contents.{Contents}
use Rattle.polled.specs.declared.faults.Fault.{Fault}
use Rattle.polled.specs.declared.faults.Fault.TheVariants.{NotAPage}
use Rattle.polled.specs.Layout.{polled, is_page, marks_from, marks_of}

-- the value of a page's bytes: its four words and its marks
abbrev pub contents_of : List ℕ → Contents
contents_of bs = record {
  parked = record { words = (polled bs).parked 0 ∷ (polled bs).parked 1 ∷ (polled bs).parked 2 ∷ (polled bs).parked 3 ∷ [] };
  marks = marks_from (slice_index bs 256);
}

abbrev pub reads : List ℕ → Result Contents Fault
reads bs = if is_page bs then Ok (contents_of bs) else Err NotAPage

-- a byte for each number below n: 1 for a member of the set, else 0
unfoldable pub flags : (ℕ → Bool) → ℕ → List ℕ
flags f zero = []
flags f (suc n) = flags f n ++ ((if f n then 1 else 0) ∷ [])

-- the 257 bytes of a value
abbrev pub layout_of : Contents → List ℕ
layout_of c = flags (members c.parked) 256 ++ (marks_of c.marks.rung c.marks.quiet c.marks.aim ∷ [])

-- A value with a parked vector below 10h is not written, nor is any into another number of bytes than 257.
abbrev pub writable : Contents → Bool
writable c = usable_word 0 (words_of c.parked 0)

abbrev pub accepts : Contents → ℕ → Bool
accepts c n = n == 257 && writable c

abbrev pub writes : Contents → ℕ → Result (Unit {0}) Fault
writes c n = if accepts c n then Ok tt else Err NotAPage
