-- The polled page: 257 bytes. Byte v is 1 if vector v is parked, else 0. Byte 256 has the marks: bit 0 rung, bit 1 quiet,
-- bit 2 that a ring sends a wake-up; its other bits are zero.
use Rattle.std.specs.Prelude.{ℕ, zero, suc, ◌+◌, ◌*◌, ◌/◌, ◌%◌, Bool, true, if◌then◌else◌, ◌&&◌, List, length, replicate, ◌==◌, nat_le, nat_lt, slice_index, slice_set}
use Rattle.packed.specs.Packed.{word, wiped}
use Rattle.sink.specs.declared.face.Aim.{Aim}
use Rattle.sink.specs.declared.face.Aim.TheVariants.{Notification, Wake}
use Rattle.sink.specs.declared.face.Marks.{Marks}
use Rattle.sink.specs.Meaning.{Meaning}
use Rattle.sink.specs.Ops.{Op}
use Rattle.store.specs.Forms.{Form, StoreDid}

-- the marks in their byte
abbrev pub marks_from : ℕ → Marks
marks_from x = record { rung = (x % 2 == 1); quiet = (x / 2 % 2 == 1); aim = (if x / 4 % 2 == 1 then Wake else Notification) }

-- What the bytes of a page mean: the word of a group is its 64 bytes, a bit each. No vector has another name.
abbrev pub polled : List ℕ → Meaning
polled bs = record {
  parked = λ g. (if nat_lt g 4 then word 1 bs (64 * g) 64 else 0);
  rung = (marks_from (slice_index bs 256)).rung;
  quiet = (marks_from (slice_index bs 256)).quiet;
  aim = (marks_from (slice_index bs 256)).aim;
  naming = λ v. v;
}

-- the byte of a vector: 0 or 1, and 0 for a vector below 10h
abbrev pub is_flag : ℕ → ℕ → Bool
is_flag v x = nat_le x (if nat_le 16 v then 1 else 0)

unfoldable pub flags_to : List ℕ → ℕ → Bool
flags_to bs zero = true
flags_to bs (suc n) = flags_to bs n && is_flag n (slice_index bs n)

-- whether 257 bytes hold what a page may hold, and whether bytes are a page
abbrev pub lawful : List ℕ → Bool
lawful bs = flags_to bs 256 && nat_le (slice_index bs 256) 7

abbrev pub is_page : List ℕ → Bool
is_page bs = length bs == 257 && lawful bs

-- the page of an empty sink
unfoldable pub prepared : List ℕ
prepared = replicate 257 0

-- the byte of marks, and bytes with it written
abbrev pub wake_bit : Aim → ℕ
wake_bit Notification = 0
wake_bit Wake = 4

abbrev pub marks_of : Bool → Bool → Aim → ℕ
marks_of rung quiet aim = (if rung then 1 else 0) + (if quiet then 2 else 0) + wake_bit aim

abbrev pub marked : List ℕ → Bool → Bool → Aim → List ℕ
marked bs rung quiet aim = slice_set bs 256 (marks_of rung quiet aim)

-- a page's bytes as the store of a sink
abbrev pub page_form : Form
page_form = record {
  parked = (λ bs. (polled bs).parked);
  marks = λ bs. marks_from (slice_index bs 256);
  noted = λ bs v. slice_set bs v 1;
  emptied = λ bs g. wiped bs (64 * g) 64;
  with_rung = λ bs rung. marked bs rung (polled bs).quiet (polled bs).aim;
  with_quiet = λ bs quiet. marked bs (polled bs).rung quiet (polled bs).aim;
  with_aim = λ bs aim. marked bs (polled bs).rung (polled bs).quiet aim;
}

-- What each operation answers, and which bytes it leaves.
abbrev pub PolledDid : List ℕ → Op → List ℕ → Type 0
PolledDid = StoreDid page_form
