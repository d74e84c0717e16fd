-- A descriptor's bytes as its sink changes them.
use Rattle.std.specs.Prelude.{ℕ, ◌*◌, ◌/◌, ◌%◌, ◌^◌, Bool, List, bit_or, slice_index, slice_set}
use Rattle.packed.specs.Packed.{wiped}
use Rattle.sink.specs.Ops.{Op}
use Rattle.store.specs.Forms.{Form, StoreDid}
use Rattle.descriptor.specs.Layout.{marked, rung_in, quiet_in, sent_for, marks_in, parked_in}

-- the bytes with the bit of vector v set, and with other marks
abbrev pub noted : List ℕ → ℕ → List ℕ
noted bs v = slice_set bs (v / 8) (bit_or (slice_index bs (v / 8)) (2 ^ (v % 8)))

abbrev pub remarked : List ℕ → Bool → Bool → List ℕ
remarked bs rung quiet = slice_set bs 32 (marked rung quiet)

-- a descriptor's bytes as the store of a sink
abbrev pub descriptor_form : Form
descriptor_form = record {
  parked = parked_in;
  marks = marks_in;
  noted = noted;
  emptied = λ bs g. wiped bs (8 * g) 8;
  with_rung = λ bs rung. remarked bs rung (quiet_in (slice_index bs 32));
  with_quiet = λ bs quiet. remarked bs (rung_in (slice_index bs 32)) quiet;
  with_aim = λ bs aim. slice_set bs 34 (sent_for aim);
}

-- What each operation answers, and which bytes it leaves.
abbrev pub DescriptorDid : List ℕ → Op → List ℕ → Type 0
DescriptorDid = StoreDid descriptor_form
