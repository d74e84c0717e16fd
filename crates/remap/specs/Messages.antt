-- The message by which a device asks for an interrupt: a write of data to an address.
-- Address: bits 31-20 are FEEh, 19-5 handle bits 14-0, 4 the format (1 is remappable), 3 SHV, 2 handle bit 15, 1-0 any.
-- With SHV (subhandle valid) data bits 15-0 are added to the handle.
use Rattle.std.specs.Prelude.{ℕ, ◌+◌, ◌*◌, ◌^◌, Bool, if◌then◌else◌, List, [], ◌∷◌, Result, ◌==◌}
use Rattle.packed.specs.Packed.{bits, is_set}
use Rattle.remap.specs.declared.faults.Fault.{Fault}
use Rattle.remap.specs.declared.faults.Fault.TheVariants.{Address, Format, Data}
use Rattle.remap.specs.declared.message.Message.{Message}
use Rattle.remap.specs.Questions.{asked}

abbrev pub handle : Message → ℕ
handle m = bits 19 5 m.address + bits 2 2 m.address * 2 ^ 15

abbrev pub shv : Message → Bool
shv m = is_set 3 m.address

-- the index of the entry that is meant; it does not wrap
abbrev pub sum : Message → ℕ
sum m = if shv m then handle m + bits 15 0 m.«data» else handle m

-- with SHV the data's upper half is zero; without it all of the data is
abbrev pub clear_data : Message → Bool
clear_data m = if shv m then bits 31 16 m.«data» == 0 else m.«data» == 0

abbrev pub message_questions : Message → List (Bool × Fault)
message_questions m = ((bits 31 20 m.address == 0xFEE), Address) ∷ (is_set 4 m.address, Format) ∷ (clear_data m, Data) ∷ []

abbrev pub index_of : Message → Result ℕ Fault
index_of m = asked (message_questions m) (sum m)
