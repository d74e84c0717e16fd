-- Why a message is refused: each case has one number.
use Rattle.std.specs.Prelude.{ℕ}
use Rattle.remap.specs.declared.faults.Fault.{Fault}
use Rattle.remap.specs.declared.faults.Fault.TheVariants.{Address, Format, Data, Index, Absent, Unlawful, Source, Vector, Descriptor}

abbrev pub number : Fault → ℕ
number Address = 0x31
number Format = 0x25
number Data = 0x20
number Index = 0x21
number Absent = 0x22
number Unlawful = 0x24
number Source = 0x26
number Vector = 0x30
number Descriptor = 0x27
