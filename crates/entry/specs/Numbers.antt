-- What is refused of a remapping entry: each case has one number.
use Rattle.std.specs.Prelude.{ℕ}
use Rattle.entry.specs.declared.faults.Fault.{Fault}
use Rattle.entry.specs.declared.faults.Fault.TheVariants.{Length, Unlawful}

abbrev pub number : Fault → ℕ
number Length = 0x0E
number Unlawful = 0x24
