-- What is refused of a descriptor's bytes: each case has one number.
use Rattle.std.specs.Prelude.{ℕ}
use Rattle.descriptor.specs.declared.faults.Fault.{Fault}
use Rattle.descriptor.specs.declared.faults.Fault.TheVariants.{Length, Contents}

abbrev pub number : Fault → ℕ
number Length = 0x0B
number Contents = 0x0C
