-- What is refused of a vector or of a group: each case has one number.
use Rattle.std.specs.Prelude.{ℕ}
use Rattle.vectors.specs.declared.faults.Fault.{Fault}
use Rattle.vectors.specs.declared.faults.Fault.TheVariants.{Unusable, NoGroup}

abbrev pub number : Fault → ℕ
number Unusable = 0x12
number NoGroup = 0x15
