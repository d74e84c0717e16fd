-- Bytes that are no page are refused by one number.
use Rattle.std.specs.Prelude.{ℕ}
use Rattle.polled.specs.declared.faults.Fault.{Fault}
use Rattle.polled.specs.declared.faults.Fault.TheVariants.{NotAPage}

abbrev pub number : Fault → ℕ
number NotAPage = 0x0D
