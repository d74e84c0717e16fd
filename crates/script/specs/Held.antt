-- The line that a buffer holds: its bytes, or none where it has become too long.
use Rattle.std.specs.Prelude.{ℕ, if◌then◌else◌, List, [], ◌∷◌, ◌++◌, length, Some, None, Err, Option, Result, nat_le, nat_lt}
use Rattle.std.specs.Option.{option_map}
use Rattle.arrayvec.specs.ArrayVec.{ArrayVec}
use Rattle.bank.specs.declared.direct.DirectCall.{DirectCall}
use Rattle.script.specs.Reading.{reading}
use Rattle.script.specs.declared.fault.LineFault.{LineFault}
use Rattle.script.specs.declared.fault.LineFault.TheVariants.{TooLong}

-- of the buffer's field
abbrev pub held : Option (ArrayVec ℕ) → Option (List ℕ)
held line = option_map (λ v. v.items) line

-- one byte more
abbrev pub grown : Option (List ℕ) → ℕ → Option (List ℕ)
grown None b = None
grown (Some xs) b = if nat_lt (length xs) 128 then Some (xs ++ b ∷ []) else None

abbrev pub read_held : Option (List ℕ) → Result (Option DirectCall) LineFault
read_held None = Err TooLong
read_held (Some xs) = reading xs

-- what a buffer should hold of a whole line
abbrev pub keeps : List ℕ → Option (List ℕ)
keeps xs = if nat_le (length xs) 128 then Some xs else None
