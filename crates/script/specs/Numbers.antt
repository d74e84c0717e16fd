-- The number of a call: one or more hex digits of either case, at most FFh.
use Rattle.std.specs.Prelude.{ℕ, ◌+◌, ◌-◌, ◌*◌, Bool, if◌then◌else◌, List, is_some, Some, None, Ok, Err, fold, Option, Result, nat_le}
use Rattle.script.specs.Bytes.{within}
use Rattle.std.specs.List.{list_all}
use Rattle.script.specs.declared.fault.LineFault.{LineFault}
use Rattle.script.specs.declared.fault.LineFault.TheVariants.{NotHex, TooLarge}
use Rattle.std.specs.Option.{unwrap_or}

-- what `0` to `9`, `A` to `F` and `a` to `f` are worth
abbrev pub digit_of : ℕ → Option ℕ
digit_of b =
    if within 48 57 b then Some (b - 48)
    else (if within 65 70 b then Some (b - 55) else (if within 97 102 b then Some (b - 87) else None))

abbrev pub is_hex : ℕ → Bool
is_hex b = is_some (digit_of b)

-- the number that digits write, leading zeros allowed
abbrev pub value_of : List ℕ → ℕ
value_of xs = fold (λ n b. 16 * n + unwrap_or (digit_of b) 0) 0 xs

-- only hex digits, and at most FFh?
abbrev pub number_of : List ℕ → Result ℕ LineFault
number_of xs =
    if list_all is_hex xs then (if nat_le (value_of xs) 0xff then Ok (value_of xs) else Err TooLarge) else Err NotHex
