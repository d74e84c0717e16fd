-- What holds of the reading of lines.
use Rattle.std.specs.Prelude.{◌≡◌, ℕ, ◌<◌, ◌≤◌, true, false, List, [], ◌∷◌, ◌++◌, map, length, Some, None, Ok, Err, codes, Option, Result}
use Rattle.bank.specs.declared.direct.DirectCall.{DirectCall}
use Rattle.bank.specs.declared.direct.DirectCall.TheVariants.{Take, Eoi, Tpr, Inject}
use Rattle.bank.specs.Machine.{lawful}
use Rattle.script.specs.Parts.{ends_in_return}
use Rattle.script.specs.Reading.{reading}
use Rattle.script.specs.declared.fault.LineFault.{LineFault}
use Rattle.script.specs.declared.fault.LineFault.TheVariants.{UnknownWord, MissingNumber, TooManyWords, NotHex, TooLarge, Unusable}

abbrev pub Answer : Type 0
Answer = Result (Option DirectCall) LineFault

-- What a line reads as is a call that a bank does not refuse.
abbrev pub Accepted : Answer → Type 0
Accepted (Ok (Some c)) = lawful c ≡ true
Accepted (Ok None) = Unit {0}
Accepted (Err f) = Unit {0}

-- A line xs that reads as r still does with a comment behind it, if it does not end in CR and stays short enough.
abbrev pub Commented : List ℕ → Answer → Type 0
Commented xs r = (ys : List ℕ) → ends_in_return xs ≡ false → length (xs ++ 0x23 ∷ ys) ≤ 128 → reading (xs ++ 0x23 ∷ ys) ≡ r

-- So it does with one CR behind it.
abbrev pub Returned : List ℕ → Answer → Type 0
Returned xs r = ends_in_return xs ≡ false → length xs < 128 → reading (xs ++ 0x0d ∷ []) ≡ r

abbrev pub example_lines : List (List ℕ)
example_lines =
    codes "INJECT 41" ∷ codes "TAKE" ∷ codes "EOI # done" ∷ codes "TPR 3f" ∷ codes "" ∷ codes "# x"
    ∷ codes "INJECT 0F" ∷ codes "TPR 100" ∷ codes "TPR G1" ∷ codes "TPR" ∷ codes "TAKE 1" ∷ codes "take" ∷ []

abbrev pub example_readings : List Answer
example_readings =
    Ok (Some (Inject 0x41)) ∷ Ok (Some Take) ∷ Ok (Some Eoi) ∷ Ok (Some (Tpr 0x3f)) ∷ Ok None ∷ Ok None
    ∷ Err Unusable ∷ Err TooLarge ∷ Err NotHex ∷ Err MissingNumber ∷ Err TooManyWords ∷ Err UnknownWord ∷ []

-- Worked examples: each line with its reading.
abbrev pub Examples : Type 0
Examples = map reading example_lines ≡ example_readings
