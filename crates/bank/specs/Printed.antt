-- How a call is printed, which is as a script has it.
use Rattle.std.specs.Prelude.{ℕ, ◌/◌, ◌%◌, true, List, [], ◌∷◌, ◌++◌, codes}
use Rattle.std.specs.Fmt.{digit_glyph}
use Rattle.bank.specs.declared.direct.DirectCall.{DirectCall}
use Rattle.bank.specs.declared.direct.DirectCall.TheVariants.{Take, Eoi, Tpr, Inject}

-- a byte in hex: two digits, the letters as capitals
abbrev pub hex_text : ℕ → List ℕ
hex_text n = digit_glyph true (n / 16) ∷ digit_glyph true (n % 16) ∷ []

abbrev pub call_text : DirectCall → List ℕ
call_text Take = codes "TAKE"
call_text Eoi = codes "EOI"
call_text (Tpr n) = codes "TPR " ++ hex_text n
call_text (Inject v) = codes "INJECT " ++ hex_text v
