-- How the reply to a line is printed: its number, and the call with its answer or why the line is refused.
use Rattle.std.specs.Prelude.{ℕ, List, ◌++◌, codes, Some, None, Ok, Err, Option, Result}
use Rattle.std.specs.Fmt.{decimal}
use Rattle.bank.specs.declared.direct.DirectCall.{DirectCall}
use Rattle.bank.specs.declared.direct.DirectCall.TheVariants.{Take, Eoi, Tpr, Inject}
use Rattle.bank.specs.Printed.{hex_text, call_text}
use Rattle.script.specs.declared.fault.LineFault.{LineFault}
use Rattle.script.specs.declared.fault.LineFault.TheVariants.{TooLong, NotText, UnknownWord, MissingNumber, TooManyWords, NotHex, TooLarge, Unusable}
use Rattle.script.specs.declared.reply.Made.{Made}
use Rattle.script.specs.declared.reply.Reply.{Reply}

-- why a line is refused
abbrev pub reason : LineFault → List ℕ
reason TooLong = codes "more than 128 bytes"
reason NotText = codes "bytes that are no text"
reason UnknownWord = codes "unknown word"
reason MissingNumber = codes "number missing"
reason TooManyWords = codes "too many words"
reason NotHex = codes "no hex number"
reason TooLarge = codes "number above FF"
reason Unusable = codes "vector below 10"

-- the vector that TAKE or EOI answers, or none
abbrev pub vector_text : Option ℕ → List ℕ
vector_text None = codes "none"
vector_text (Some v) = hex_text v

-- what a call answers; those that answer nothing are done
abbrev pub answer_text : DirectCall → Option ℕ → List ℕ
answer_text Take a = vector_text a
answer_text Eoi a = vector_text a
answer_text (Tpr n) a = codes "done"
answer_text (Inject v) a = codes "done"

abbrev pub made_text : Made → List ℕ
made_text m = call_text m.call ++ (codes " -> " ++ answer_text m.call m.answer)

abbrev pub outcome_text : Result Made LineFault → List ℕ
outcome_text (Ok made) = made_text made
outcome_text (Err fault) = codes "refused: " ++ reason fault

abbrev pub reply_text : Reply → List ℕ
reply_text r = decimal r.line ++ (codes ": " ++ outcome_text r.outcome)
