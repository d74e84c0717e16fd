-- A script that is read byte by byte, its calls fed to the direct machine.
use Rattle.std.specs.Prelude.{◌≡◌, ℕ, ◌+◌, ◌-◌, ◌^◌, ◌<◌, min, if◌then◌else◌, List, [], ◌∷◌, ◌++◌, length, Some, None, Ok, Err, Option, ◌==◌, ◌≢◌}
use Rattle.bank.specs.declared.direct.DirectCall.{DirectCall}
use Rattle.bank.specs.Rules.{View, view, empty}
use Rattle.bank.specs.Machine.{answer, after, bank_after}
use Rattle.script.specs.declared.session.Session.{Session}
use Rattle.script.specs.declared.reply.Reply.{Reply}
use Rattle.script.specs.Held.{held, grown, read_held, keeps}
use Rattle.script.specs.Laws.{Answer}
use Rattle.script.specs.Reading.{reading}

-- the line so far, how many lines have ended, and the bank
pub record State : Type 0 where
  pub line : Option (List ℕ)
  pub ended : ℕ
  pub bank : View

abbrev pub state : Session → State
state s = record { line = held s.line.line; ended = s.number; bank = view s.bank }

abbrev pub fresh : State
fresh = record { line = Some []; ended = 0; bank = empty }

-- the number of the line that ends next; past 2 ^ 64 - 1 lines the count stands still
abbrev pub next : ℕ → ℕ
next n = min (n + 1) (2 ^ 64 - 1)

-- What comes of a line: nothing of a blank one, the call with its answer, or the refusal.
abbrev pub outcome : ℕ → View → Answer → Option Reply
outcome n b (Ok None) = None
outcome n b (Ok (Some c)) = Some (record { line = n; outcome = Ok (record { call = c; answer = answer b c }) })
outcome n b (Err f) = Some (record { line = n; outcome = Err f })

abbrev pub bank_of : View → Answer → View
bank_of b (Ok None) = b
bank_of b (Ok (Some c)) = after b c
bank_of b (Err f) = b

-- the line ends
abbrev pub reply_to : State → Option Reply
reply_to s = outcome (next s.ended) s.bank (read_held s.line)

abbrev pub after_line : State → State
after_line s = record { line = Some []; ended = next s.ended; bank = bank_of s.bank (read_held s.line) }

-- one byte more: an LF ends the line, any other joins it
abbrev pub reply_at : State → ℕ → Option Reply
reply_at s b = if b == 0x0a then reply_to s else None

abbrev pub after_byte : State → ℕ → State
after_byte s b = if b == 0x0a then after_line s else record s { line = grown s.line b }

-- the call that a line reads as, if it does, and those of lines one after another
abbrev pub call_in : Answer → List DirectCall
call_in (Ok None) = []
call_in (Ok (Some c)) = c ∷ []
call_in (Err f) = []

unfoldable pub calls_of : List (List ℕ) → List DirectCall
calls_of [] = []
calls_of (l ∷ ls) = call_in (reading l) ++ calls_of ls

-- Some lines have been read and the beginning of another: the bank is the direct machine's after the calls of those lines.
abbrev pub HasRead : List (List ℕ) → List ℕ → State → Type 0
HasRead ls rest s = (s.line ≡ keeps rest) × (s.bank ≡ bank_after (calls_of ls)) × (length ls < 2 ^ 64 → s.ended ≡ length ls)

-- Whatever was read before: where a line ends, it is one line more, and the reply is what the direct machine answers to it.
abbrev pub LineRead : State → Option Reply → State → Type 0
LineRead s r t = (ls : List (List ℕ)) (rest : List ℕ) → HasRead ls rest s
    → HasRead (ls ++ rest ∷ []) [] t × (length ls < 2 ^ 64 - 1 → r ≡ outcome (length ls + 1) (bank_after (calls_of ls)) (reading rest))

-- Whatever was read before: a byte other than LF joins the line, and there is no reply.
abbrev pub ByteRead : State → ℕ → Option Reply → State → Type 0
ByteRead s b r t = (b ≡ 0x0a → LineRead s r t) × ((b ≢ 0x0a) → (r ≡ None) × ((ls : List (List ℕ)) (rest : List ℕ) → HasRead ls rest s → HasRead ls (rest ++ b ∷ []) t))
