-- Lines and bytes one after another: what has been read, and the direct machine behind it.
use Rattle.std.proofs.Common.{◌≡◌, ℕ, ◌+◌, ◌-◌, ◌^◌, ◌<◌, List, [], ◌∷◌, ◌++◌, length, Some, None, Ok, Err, Option, sym, refl, ap, ◌∙◌, ap₂, append_assoc, append-nil, arith}
use Rattle.std.proofs.lemmas.Grind.{common_steps}
use Rattle.std.proofs.lemmas.List.{length_push}
use Rattle.bank.specs.declared.direct.DirectCall.{DirectCall}
use Rattle.bank.specs.Rules.{View, empty}
use Rattle.bank.specs.Machine.{bank_from, bank_after}
use Rattle.bank.proofs.Feeding.{bank_push}
use Rattle.script.specs.declared.reply.Reply.{Reply}
use Rattle.script.specs.Held.{read_held, keeps}
use Rattle.script.specs.Laws.{Answer}
use Rattle.script.specs.Reading.{reading}
use Rattle.script.specs.Sessions.{State, fresh, next, outcome, bank_of, reply_to, after_line, call_in, calls_of, HasRead, LineRead}

-- what a buffer keeps of a line reads as the whole line
read_keeps : (xs : List ℕ) → read_held (keeps xs) ≡ reading xs
read_keeps xs = grind (arith, common_steps)

-- one line more, at the end
calls_push : (ls : List (List ℕ)) (l : List ℕ) → calls_of (ls ++ l ∷ []) ≡ calls_of ls ++ call_in (reading l)
unfolding calls_of
calls_push [] l = append-nil (call_in (reading l))
calls_push (k ∷ ls) l =
    ap (λ (cs : List DirectCall). call_in (reading k) ++ cs) (calls_push ls l) ∙ sym (append_assoc (call_in (reading k)) (calls_of ls) (call_in (reading l)))

-- the bank after a line is the direct machine's after the calls with the line's
bank_line : (cs : List DirectCall) (a : Answer) → bank_of (bank_after cs) a ≡ bank_after (cs ++ call_in a)
bank_line cs (Ok None) = ap bank_after (sym (append-nil cs))
bank_line cs (Ok (Some c)) = sym (bank_push empty cs c)
bank_line cs (Err f) = ap bank_after (sym (append-nil cs))

next_below : (n : ℕ) → n < 2 ^ 64 - 1 → next n ≡ n + 1
next_below n h = omega arith

pub line_read : (s t : State) (r : Option Reply) → r ≡ reply_to s → t ≡ after_line s → LineRead s r t
line_read s t r p q ls rest h = (
  (
    ap (λ (x : State). x.line) q,
    ap (λ (x : State). x.bank) q ∙ ap₂ bank_of h.1 read ∙ bank_line (calls_of ls) (reading rest) ∙ ap bank_after (sym (calls_push ls rest)),
    (λ l. ap (λ (x : State). x.ended) q ∙ counted (omega (arith, length_push ls rest)) ∙ sym (length_push ls rest)),
  ),
  (λ l. p ∙ ap₂ (λ (n : ℕ) (a : Answer). outcome n s.bank a) (counted l) read ∙ ap (λ (b : View). outcome (length ls + 1) b (reading rest)) h.1),
)
  where
    read : read_held s.line ≡ reading rest
    read = ap read_held h.0 ∙ read_keeps rest

    counted : length ls < 2 ^ 64 - 1 → next s.ended ≡ length ls + 1
    counted l = ap next (h.2 (omega arith)) ∙ next_below (length ls) l

pub nothing_read : HasRead [] [] fresh
unfolding calls_of bank_from
nothing_read = (refl, refl, (λ l. refl))
