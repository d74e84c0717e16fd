-- One call more at the end of a list.
use Rattle.std.proofs.Common.{◌≡◌, ℕ, List, [], ◌∷◌, ◌++◌, Option, sym, refl, ap, ◌∙◌}
use Rattle.bank.specs.declared.direct.DirectCall.{DirectCall}
use Rattle.bank.specs.Rules.{View, empty}
use Rattle.bank.specs.Machine.{answer, after, answers_from, bank_from, answers}
use Rattle.bank.specs.Laws.{Feeds}

pub bank_push : (b : View) (cs : List DirectCall) (c : DirectCall) → bank_from b (cs ++ c ∷ []) ≡ after (bank_from b cs) c
unfolding bank_from
bank_push b [] c = refl
bank_push b (d ∷ cs) c = bank_push (after b d) cs c

pub answers_push : (b : View) (cs : List DirectCall) (c : DirectCall) → answers_from b (cs ++ c ∷ []) ≡ answers_from b cs ++ answer (bank_from b cs) c ∷ []
unfolding bank_from answers_from
answers_push b [] c = refl
answers_push b (d ∷ cs) c = ap (λ (xs : List (Option ℕ)). answer b d ∷ xs) (answers_push (after b d) cs c)

pub feeds : (b b' : View) (c : DirectCall) (r : Option ℕ) → r ≡ answer b c → b' ≡ after b c → Feeds b c r b'
feeds b b' c r a e cs h = (
  e ∙ ap (λ (x : View). after x c) h ∙ sym (bank_push empty cs c),
  answers_push empty cs c ∙ ap (λ (x : Option ℕ). answers cs ++ x ∷ []) (ap (λ (x : View). answer x c) (sym h) ∙ sym a),
)
