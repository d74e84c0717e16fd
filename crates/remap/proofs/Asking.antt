-- What the first no of a list of questions says.
use Rattle.std.proofs.Common.{◌≡◌, Bool, true, false, List, [], ◌∷◌, Ok, Err, Result, sym, refl, ap, subst}
use Rattle.remap.specs.Questions.{asked, FirstNo}

-- one more question that is answered by yes
later : {X F : Type 0} (q : Bool × F) (qs : List (Bool × F)) → q.0 ≡ true → (r : Result X F) → FirstNo qs r → FirstNo (q ∷ qs) r
later q qs e (Ok x) all = (e, all)
later {F = F} q qs e (Err f) n = (q ∷ n.0, n.1, ap (λ (z : List (Bool × F)). q ∷ z) n.2, (e, n.3))

pub first_no : {X F : Type 0} (qs : List (Bool × F)) (x : X) → FirstNo qs (asked qs x)
first_no [] x = tt
first_no ((true, f) ∷ qs) x = later (true, f) qs refl (asked qs x) (first_no qs x)
first_no ((false, f) ∷ qs) x = ([], qs, refl, tt)

-- of an answer that is what the questions give
pub first_no_of : {X F : Type 0} (qs : List (Bool × F)) (x : X) (r : Result X F) → r ≡ asked qs x → FirstNo qs r
first_no_of qs x r e = subst (FirstNo qs) (sym e) (first_no qs x)
