-- Questions that are asked one after another: the first no refuses.
use Rattle.std.specs.Prelude.{◌≡◌, Bool, true, false, if◌then◌else◌, List, [], ◌∷◌, ◌++◌, Ok, Err, Result}

-- a question as its answer, and the fault that a no gives; x is what comes of it if all are answered by yes
abbrev pub asked : {X F : Type 0} → List (Bool × F) → X → Result X F
asked [] x = Ok x
asked (q ∷ qs) x = if q.0 then asked qs x else Err q.1

abbrev pub AllYes : {F : Type 0} → List (Bool × F) → Type 0
AllYes [] = Unit {0}
AllYes (q ∷ qs) = (q.0 ≡ true) × AllYes qs

-- The law of such a list: accepted only if every question is answered by yes; refused by the fault of a question that is
-- answered by no, while every question before it is answered by yes.
abbrev pub FirstNo : {X F : Type 0} → List (Bool × F) → Result X F → Type 0
FirstNo qs (Ok x) = AllYes qs
FirstNo {F = F} qs (Err f) =
    (before : List (Bool × F)) × (after : List (Bool × F)) × (qs ≡ before ++ ((false, f) ∷ after)) × AllYes before
