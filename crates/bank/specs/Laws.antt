-- The laws of the bank, in the words of the subject.
use Rattle.std.specs.Prelude.{◌≡◌, ℕ, ◌<◌, true, false, List, [], ◌∷◌, ◌++◌, Some, None, Option}
use Rattle.vectors.specs.Sets.{class}
use Rattle.bank.specs.declared.direct.DirectCall.{DirectCall}
use Rattle.bank.specs.Rules.{View, deliverable, after_take, ended, after_eoi}
use Rattle.bank.specs.Machine.{answers, bank_after}

-- A deliverable vector's class is above the class of everything in service.
abbrev pub AboveService : View → Type 0
AboveService b = (v k : ℕ) → deliverable b v ≡ true → b.service k ≡ true → class k < class v

-- TAKE answers the highest request or none, and never none while the highest request is deliverable.
abbrev pub TakesHighest : View → Option ℕ → Type 0
TakesHighest b None = (v : ℕ) → b.requests v ≡ true → deliverable b v ≡ false
TakesHighest b (Some v) = (b.requests v ≡ true) × ((k : ℕ) → v < k → b.requests k ≡ false) × (deliverable b v ≡ true)

-- An EOI after a TAKE that answers v answers v, and leaves the vectors in service as they were before that TAKE.
abbrev pub EoiUndoes : View → Option ℕ → Type 0
EoiUndoes b None = Unit {0}
EoiUndoes b (Some v) = (ended (after_take b (Some v)) ≡ Some v) × ((after_eoi (after_take b (Some v)) (Some v)).service ≡ b.service)

-- Whatever list of calls led to a bank: with one call more, the bank and the answers are the direct machine's.
abbrev pub Feeds : View → DirectCall → Option ℕ → View → Type 0
Feeds b c r b' = (cs : List DirectCall) → b ≡ bank_after cs → (b' ≡ bank_after (cs ++ c ∷ [])) × (answers (cs ++ c ∷ []) ≡ answers cs ++ r ∷ [])
