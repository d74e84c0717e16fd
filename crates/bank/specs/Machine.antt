-- The direct machine: an empty bank that is fed a list of calls. It refuses nothing.
use Rattle.std.specs.Prelude.{ℕ, Bool, true, List, [], ◌∷◌, None, Option}
use Rattle.vectors.specs.Sets.{usable}
use Rattle.bank.specs.declared.direct.DirectCall.{DirectCall}
use Rattle.bank.specs.declared.direct.DirectCall.TheVariants.{Take, Eoi, Tpr, Inject}
use Rattle.bank.specs.Rules.{View, empty, taken, after_take, ended, after_eoi, after_tpr, after_inject}

-- a bank's code refuses a vector below 10h, and no other call
abbrev pub lawful : DirectCall → Bool
lawful Take = true
lawful Eoi = true
lawful (Tpr n) = true
lawful (Inject w) = usable w

-- what it answers to a call: TAKE and EOI a vector or none, the others nothing
abbrev pub answer : View → DirectCall → Option ℕ
answer b Take = taken b
answer b Eoi = ended b
answer b (Tpr n) = None
answer b (Inject w) = None

-- the bank after a call
abbrev pub after : View → DirectCall → View
after b Take = after_take b (taken b)
after b Eoi = after_eoi b (ended b)
after b (Tpr n) = after_tpr b n
after b (Inject w) = after_inject b w

-- a list of calls, from any bank
unfoldable pub answers_from : View → List DirectCall → List (Option ℕ)
answers_from b [] = []
answers_from b (c ∷ cs) = answer b c ∷ answers_from (after b c) cs

unfoldable pub bank_from : View → List DirectCall → View
bank_from b [] = b
bank_from b (c ∷ cs) = bank_from (after b c) cs

-- the direct machine's answers to a list, and its bank after it
abbrev pub answers : List DirectCall → List (Option ℕ)
answers cs = answers_from empty cs

abbrev pub bank_after : List DirectCall → View
bank_after cs = bank_from empty cs
