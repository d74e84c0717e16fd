-- Worked examples of the bank's rules, all settled by one computation.
use Rattle.std.specs.Prelude.{◌≡◌, ℕ, if◌then◌else◌, List, [], ◌∷◌, map, Some, None, Option}
use Rattle.bank.specs.declared.direct.DirectCall.{DirectCall}
use Rattle.bank.specs.declared.direct.DirectCall.TheVariants.{Take, Tpr, Inject}
use Rattle.bank.specs.Rules.{View, ppr, deliverable, taken}
use Rattle.bank.specs.Machine.{bank_after}

-- what is asked of the direct machine's bank after some calls, and the answer
pub record Example : Type 0 where
  pub calls : List DirectCall
  pub asked : View → Option ℕ
  pub expected : Option ℕ

abbrev pub examples : List Example
examples =
    -- TPR 3Fh, request 40h: TAKE gives 40h
    record { calls = Tpr 0x3F ∷ Inject 0x40 ∷ []; asked = taken; expected = Some 0x40 }
    -- TPR 40h, request 4Fh: none
    ∷ record { calls = Tpr 0x40 ∷ Inject 0x4F ∷ []; asked = taken; expected = None }
    -- in service 51h, TPR 45h: PPR is 50h
    ∷ record { calls = Inject 0x51 ∷ Take ∷ Tpr 0x45 ∷ []; asked = λ b. Some (ppr b); expected = Some 0x50 }
    -- at TPR 0 a requested 10h is deliverable
    ∷ record { calls = Inject 0x10 ∷ []; asked = λ b. if deliverable b 0x10 then Some 0x10 else None; expected = Some 0x10 }
    ∷ []

abbrev pub Settled : Type 0
Settled = map (λ (e : Example). e.asked (bank_after e.calls)) examples ≡ map (λ (e : Example). e.expected) examples
