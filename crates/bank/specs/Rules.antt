-- The bank's rules, over its view: the sets of requested vectors and of vectors in service, and TPR.
use Rattle.std.specs.Prelude.{ℕ, ◌*◌, Bool, if◌then◌else◌, Some, None, Option, nat_le, nat_lt}
use Rattle.std.specs.Option.{unwrap_or}
use Rattle.vectors.specs.Sets.{class, members, none, with, without, joined}
use Rattle.vectors.specs.Search.{highest}
use Rattle.bank.specs.declared.state.Bank.{Bank}

pub record View : Type 0 where
  pub requests : ℕ → Bool
  pub service : ℕ → Bool
  pub tpr : ℕ

abbrev pub view : Bank → View
view b = record { requests = members b.requests; service = members b.service; tpr = b.tpr }

abbrev pub empty : View
empty = record { requests = none; service = none; tpr = 0 }

-- the highest in service, 0 if none
abbrev pub highest_service : View → ℕ
highest_service b = unwrap_or (highest b.service) 0

-- PPR: TPR if its class is at least that of s, the highest in service, else s with its low four bits cleared
abbrev pub ppr_over : ℕ → ℕ → ℕ
ppr_over s tpr = if nat_le (class s) (class tpr) then tpr else class s * 16

abbrev pub ppr : View → ℕ
ppr b = ppr_over (highest_service b) b.tpr

-- a vector is deliverable if its class is above that of PPR
abbrev pub deliverable : View → ℕ → Bool
deliverable b v = nat_lt (class (ppr b)) (class v)

-- TAKE answers the highest request if that is deliverable
abbrev pub if_deliverable : View → Option ℕ → Option ℕ
if_deliverable b None = None
if_deliverable b (Some v) = if deliverable b v then Some v else None

abbrev pub taken : View → Option ℕ
taken b = if_deliverable b (highest b.requests)

-- and a vector that it answers moves from the requests into service
abbrev pub after_take : View → Option ℕ → View
after_take b None = b
after_take b (Some v) = record b { requests = without b.requests v; service = with b.service v }

-- EOI answers the highest in service, which leaves it
abbrev pub ended : View → Option ℕ
ended b = highest b.service

abbrev pub after_eoi : View → Option ℕ → View
after_eoi b None = b
after_eoi b (Some v) = record b { service = without b.service v }

-- TPR n sets the task priority
abbrev pub after_tpr : View → ℕ → View
after_tpr b n = record b { tpr = n }

-- a vector, and the vectors of a group's word, join the requests
abbrev pub after_inject : View → ℕ → View
after_inject b v = record b { requests = with b.requests v }

abbrev pub after_join : View → ℕ → ℕ → View
after_join b g w = record b { requests = joined b.requests g w }
