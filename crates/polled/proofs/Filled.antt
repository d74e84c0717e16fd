-- An array that a closure fills, place by place.
use Rattle.std.proofs.Common.{◌≡◌, ℕ, zero, suc, ◌+◌, ◌<◌, List, get_or, subst, arith}
use denote.Param.Members.{Mut, Called}
use Rattle.std.specs.Array.{IsFromFnResultFrom}

-- a closure that stays as it is, whose answer at each place has P
module _ {F : Type 0} (g : Mut F (ℕ × Unit {0}) ℕ) (f : F) (P : ℕ → ℕ → Type 0)
    (each : (x y : ℕ) (q : F) → Called g f (x, tt) y q → (q ≡ f) × P x y) where
  filled : (ys : List ℕ) (i n k : ℕ) → IsFromFnResultFrom g f ys i n → k < n → P (i + k) (get_or ys (i + k) 0)
  filled ys i zero k r h = absurd (omega arith)
  filled ys i (suc n) zero r h =
      let here : i + 0 ≡ i = omega arith in
      let e : get_or ys i 0 ≡ r.1 = r.2.1 0 in
      rw (here, e) (each i r.1 r.0 r.3).1
  filled ys i (suc n) (suc k) r h =
      let there : i + suc k ≡ i + 1 + k = omega arith in
      let rest : IsFromFnResultFrom g f ys (i + 1) n = subst (λ (q : F). IsFromFnResultFrom g q ys (i + 1) n) (each i r.1 r.0 r.3).0 r.4 in
      rw there (filled ys (i + 1) n k rest (omega arith))

  pub filled_at : (ys : List ℕ) (n k : ℕ) → IsFromFnResultFrom g f ys 0 n → k < n → P k (get_or ys k 0)
  filled_at ys n k r h = let z : 0 + k ≡ k = omega arith in rw z at (filled ys 0 n k r h)
