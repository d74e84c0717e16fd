-- What TAKE and EOI do to the vectors in service.
use Rattle.std.proofs.Common.{◌≡◌, ℕ, ◌<◌, ◌≤◌, Bool, true, false, Some, None, Option, sym, refl, ap, arith}
use mathlib.Core.Path.{fun_ext}
use Rattle.std.proofs.lemmas.Bool.Decides.{nat_tests}
use Rattle.vectors.specs.Sets.{class, with, without}
use Rattle.vectors.specs.Search.{highest, classed}
use Rattle.vectors.proofs.Searches.{highest_is}
use Rattle.bank.specs.Rules.{View}
use Rattle.bank.specs.Laws.{EoiUndoes}

-- a vector above everything in a set is the highest of the set with it
highest_with : (f : ℕ → Bool) (v : ℕ) → ((k : ℕ) → 256 ≤ k → f k ≡ false) → v < 256 → ((k : ℕ) → f k ≡ true → class k < class v) → highest (with f v) ≡ Some v
highest_with f v bound small above = taken_out (highest (with f v)) (highest_is (with f v) past (Some (v, class v)) (member, top, refl))
  where
    past : (k : ℕ) → 256 ≤ k → with f v k ≡ false
    past k h = grind (arith, nat_tests, bound k h)

    member : with f v v ≡ true
    member = grind (arith, nat_tests)

    top : (k : ℕ) → v < k → with f v k ≡ false
    top k h = grind (arith, nat_tests, above k)

    taken_out : (o : Option ℕ) → Some (v, class v) ≡ classed o → o ≡ Some v
    taken_out None e = cc
    taken_out (Some u) e = let p : ◌≡◌ {A = ℕ × ℕ} (v, class v) (u, class u) = cc in ap (λ (x : ℕ × ℕ). Some x.0) (sym p)

-- a vector that was not in a set, put in and taken out again
with_without : (f : ℕ → Bool) (v : ℕ) → f v ≡ false → without (with f v) v ≡ f
with_without f v h = fun_ext (λ k. grind (arith, nat_tests, h))

-- an EOI undoes what the TAKE of a vector above everything in service did there
pub eoi_undoes : (b : View) (v : ℕ) → ((k : ℕ) → 256 ≤ k → b.service k ≡ false) → v < 256 → ((k : ℕ) → b.service k ≡ true → class k < class v) → EoiUndoes b (Some v)
eoi_undoes b v bound small above = (
  highest_with b.service v bound small above,
  with_without b.service v (grind (arith, above v)),
)

-- the same where a number's class bounds everything in service
pub eoi_undoes_above : (b : View) (n : ℕ) → ((k : ℕ) → 256 ≤ k → b.service k ≡ false) → ((k : ℕ) → b.service k ≡ true → class k ≤ class n)
    → (v : ℕ) → v < 256 → class n < class v → EoiUndoes b (Some v)
eoi_undoes_above b n bound below v small h =
    let above : (k : ℕ) → b.service k ≡ true → class k < class v = λ k s. omega (arith, below k s) in eoi_undoes b v bound small above
