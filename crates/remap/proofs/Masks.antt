-- Numbers that agree in every bit outside a mask.
use Rattle.std.proofs.Common.{◌≡◌, ℕ, ◌<◌, max, true, eqb, sym, ap, ◌∙◌, ⊎_elim, arith}
use lib.Bits.{bit_or}
use Rattle.std.specs.Int.{bit_at}
use Rattle.std.proofs.lemmas.Nat.Bits.{bit_at_or, bit_at-lt, same_from_bits}
use Rattle.std.proofs.lemmas.Bool.{eq-eqb, eqb-true, eqb-false, cases_Bool}
use Rattle.std.proofs.lemmas.Bool.Decides.{nat_tests}
use Rattle.vectors.specs.Sets.{bit}
use Rattle.remap.specs.Sources.{same_but, Agree}

-- a binary digit is told by whether it is 1
digit_same : (x y : ℕ) → x < 2 → y < 2 → eqb x 1 ≡ eqb y 1 → x ≡ y
digit_same x y h k e = grind (arith, nat_tests)

pub agree_yes : (mask a b : ℕ) → same_but mask a b ≡ true → Agree mask a b
unfolding bit
agree_yes mask a b e k out =
    let same : bit_or a mask ≡ bit_or b mask = eqb-true _ _ e in
    let outside : bit_at mask k ≡ 1 → ⊥ = eqb-false _ 1 out in
    let both : max (bit_at a k) (bit_at mask k) ≡ max (bit_at b k) (bit_at mask k) = sym (bit_at_or a mask k) ∙ ap (λ (x : ℕ). bit_at x k) same ∙ bit_at_or b mask k in
    let digit : bit_at a k ≡ bit_at b k = omega arith in
    ap (λ (n : ℕ). eqb n 1) digit

pub agree_no : (mask a b : ℕ) → Agree mask a b → same_but mask a b ≡ true
unfolding bit
agree_no mask a b all =
    eq-eqb (bit_or a mask) (bit_or b mask) (same_from_bits (bit_or a mask) (bit_or b mask) (λ k.
    let both : max (bit_at a k) (bit_at mask k) ≡ max (bit_at b k) (bit_at mask k) =
    ⊎_elim
    (λ (m : eqb (bit_at mask k) 1 ≡ true). let one : bit_at mask k ≡ 1 = eqb-true _ 1 m in omega arith)
    (λ m. ap (λ (n : ℕ). max n (bit_at mask k)) (digit_same (bit_at a k) (bit_at b k) (bit_at-lt a k) (bit_at-lt b k) (all k m)))
    (cases_Bool (eqb (bit_at mask k) 1)) in
    bit_at_or a mask k ∙ both ∙ sym (bit_at_or b mask k)))
