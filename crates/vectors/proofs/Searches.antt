-- The highest vector, by the highest group that has one.
use Rattle.std.proofs.Common.{◌≡◌, ℕ, zero, suc, ◌+◌, ◌-◌, ◌*◌, ◌/◌, ◌%◌, ◌^◌, ◌<◌, ◌≤◌, Bool, true, false, List, length, get_or, Some, None, Option, sym, refl, ap, ◌∙◌, ap₂, ⊎_elim, lt_of_lt_of_le, add-one, arith, pow_mono}
use lib.Count.{count_leading_zeros, leading_top}
use Rattle.std.proofs.lemmas.Bool.{cases_eq, cases_lt, cond-true, cond-false, both_ways}
use Rattle.vectors.specs.Sets.{bit, has, group}
use Rattle.vectors.specs.Search.{highest_to, highest, classed, IsHighest}
use Rattle.vectors.proofs.Bitwise.{bit_top, bit_above, has_none, has_past}

high_none : (f : ℕ → Bool) (n : ℕ) → ((k : ℕ) → f k ≡ false) → highest_to f n ≡ None
unfolding highest_to
high_none f zero h = refl
high_none f (suc n) h = cond-false (f n) (Some n) (highest_to f n) (h n) ∙ high_none f n h

high_some : (f : ℕ → Bool) (v n : ℕ) → f v ≡ true → ((k : ℕ) → v < k → f k ≡ false) → v < n → highest_to f n ≡ Some v
unfolding highest_to
high_some f v zero m h l = absurd (omega arith)
high_some f v (suc n) m h l =
    ⊎_elim (λ (e : v ≡ n). ap (λ (x : ℕ). highest_to f (suc x)) (sym e) ∙ cond-true (f v) (Some v) (highest_to f v) m)
    (λ (d : v ≡ n → ⊥). cond-false (f n) (Some n) (highest_to f n) (h n (omega arith)) ∙ high_some f v n m h (omega arith))
    (cases_eq v n)

-- a set of vectors below 256 has one highest: what obeys the law is what the definition gives
pub highest_is : (f : ℕ → Bool) → ((k : ℕ) → 256 ≤ k → f k ≡ false) → (r : Option (ℕ × ℕ)) → IsHighest f r → r ≡ classed (highest f)
highest_is f bound None h = sym (ap classed (high_none f 256 h))
highest_is f bound (Some p) h =
    let l : p.0 < 256 = ⊎_elim (λ (l : p.0 < 256). l) (λ (l : 256 ≤ p.0). absurd (both_ways (f p.0) (bound p.0 l) h.0)) (cases_lt p.0 256) in
    let e : highest_to f 256 ≡ Some p.0 = high_some f p.0 256 h.0 h.1 l in
    ap (λ (c : ℕ). Some (p.0, c)) h.2 ∙ sym (ap classed e)

-- a set of four words has no vector above FFh
pub past_vectors : (ws : List ℕ) → length ws ≡ 4 → (k : ℕ) → 256 ≤ k → has ws k ≡ false
past_vectors ws e k h = has_past ws k (omega arith)

-- the highest vector of a group that has one is the highest of all, if the groups above have none
pub top_of_group : (ws : List ℕ) (g v : ℕ) → get_or ws g 0 < 2 ^ 64 → (get_or ws g 0 ≡ 0 → ⊥) → v ≡ g * 64 + (63 - count_leading_zeros 64 (get_or ws g 0))
    → ((h : ℕ) → g < h → get_or ws h 0 ≡ 0) → IsHighest (has ws) (Some (v, v / 16))
unfolding has
top_of_group ws g v f n e above =
    let t = leading_top 64 (get_or ws g 0) (omega arith) f in
    let d : group v ≡ g = omega (arith, t.1) in
    let m : v % 64 ≡ t.0 = omega (arith, t.1) in (
      ap₂ (λ (x y : ℕ). bit (get_or ws x 0) y) d m ∙ bit_top (get_or ws g 0) t.0 t.2 (rw add-one t.3),
      (λ k h. ⊎_elim
          (λ (q : group k ≡ g). ap (λ (x : ℕ). bit (get_or ws x 0) (k % 64)) q ∙ bit_above (get_or ws g 0) (k % 64) (lt_of_lt_of_le t.3 (pow_mono (omega (arith, t.1)))))
          (λ q. has_none ws k (above (group k) (omega (arith, t.1))))
          (cases_eq (group k) g)),
      refl,
    )
