-- How many vectors a set has, by the set bits of its words.
use Rattle.std.proofs.Common.{◌≡◌, ℕ, zero, suc, ◌+◌, ◌-◌, ◌*◌, ◌/◌, ◌%◌, ◌^◌, ◌<◌, Bool, true, false, cond, ◌&&◌, eqb, List, get_or, sym, refl, ap, ◌∙◌, ap₂, ⊎_elim, add-zero, add-suc, pow-suc, div-one, one-add, arith}
use lib.Count.{ones, ones_step, ones-le}
use Rattle.std.proofs.lemmas.Nat.{shr-shr, shr_le, mod-pow-add, field_of}
use Rattle.std.proofs.lemmas.Bool.{cases_eq, eq-eqb, ne_eqb, eqb-true, eqb-false, and_left}
use Rattle.vectors.specs.Sets.{bit, has, count_to, group, part, usable_word, Usable}

pub count_none : (f : ℕ → Bool) → 0 ≡ count_to f 0
unfolding count_to
count_none f = refl

count_same : (f g : ℕ → Bool) (n : ℕ) → ((k : ℕ) → k < n → f k ≡ g k) → count_to f n ≡ count_to g n
unfolding count_to
count_same f g zero h = refl
count_same f g (suc n) h = ap₂ (λ (b : Bool) (m : ℕ). cond b 1 0 + m) (h n (omega arith)) (count_same f g n (λ k l. h k (omega arith)))

-- the numbers below m + n are those below m, and m further on those below n
count_cat : (f : ℕ → Bool) (m n : ℕ) → count_to f (m + n) ≡ count_to f m + count_to (λ k. f (m + k)) n
unfolding count_to
count_cat f m zero = ap (count_to f) (add-zero m) ∙ sym (add-zero (count_to f m))
count_cat f m (suc n) =
    ap (count_to f) (add-suc m n) ∙ ap (λ (x : ℕ). cond (f (m + n)) 1 0 + x) (count_cat f m n) ∙ omega arith

digit : (x : ℕ) → x < 2 → x ≡ cond (eqb x 1) 1 0
digit zero h = refl
digit (suc zero) h = refl
digit (suc (suc x)) h = absurd (omega arith)

-- a word of n bits has as many ones as bits set
ones_count : (n w : ℕ) → w < 2 ^ n → ones w ≡ count_to (bit w) n
unfolding count_to bit
ones_count zero w h = omega (arith, ones-le 0 w h)
ones_count (suc n) w h =
    let p : w < 2 ^ n * 2 = rw pow-suc at h in
    let ih : ones (w / 2) ≡ count_to (bit (w / 2)) n = ones_count n (w / 2) (omega arith) in
    let lo : w % 2 ≡ cond (bit w 0) 1 0 = rw div-one (digit (w % 2) (omega arith)) in
    let hi : count_to (bit (w / 2)) n ≡ count_to (λ k. bit w (1 + k)) n =
    count_same (bit (w / 2)) (λ k. bit w (1 + k)) n (λ k l. ap (λ (x : ℕ). eqb (x % 2) 1) (shr-shr w 1 k))
    in
    ones_step w ∙ ap₂ (λ (x y : ℕ). x + y) lo (ih ∙ hi) ∙ ap (λ (x : ℕ). x + count_to (λ k. bit w (1 + k)) n) (sym (add-zero (cond (bit w 0) 1 0)))
    ∙ sym (count_cat (bit w) 1 n) ∙ ap (count_to (bit w)) (one-add n)

-- the vectors below the end of group g are those below it and those of its word
pub count_group : (ws : List ℕ) (g : ℕ) → get_or ws g 0 < 2 ^ 64 → count_to (has ws) (64 * g + 64) ≡ count_to (has ws) (64 * g) + ones (get_or ws g 0)
unfolding has
count_group ws g h =
    count_cat (has ws) (64 * g) 64
    ∙ ap (λ (n : ℕ). count_to (has ws) (64 * g) + n)
    (count_same (λ k. has ws (64 * g + k)) (bit (get_or ws g 0)) 64
    (λ k l. ap₂ (λ (x y : ℕ). bit (get_or ws x 0) y) (omega arith) (omega arith))
    ∙ sym (ones_count 64 (get_or ws g 0) h))

-- a count is 0 exactly where no number below n is in the set
pub count_empty : (f : ℕ → Bool) (n : ℕ) → ((k : ℕ) → k < n → f k ≡ false) → count_to f n ≡ 0
unfolding count_to
count_empty f zero h = refl
count_empty f (suc n) h = ap₂ (λ (b : Bool) (m : ℕ). cond b 1 0 + m) (h n (omega arith)) (count_empty f n (λ k l. h k (omega arith)))

pub count_zero : (f : ℕ → Bool) (n : ℕ) → count_to f n ≡ 0 → (k : ℕ) → k < n → f k ≡ false
unfolding count_to
count_zero f zero e k l = absurd (omega arith)
count_zero f (suc n) e k l =
    ⊎_elim (λ (q : k ≡ n). ap f q ∙ unset (f n) (omega arith)) (λ (q : k ≡ n → ⊥). count_zero f n (omega arith) k (omega arith)) (cases_eq k n)
  where
    unset : (b : Bool) → ◌≡◌ {A = ℕ} (cond b 1 0) 0 → b ≡ false
    unset true h = absurd (omega arith)
    unset false h = refl

-- the low n bits of a word are clear exactly where the word is a multiple of 2 ^ n
low_clear : (w n k : ℕ) → w % 2 ^ n ≡ 0 → k < n → bit w k ≡ false
unfolding bit
low_clear w n k e l =
    let j : ℕ = n - k - 1 in
    let s : j + 1 + k ≡ n = omega arith in
    let z : w % 2 ^ (j + 1 + k) ≡ 0 = ap (λ (x : ℕ). w % 2 ^ x) s ∙ e in
    let f : w % 2 ^ (j + 1 + k) / 2 ^ k ≡ w / 2 ^ k % 2 ^ (j + 1) = field_of w (j + 1) k in
    let g : w / 2 ^ k % 2 ^ (j + 1) ≡ (w / 2 ^ k / 2 % 2 ^ j) * 2 + w / 2 ^ k % 2 = mod-pow-add (w / 2 ^ k) j 1 in
    let d : w % 2 ^ (j + 1 + k) / 2 ^ k ≡ 0 / 2 ^ k = ap (λ (x : ℕ). x / 2 ^ k) z in
    ne_eqb (w / 2 ^ k % 2) 1 (λ u. omega (arith, shr_le 0 k))

clear_low : (w n : ℕ) → ((k : ℕ) → k < n → bit w k ≡ false) → w % 2 ^ n ≡ 0
unfolding bit
clear_low w zero h = omega arith
clear_low w (suc n) h =
    let e : w % 2 ^ (1 + n) ≡ (w / 2 ^ n % 2 ^ 1) * 2 ^ n + w % 2 ^ n = mod-pow-add w 1 n in
    let z : w % 2 ^ n ≡ 0 = clear_low w n (λ k l. h k (omega arith)) in
    let b : w / 2 ^ n % 2 ≡ 0 = omega (arith, eqb-false (w / 2 ^ n % 2) 1 (h n (omega arith))) in
    ap (λ (x : ℕ). w % 2 ^ x) (sym (one-add n)) ∙ e ∙ ap₂ (λ (x y : ℕ). x * 2 ^ n + y) b z ∙ omega arith

-- a word of group 0 has the vectors below 10h in its low 16 bits, and a word of another group has none of them
other_group : (g w : ℕ) → 0 < g → Usable (part g w)
other_group g w h k l = and_left (eqb (group k) g) (bit w (k % 64)) (ne_eqb (group k) g (λ e. omega arith))

first_group : (w k : ℕ) → k < 16 → part 0 w k ≡ bit w k
first_group w k l =
    let z : k / 64 ≡ 0 = omega arith in
    let m : k % 64 ≡ k = omega arith in
    ap₂ (λ (x y : ℕ). eqb x 0 && bit w y) z m

pub word_high : (g w : ℕ) → 0 < g → (usable_word g w ≡ true) × Usable (part g w)
word_high g w h = (eq-eqb (count_to (part g w) 16) 0 (count_empty (part g w) 16 (other_group g w h)), other_group g w h)

pub word_low : (g w : ℕ) → g ≡ 0 → (eqb (w % 65536) 0 ≡ usable_word g w) × (eqb (w % 65536) 0 ≡ true → Usable (part g w))
word_low zero w e = (
  ⊎_elim (λ (z : w % 65536 ≡ 0). eq-eqb (w % 65536) 0 z ∙ sym (eq-eqb (count_to (part 0 w) 16) 0 (count_empty (part 0 w) 16 (clear z))))
      (λ (n : w % 65536 ≡ 0 → ⊥). ne_eqb (w % 65536) 0 n ∙ sym (ne_eqb (count_to (part 0 w) 16) 0 (λ c. n (clear_low w 16 (λ k l. sym (first_group w k l) ∙ count_zero (part 0 w) 16 c k l)))))
      (cases_eq (w % 65536) 0),
  (λ t. clear (eqb-true (w % 65536) 0 t)),
)
  where
    clear : w % 65536 ≡ 0 → Usable (part 0 w)
    clear z k l = first_group w k l ∙ low_clear w 16 k z l
word_low (suc g) w e = absurd (omega arith)
