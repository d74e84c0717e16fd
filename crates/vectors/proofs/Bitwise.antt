-- Bits of words, and vectors in a list of words.
use Rattle.std.proofs.Common.{◌≡◌, ℕ, zero, suc, ◌+◌, ◌-◌, ◌*◌, ◌/◌, ◌%◌, ◌^◌, ◌<◌, ◌≤◌, Bool, true, false, cond, not, ◌&&◌, ◌||◌, eqb, List, [], ◌∷◌, length, get_or, set, sym, refl, ap, ◌∙◌, ⊎_elim, mod-eq_of_lt, arith, get_or-set_other, get_or-set_same}
use mathlib.Core.Path.{fun_ext}
use lib.Arith.{bin_ind}
use lib.Bits.{bit_and, bit_or, bit_xor, or_step, and_shr, or_shr, xor_shr, and_mod, or_mod, xor_mod, xor_add_and, and_mask}
use lib.Pow.{ones_split}
use Rattle.std.proofs.lemmas.List.{get_or_past}
use Rattle.std.proofs.lemmas.Nat.{shr_high, and_comm, pow_pos, pow-add, shl-shr, div_below, le-div, pow_below}
use Rattle.std.proofs.lemmas.Bool.{cases_lt, cases_eq, eq-eqb, ne_eqb, cond-true, cond-false, both_ways}
use Rattle.std.proofs.lemmas.Bool.Decides.{nat_tests}
use Rattle.vectors.specs.Sets.{bit, has, none, with, without, part, joined, cut, group}

-- An operation on words that goes bit by bit: what it does to one digit, it does to each bit.
module _ (op : ℕ → ℕ → ℕ) (on : Bool → Bool → Bool)
    (shr : (a b k : ℕ) → op a b / 2 ^ k ≡ op (a / 2 ^ k) (b / 2 ^ k))
    (low : (a b k : ℕ) → op a b % 2 ^ k ≡ op (a % 2 ^ k) (b % 2 ^ k))
    (digit : (x y : ℕ) → x < 2 → y < 2 → eqb (op x y) 1 ≡ on (eqb x 1) (eqb y 1)) where
  bit_by_bit : (a b k : ℕ) → bit (op a b) k ≡ on (bit a k) (bit b k)
  unfolding bit
  bit_by_bit a b k =
      ap (λ (x : ℕ). eqb (x % 2) 1) (shr a b k)
      ∙ ap (λ (x : ℕ). eqb x 1) (low (a / 2 ^ k) (b / 2 ^ k) 1)
      ∙ digit (a / 2 ^ k % 2) (b / 2 ^ k % 2) (omega arith) (omega arith)

or_digit : (x y : ℕ) → x < 2 → y < 2 → eqb (bit_or x y) 1 ≡ (eqb x 1 || eqb y 1)
or_digit zero y h k = refl
or_digit (suc zero) zero h k = refl
or_digit (suc zero) (suc zero) h k = refl
or_digit (suc zero) (suc (suc y)) h k = absurd (omega arith)
or_digit (suc (suc x)) y h k = absurd (omega arith)

and_digit : (x y : ℕ) → x < 2 → y < 2 → eqb (bit_and x y) 1 ≡ (eqb x 1 && eqb y 1)
and_digit zero y h k = refl
and_digit (suc zero) zero h k = refl
and_digit (suc zero) (suc zero) h k = refl
and_digit (suc zero) (suc (suc y)) h k = absurd (omega arith)
and_digit (suc (suc x)) y h k = absurd (omega arith)

abbrev xor : Bool → Bool → Bool
xor x y = cond x (not y) y

xor_digit : (x y : ℕ) → x < 2 → y < 2 → eqb (bit_xor x y) 1 ≡ xor (eqb x 1) (eqb y 1)
xor_digit zero y h k = refl
xor_digit (suc zero) zero h k = refl
xor_digit (suc zero) (suc zero) h k = refl
xor_digit (suc zero) (suc (suc y)) h k = absurd (omega arith)
xor_digit (suc (suc x)) y h k = absurd (omega arith)

pub bit_of_or : (a b k : ℕ) → bit (bit_or a b) k ≡ (bit a k || bit b k)
bit_of_or = bit_by_bit bit_or ◌||◌ or_shr or_mod or_digit

pub bit_of_and : (a b k : ℕ) → bit (bit_and a b) k ≡ (bit a k && bit b k)
bit_of_and = bit_by_bit bit_and ◌&&◌ and_shr and_mod and_digit

bit_of_xor : (a b k : ℕ) → bit (bit_xor a b) k ≡ xor (bit a k) (bit b k)
bit_of_xor = bit_by_bit bit_xor xor xor_shr xor_mod xor_digit

pub or_assoc : (a b c : ℕ) → bit_or (bit_or a b) c ≡ bit_or a (bit_or b c)
or_assoc =
    bin_ind (λ (n : ℕ). (b c : ℕ) → bit_or (bit_or n b) c ≡ bit_or n (bit_or b c)) (λ b c. refl)
    (λ n ih b c.
    let e1 = or_step n b in
    let e2 = or_step b c in
    let e3 = or_step (bit_or n b) c in
    let e4 = or_step n (bit_or b c) in
    let i = ih (b / 2) (c / 2) in
    let f1 : bit_or (bit_or n b / 2) (c / 2) ≡ bit_or (bit_or (n / 2) (b / 2)) (c / 2) = ap (λ (x : ℕ). bit_or x (c / 2)) (or_shr n b 1) in
    let f2 : bit_or (n / 2) (bit_or b c / 2) ≡ bit_or (n / 2) (bit_or (b / 2) (c / 2)) = ap (bit_or (n / 2)) (or_shr b c 1) in
    omega arith)

-- a number below 2 ^ k has no bit k or above
pub bit_above : (a k : ℕ) → a < 2 ^ k → bit a k ≡ false
unfolding bit
bit_above a k h =
    let q : a / 2 ^ k < 1 = div_below a (2 ^ k) 1 (pow_pos k) (omega arith) in
    ne_eqb (a / 2 ^ k % 2) 1 (λ e. omega arith)

-- the highest bit of a number
pub bit_top : (a k : ℕ) → 2 ^ k ≤ a → a < 2 ^ (k + 1) → bit a k ≡ true
unfolding bit
bit_top a k l h =
    let e : 2 ^ (k + 1) ≡ 2 ^ k * 2 = pow-add 2 k 1 in
    let q : a / 2 ^ k < 2 = div_below a (2 ^ k) 2 (pow_pos k) (omega arith) in
    let p : 1 ≤ a / 2 ^ k = le-div 1 a (2 ^ k) (pow_pos k) (omega arith) in
    eq-eqb (a / 2 ^ k % 2) 1 (omega arith)

pub bit_zero : (k : ℕ) → bit 0 k ≡ false
bit_zero k = bit_above 0 k (pow_pos k)

pow_down : (k d : ℕ) → 2 ^ (d + 1 + k) / 2 ^ k % 2 ≡ 0
pow_down k d =
    let e : 2 ^ (d + 1 + k) / 2 ^ k ≡ 2 ^ d * 2 =
    ap (λ (x : ℕ). x / 2 ^ k) (pow-add 2 (d + 1) k) ∙ shl-shr (2 ^ (d + 1)) k ∙ pow-add 2 d 1
    in omega arith

-- a power of two has one bit
pub bit_pow : (j k : ℕ) → bit (2 ^ j) k ≡ eqb k j
unfolding bit
bit_pow j k =
    ⊎_elim (λ (h : k < j).
    let e : j ≡ (j - k - 1) + 1 + k = omega arith in
    let z : 2 ^ j / 2 ^ k % 2 ≡ 0 = ap (λ (x : ℕ). 2 ^ x / 2 ^ k % 2) e ∙ pow_down k (j - k - 1) in
    ne_eqb (2 ^ j / 2 ^ k % 2) 1 (λ u. omega arith) ∙ sym (ne_eqb k j (λ u. omega arith)))
    (λ (h : j ≤ k). ⊎_elim (λ (e : k ≡ j).
    let p : 2 ^ (k + 1) ≡ 2 ^ k * 2 = pow-add 2 k 1 in
    let q : 2 ^ j ≡ 2 ^ k = ap (λ (x : ℕ). 2 ^ x) (sym e) in
    bit_top (2 ^ j) k (omega arith) (omega (arith, pow_pos k)) ∙ sym (eq-eqb k j e))
    (λ (n : k ≡ j → ⊥). bit_above (2 ^ j) k (pow_below j k (omega arith)) ∙ sym (ne_eqb k j n))
    (cases_eq k j))
    (cases_lt k j)

-- all bits below n are set in 2 ^ n - 1
bit_ones : (n k : ℕ) → k < n → bit (2 ^ n - 1) k ≡ true
unfolding bit
bit_ones n k h =
    let e : n ≡ (n - k) + k = omega arith in
    let d : n - k ≡ (n - k - 1) + 1 = omega arith in
    let q : (2 ^ n - 1) / 2 ^ k ≡ 2 ^ (n - k) - 1 =
    ap (λ (x : ℕ). (2 ^ x - 1) / 2 ^ k) e ∙ ap (λ (x : ℕ). x / 2 ^ k) (ones_split (n - k) k)
    ∙ shr_high (2 ^ (n - k) - 1) k (2 ^ k - 1) (omega (arith, pow_pos k))
    in
    let t : 2 ^ (n - k) ≡ 2 ^ (n - k - 1) * 2 = ap (λ (x : ℕ). 2 ^ x) d ∙ pow-add 2 (n - k - 1) 1 in
    eq-eqb ((2 ^ n - 1) / 2 ^ k % 2) 1 (omega (arith, pow_pos (n - k - 1)))

-- the complement of a word of n bits
pub bit_not : (n a k : ℕ) → a < 2 ^ n → k < n → bit (2 ^ n - 1 - a) k ≡ not (bit a k)
bit_not n a k h l =
    let s : a % 2 ^ n ≡ a = mod-eq_of_lt h in
    let m : bit_and (2 ^ n - 1) a ≡ a = and_comm (2 ^ n - 1) a ∙ and_mask a n ∙ s in
    let x : bit_xor (2 ^ n - 1) a ≡ 2 ^ n - 1 - a = omega (arith, xor_add_and (2 ^ n - 1) a) in
    ap (λ (z : ℕ). bit z k) (sym x) ∙ bit_of_xor (2 ^ n - 1) a k ∙ ap (λ (b : Bool). xor b (bit a k)) (bit_ones n k l)

-- a set with one word written
has_set : (ws : List ℕ) (g w k : ℕ) → g < length ws → has (set ws g w) k ≡ cond (eqb (group k) g) (bit w (k % 64)) (has ws k)
unfolding has
has_set ws g w k h =
    ⊎_elim (λ (e : group k ≡ g).
    ap (λ (x : ℕ). bit (get_or (set ws g w) x 0) (k % 64)) e ∙ ap (λ (x : ℕ). bit x (k % 64)) (get_or-set_same ws g w 0 h)
    ∙ sym (cond-true (eqb (group k) g) (bit w (k % 64)) (has ws k) (eq-eqb (group k) g e)))
    (λ (n : group k ≡ g → ⊥).
    ap (λ (x : ℕ). bit x (k % 64)) (get_or-set_other ws g (group k) w 0 n)
    ∙ sym (cond-false (eqb (group k) g) (bit w (k % 64)) (has ws k) (ne_eqb (group k) g n)))
    (cases_eq (group k) g)

-- a set with one group emptied has no vector that it did not have
pub has_emptied : (ws : List ℕ) (g k : ℕ) → g < length ws → has (set ws g 0) k ≡ true → has ws k ≡ true
has_emptied ws g k h t =
    ⊎_elim (λ (e : group k ≡ g).
    absurd (both_ways (has (set ws g 0) k) (has_set ws g 0 k h ∙ cond-true (eqb (group k) g) (bit 0 (k % 64)) (has ws k) (eq-eqb (group k) g e) ∙ bit_zero (k % 64)) t))
    (λ (n : group k ≡ g → ⊥). sym (has_set ws g 0 k h ∙ cond-false (eqb (group k) g) (bit 0 (k % 64)) (has ws k) (ne_eqb (group k) g n)) ∙ t)
    (cases_eq (group k) g)

-- One word changed by an operation that goes bit by bit and that a zero bit leaves alone: the set changes by the word's part.
module _ (word : ℕ → ℕ) (on : Bool → Bool → Bool) (b : ℕ)
    (idle : (x : Bool) → on x false ≡ x)
    (bits : (a k : ℕ) → k < 64 → bit (word a) k ≡ on (bit a k) (bit b k)) where
  has_changed : (ws : List ℕ) (g k : ℕ) → g < length ws → has (set ws g (word (get_or ws g 0))) k ≡ on (has ws k) (part g b k)
  unfolding has
  has_changed ws g k h =
      let l : k % 64 < 64 = omega arith in
      has_set ws g (word (get_or ws g 0)) k h
      ∙ ⊎_elim (λ (e : group k ≡ g).
      rw (eq-eqb (group k) g e) (bits (get_or ws g 0) (k % 64) l ∙ ap (λ (x : ℕ). on (bit (get_or ws x 0) (k % 64)) (bit b (k % 64))) (sym e)))
      (λ (n : group k ≡ g → ⊥). rw (ne_eqb (group k) g n) (sym (idle (has ws k))))
      (cases_eq (group k) g)

pub or_idle : (x : Bool) → (x || false) ≡ x
or_idle true = refl
or_idle false = refl

and_not_idle : (x : Bool) → (x && not false) ≡ x
and_not_idle true = refl
and_not_idle false = refl

-- a word joined to one group, and one taken from it
pub has_or : (ws : List ℕ) (g b : ℕ) → g < length ws → has (set ws g (bit_or (get_or ws g 0) b)) ≡ joined (has ws) g b
has_or ws g b h =
    fun_ext (λ k. has_changed (λ a. bit_or a b) ◌||◌ b or_idle (λ a j l. bit_of_or a b j) ws g k h)

pub has_and_not : (ws : List ℕ) (g b : ℕ) → b < 2 ^ 64 → g < length ws
    → has (set ws g (bit_and (get_or ws g 0) (18446744073709551615 - b))) ≡ cut (has ws) g b
has_and_not ws g b f h =
    fun_ext (λ k. has_changed (λ a. bit_and a (2 ^ 64 - 1 - b)) (λ x y. x && not y) b and_not_idle
    (λ a j l. bit_of_and a (2 ^ 64 - 1 - b) j ∙ ap (λ (y : Bool). bit a j && y) (bit_not 64 b j f l)) ws g k h)

-- the one vector of a word with one bit
one_vector : (v k : ℕ) → part (group v) (2 ^ (v % 64)) k ≡ eqb k v
one_vector v k = ap (λ (x : Bool). eqb (group k) (group v) && x) (bit_pow (v % 64) (k % 64)) ∙ grind (arith, nat_tests)

pub join_one : (f : ℕ → Bool) (v : ℕ) → joined f (group v) (2 ^ (v % 64)) ≡ with f v
join_one f v = fun_ext (λ k. ap (λ (x : Bool). f k || x) (one_vector v k))

pub cut_one : (f : ℕ → Bool) (v : ℕ) → cut f (group v) (2 ^ (v % 64)) ≡ without f v
cut_one f v = fun_ext (λ k. ap (λ (x : Bool). f k && not x) (one_vector v k))

-- where a word is zero, and past the last one, there are no vectors
pub has_none : (ws : List ℕ) (k : ℕ) → get_or ws (group k) 0 ≡ 0 → has ws k ≡ false
unfolding has
has_none ws k e = ap (λ (x : ℕ). bit x (k % 64)) e ∙ bit_zero (k % 64)

pub has_past : (ws : List ℕ) (k : ℕ) → length ws ≤ group k → has ws k ≡ false
has_past ws k h = has_none ws k (get_or_past ws (group k) 0 h)

-- four words that are blank
word_blank : (g : ℕ) → ◌≡◌ {A = ℕ} (get_or (0 ∷ 0 ∷ 0 ∷ 0 ∷ []) g 0) 0
word_blank zero = refl
word_blank (suc zero) = refl
word_blank (suc (suc zero)) = refl
word_blank (suc (suc (suc zero))) = refl
word_blank (suc (suc (suc (suc g)))) = refl

pub has_blank : has (0 ∷ 0 ∷ 0 ∷ 0 ∷ []) ≡ none
has_blank = fun_ext (λ k. has_none (0 ∷ 0 ∷ 0 ∷ 0 ∷ []) k (word_blank (group k)))
