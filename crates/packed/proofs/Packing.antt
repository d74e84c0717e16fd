-- What a word of bytes comes to as its bytes change.
use Rattle.std.proofs.Common.{◌≡◌, ℕ, zero, suc, ◌+◌, ◌*◌, ◌^◌, ◌<◌, ◌≤◌, ◌≢◌, List, length, get_or, take, drop, set, sym, refl, ap, ◌∙◌, subst, ⊎_elim, add-zero, add-suc, mul_assoc, mul_comm, add-mul, arith, get_or-set_other, get_or-set_same}
use lib.Bits.{bit_or, or_shifted_r, or_block, or_zero_r}
use Rattle.std.proofs.lemmas.Nat.{pow-add, pow_pos, pow_below, mul-le}
use Rattle.std.proofs.lemmas.List.{get_or-take, get_or-drop}
use Rattle.std.proofs.lemmas.Bool.{cases_eq}
use Rattle.packed.specs.Packed.{word}

-- each of n bytes from a place on holds at most w bits
abbrev pub Narrow : ℕ → List ℕ → ℕ → ℕ → Type 0
Narrow w bs from n = (k : ℕ) → k < n → get_or bs (from + k) 0 < 2 ^ w

less : (w : ℕ) (bs : List ℕ) (from n : ℕ) → Narrow w bs from (suc n) → Narrow w bs from n
less w bs from n h k l = h k (omega arith)

grown : (a b p q : ℕ) → a < p → b < q → a + b * p < q * p
grown a b p q ha hb = omega (arith, mul-le (b + 1) p q p (omega arith) (omega arith))

next_power : (w n : ℕ) → 2 ^ (w * suc n) ≡ 2 ^ w * 2 ^ (w * n)
next_power w n = ap (λ (x : ℕ). 2 ^ x) (omega arith) ∙ pow-add 2 w (w * n)

pub word_lt : (w : ℕ) (bs : List ℕ) (from n : ℕ) → Narrow w bs from n → word w bs from n < 2 ^ (w * n)
unfolding word
word_lt w bs from zero h = pow_pos (w * 0)
word_lt w bs from (suc n) h =
    rw (next_power w n) (grown (word w bs from n) (get_or bs (from + n) 0) (2 ^ (w * n)) (2 ^ w) (word_lt w bs from n (less w bs from n h)) (h n (omega arith)))

-- one byte more, as code joins it
pub word_more : (w : ℕ) (bs : List ℕ) (from n : ℕ) → Narrow w bs from n
    → bit_or (word w bs from n) (get_or bs (from + n) 0 * 2 ^ (w * n)) ≡ word w bs from (suc n)
unfolding word
word_more w bs from n h =
    or_shifted_r (get_or bs (from + n) 0) (w * n) (word w bs from n) (word_lt w bs from n h) ∙ omega arith

-- bytes that agree make one word
pub word_same : (w : ℕ) (xs ys : List ℕ) (from n : ℕ) → ((k : ℕ) → k < n → get_or ys (from + k) 0 ≡ get_or xs (from + k) 0) → word w ys from n ≡ word w xs from n
unfolding word
word_same w xs ys from zero h = refl
word_same w xs ys from (suc n) h =
    let e : word w ys from n ≡ word w xs from n = word_same w xs ys from n (λ k l. h k (omega arith)) in
    let b : get_or ys (from + n) 0 ≡ get_or xs (from + n) 0 = h n (omega arith) in
    rw (e, b)

-- a word in bytes that were cut out
pub word_part : (w : ℕ) (bs : List ℕ) (from n m : ℕ) → n ≤ m → word w (take m (drop from bs)) 0 n ≡ word w bs from n
unfolding word
word_part w bs from zero m h = refl
word_part w bs from (suc n) m h =
    let e = word_part w bs from n m (omega arith) in
    let b : get_or (take m (drop from bs)) (0 + n) 0 ≡ get_or bs (from + n) 0 =
    ap (λ (k : ℕ). get_or (take m (drop from bs)) k 0) (omega arith) ∙ get_or-take m (drop from bs) n 0 (omega arith) ∙ get_or-drop from bs n 0
    in
    rw (e, b)

pub word_zero : (w : ℕ) (ys : List ℕ) (from n : ℕ) → ((k : ℕ) → k < n → get_or ys (from + k) 0 ≡ 0) → word w ys from n ≡ 0
unfolding word
word_zero w ys from zero h = refl
word_zero w ys from (suc n) h =
    let e : word w ys from n ≡ 0 = word_zero w ys from n (λ k l. h k (omega arith)) in
    let b : get_or ys (from + n) 0 ≡ 0 = h n (omega arith) in
    rw (e, b) (omega arith)

or_top : (r b c k : ℕ) → r < 2 ^ k → bit_or (r + b * 2 ^ k) (c * 2 ^ k) ≡ r + bit_or b c * 2 ^ k
or_top r b c k h =
    let p : r + b * 2 ^ k ≡ b * 2 ^ k + r = omega arith in
    let q : c * 2 ^ k ≡ c * 2 ^ k + 0 = omega arith in
    let o = or_block k b c r 0 h (pow_pos k) in
    let z = or_zero_r r in
    let e : bit_or (r + b * 2 ^ k) (c * 2 ^ k) ≡ bit_or b c * 2 ^ k + r = cc in
    omega arith

or_low : (r b s k : ℕ) → r < 2 ^ k → s < 2 ^ k → bit_or (r + b * 2 ^ k) s ≡ bit_or r s + b * 2 ^ k
or_low r b s k h l =
    let p : r + b * 2 ^ k ≡ b * 2 ^ k + r = omega arith in
    let q : s ≡ 0 * 2 ^ k + s = omega arith in
    let o = or_block k b 0 r s h l in
    let z = or_zero_r b in
    let e : bit_or (r + b * 2 ^ k) s ≡ b * 2 ^ k + bit_or r s = cc in
    omega arith

-- one bit set in the last byte
word_set_last : (w : ℕ) (bs : List ℕ) (from n j : ℕ) → Narrow w bs from n → from + n < length bs
    → word w (set bs (from + n) (bit_or (get_or bs (from + n) 0) (2 ^ j))) from (suc n) ≡ bit_or (word w bs from (suc n)) (2 ^ (w * n + j))
unfolding word
word_set_last w bs from n j h t =
    let lower : word w (set bs (from + n) (bit_or (get_or bs (from + n) 0) (2 ^ j))) from n ≡ word w bs from n =
    word_same w bs (set bs (from + n) (bit_or (get_or bs (from + n) 0) (2 ^ j))) from n
    (λ k q. let ne : from + k ≢ from + n = omega arith in rw get_or-set_other) in
    let power : 2 ^ (w * n + j) ≡ 2 ^ j * 2 ^ (w * n) = pow-add 2 (w * n) j ∙ mul_comm (2 ^ (w * n)) (2 ^ j) in
    rw (lower, get_or-set_same, power) (sym (or_top (word w bs from n) (get_or bs (from + n) 0) (2 ^ j) (w * n) (word_lt w bs from n h)))

-- one bit set in one of its bytes is one bit set in the word
pub word_set : (w : ℕ) (bs : List ℕ) (from n i j : ℕ) → Narrow w bs from n → i < n → j < w → from + i < length bs
    → word w (set bs (from + i) (bit_or (get_or bs (from + i) 0) (2 ^ j))) from n ≡ bit_or (word w bs from n) (2 ^ (w * i + j))
unfolding word
word_set w bs from zero i j h l m s = absurd (omega arith)
word_set w bs from (suc n) i j h l m s =
    ⊎_elim
    (λ (e : i ≡ n).
    subst (λ (x : ℕ). word w (set bs (from + x) (bit_or (get_or bs (from + x) 0) (2 ^ j))) from (suc n) ≡ bit_or (word w bs from (suc n)) (2 ^ (w * x + j)))
    (sym e) (word_set_last w bs from n j (less w bs from n h) (omega arith)))
    (λ (ne : i ≡ n → ⊥).
    let lt : i < n = omega arith in
    let lower = word_set w bs from n i j (less w bs from n h) lt m s in
    let other : from + n ≢ from + i = omega arith in
    let room : w * i + j < w * n = omega (arith, mul-le w (i + 1) w n (omega arith) (omega arith)) in
    rw (lower, get_or-set_other) (sym (or_low (word w bs from n) (get_or bs (from + n) 0) (2 ^ (w * i + j)) (w * n) (word_lt w bs from n (less w bs from n h)) (pow_below (w * i + j) (w * n) room))))
    (cases_eq i n)

shared : (p q b x y : ℕ) → p + q * y + b * (x * y) ≡ p + (q + b * x) * y
shared p q b x y = omega (arith, add-mul q (b * x) y, mul_assoc b x y)

-- a word's low bytes, and the others above them
pub word_split : (w : ℕ) (bs : List ℕ) (from a n : ℕ) → word w bs from (a + n) ≡ word w bs from a + word w bs (from + a) n * 2 ^ (w * a)
unfolding word
word_split w bs from a zero = rw add-zero (omega arith)
word_split w bs from a (suc n) =
    let low = word_split w bs from a n in
    let place : from + (a + n) ≡ (from + a) + n = omega arith in
    let power : 2 ^ (w * (a + n)) ≡ 2 ^ (w * n) * 2 ^ (w * a) = ap (λ (x : ℕ). 2 ^ x) (omega arith) ∙ pow-add 2 (w * n) (w * a) in
    rw (add-suc, low, place, power) (shared (word w bs from a) (word w bs (from + a) n) (get_or bs (from + a + n) 0) (2 ^ (w * n)) (2 ^ (w * a)))
