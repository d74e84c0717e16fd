-- Words written as bytes and read again.
use Rattle.std.proofs.Common.{◌≡◌, ℕ, zero, suc, ◌+◌, ◌*◌, ◌/◌, ◌%◌, ◌^◌, ◌<◌, ◌≤◌, List, [], ◌∷◌, length, get_or, take, drop, sym, refl, ap, ◌∙◌, ap₂, one-add, arith}
use Rattle.std.proofs.lemmas.Nat.{shr-shr, shr_below}
use Rattle.std.proofs.lemmas.List.{drop_more, take_all}
use Rattle.packed.specs.Packed.{word, bytes_of}
use Rattle.packed.specs.Laws.{WordBack, BytesBack}
use Rattle.packed.proofs.Packing.{word_split}

-- the bytes of a word from bit k on, by quotients of the word itself
abbrev pub bytes_from : ℕ → ℕ → ℕ → List ℕ
bytes_from zero k w = []
bytes_from (suc n) k w = (w / 2 ^ k % 256) ∷ bytes_from n (k + 8) w

quotients : (n k w : ℕ) → bytes_from n k w ≡ bytes_of n (w / 2 ^ k)
quotients zero k w = refl
quotients (suc n) k w = ap (λ (bs : List ℕ). (w / 2 ^ k % 256) ∷ bs) (quotients n (k + 8) w ∙ ap (bytes_of n) (sym (shr-shr w k 8)))

pub all_quotients : (n w : ℕ) → (w % 256) ∷ bytes_from n 8 w ≡ bytes_of (suc n) w
all_quotients n w = ap (λ (bs : List ℕ). (w % 256) ∷ bs) (quotients n 8 w)

-- the first byte and the others
word_first : (bs : List ℕ) (from n : ℕ) → word 8 bs from (suc n) ≡ get_or bs from 0 + word 8 bs (from + 1) n * 256
unfolding word
word_first bs from n =
    let split : word 8 bs from (1 + n) ≡ (0 + get_or bs (from + 0) 0 * 1) + word 8 bs (from + 1) n * 256 = word_split 8 bs from 1 n in
    let place : from + 0 ≡ from = omega arith in
    ap (word 8 bs from) (sym (one-add n)) ∙ split ∙ ap (λ (x : ℕ). 0 + get_or bs x 0 * 1 + word 8 bs (from + 1) n * 256) place ∙ omega arith

-- writing what was read
module _ (bs : List ℕ) (narrow : (k : ℕ) → get_or bs k 0 < 256) where
  pub bytes_back : (n from : ℕ) → from + n ≤ length bs → bytes_of n (word 8 bs from n) ≡ take n (drop from bs)
  bytes_back zero from h = refl
  bytes_back (suc n) from h =
      let whole = word_first bs from n in
      let b = narrow from in
      let low : word 8 bs from (suc n) % 256 ≡ get_or bs from 0 = omega arith in
      let high : word 8 bs from (suc n) / 256 ≡ word 8 bs (from + 1) n = omega arith in
      ap₂ (λ (x y : ℕ). x ∷ bytes_of n y) low high
      ∙ ap (λ (x : List ℕ). get_or bs from 0 ∷ x) (bytes_back n (from + 1) (omega arith))
      ∙ sym (ap (take (suc n)) (drop_more bs from 0 (omega arith)))

pub bytes_again : BytesBack
bytes_again bs narrow = bytes_back bs narrow (length bs) 0 (omega arith) ∙ take_all (length bs) bs (omega arith)

-- reading what was written
word_later : (b : ℕ) (bs : List ℕ) (from n : ℕ) → word 8 (b ∷ bs) (from + 1) n ≡ word 8 bs from n
unfolding word
word_later b bs from zero = refl
word_later b bs from (suc n) =
    let place : from + 1 + n ≡ suc (from + n) = omega arith in
    ap₂ (λ (x y : ℕ). x + get_or (b ∷ bs) y 0 * 2 ^ (8 * n)) (word_later b bs from n) place

pub word_back : WordBack
unfolding word
word_back zero x h = omega arith
word_back (suc n) x h =
    let power : 2 ^ (8 * suc n) ≡ 2 ^ (8 * n + 8) = ap (λ (k : ℕ). 2 ^ k) (omega arith) in
    let small : x < 2 ^ (8 * n + 8) = rw power at h in
    word_first (bytes_of (suc n) x) 0 n
    ∙ ap (λ (y : ℕ). x % 256 + y * 256) (word_later (x % 256) (bytes_of n (x / 256)) 0 n ∙ word_back n (x / 256) (shr_below x (8 * n) 8 small))
    ∙ omega arith
