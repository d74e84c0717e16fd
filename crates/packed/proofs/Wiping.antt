-- Bytes that are cleared from a place on, and a choice between a word and nothing.
use Rattle.std.proofs.Common.{◌≡◌, ℕ, ◌+◌, ◌-◌, ◌<◌, ◌≤◌, Bool, true, false, cond, ltb, List, [], ◌∷◌, ◌++◌, length, get_or, take, drop, set, replicate, sym, refl, ap, ◌∙◌, ⊎_elim, append_assoc, arith, length-drop}
use lib.ListN.{length-replicate}
use Rattle.std.proofs.lemmas.List.{get_or_append_left, get_or-append_right, get_or-replicate, get_or-take, get_or-drop, length-take-le, length-append, set-append_right, set_at, drop_more, replicate_more, take-append-drop}
use Rattle.std.proofs.lemmas.Bool.{cases_lt, ltb-true}
use Rattle.packed.specs.Packed.{wiped}

module _ (bs : List ℕ) (from n : ℕ) where
  pub wiped_in : (k : ℕ) → from + n ≤ length bs → from ≤ k → k < from + n → get_or (wiped bs from n) k 0 ≡ 0
  wiped_in k fit a b =
      let t : length (take from bs) ≡ from = length-take-le from bs (omega arith) in
      let r : k - from < length (replicate {A = ℕ} n 0) = rw length-replicate (omega arith) in
      get_or-append_right (take from bs) (replicate n 0 ++ drop (from + n) bs) from k 0 t a
      ∙ get_or_append_left (replicate n 0) (drop (from + n) bs) 0 (k - from) r
      ∙ get_or-replicate n (k - from) 0 0 (omega arith)

  pub wiped_out : (k : ℕ) → from + n ≤ length bs → (from ≤ k → k < from + n → ⊥) → get_or (wiped bs from n) k 0 ≡ get_or bs k 0
  wiped_out k fit out =
      let t : length (take from bs) ≡ from = length-take-le from bs (omega arith) in
      let z : length (replicate {A = ℕ} n 0) ≡ n = length-replicate n 0 in
      ⊎_elim
      (λ (a : k < from). get_or_append_left (take from bs) (replicate n 0 ++ drop (from + n) bs) 0 k (omega arith) ∙ get_or-take from bs k 0 a)
      (λ (a : from ≤ k).
      ⊎_elim (λ (b : k < from + n). absurd (out a b))
      (λ (b : from + n ≤ k).
      let s : from + n + (k - from - n) ≡ k = omega arith in
      get_or-append_right (take from bs) (replicate n 0 ++ drop (from + n) bs) from k 0 t a
      ∙ get_or-append_right (replicate n 0) (drop (from + n) bs) n (k - from) 0 z (omega arith)
      ∙ get_or-drop (from + n) bs (k - from - n) 0
      ∙ ap (λ (x : ℕ). get_or bs x 0) s)
      (cases_lt k (from + n)))
      (cases_lt k from)

  pub wiped_length : from + n ≤ length bs → length (wiped bs from n) ≡ length bs
  wiped_length fit =
      let t : length (take from bs) ≡ from = length-take-le from bs (omega arith) in
      rw (length-append, length-append, length-replicate, length-drop) (omega arith)

-- nothing is cleared, and one byte more
pub wiped_none : (bs : List ℕ) (from : ℕ) → wiped bs from 0 ≡ bs
wiped_none bs from =
    let z : from + 0 ≡ from = omega arith in
    rw z (take-append-drop from bs)

rest_cleared : (bs : List ℕ) (n at : ℕ) → at < length bs → set (replicate n 0 ++ drop at bs) n 0 ≡ replicate (n + 1) 0 ++ drop (at + 1) bs
rest_cleared bs n at h =
    ap (λ (x : List ℕ). set (replicate n 0 ++ x) n 0) (drop_more bs at 0 h)
    ∙ set_at (replicate n 0) (get_or bs at 0) (drop (at + 1) bs) 0 n (length-replicate n 0)
    ∙ sym (append_assoc (replicate n 0) (0 ∷ []) (drop (at + 1) bs))
    ∙ ap (λ (x : List ℕ). x ++ drop (at + 1) bs) (replicate_more n 0)

pub wiped_more : (bs : List ℕ) (from n : ℕ) → from + n < length bs → set (wiped bs from n) (from + n) 0 ≡ wiped bs from (n + 1)
wiped_more bs from n h =
    let here : from + n - from ≡ n = omega arith in
    let next : from + n + 1 ≡ from + (n + 1) = omega arith in
    set-append_right (take from bs) (replicate n 0 ++ drop (from + n) bs) from (from + n) 0 (length-take-le from bs (omega arith)) (omega arith)
    ∙ ap (λ (k : ℕ). take from bs ++ set (replicate n 0 ++ drop (from + n) bs) k 0) here
    ∙ ap (λ (x : List ℕ). take from bs ++ x) (rest_cleared bs n (from + n) h)
    ∙ ap (λ (k : ℕ). take from bs ++ (replicate (n + 1) 0 ++ drop k bs)) next

-- a choice that is the same where it is made
pub if_below : (g : ℕ) (x y : ℕ) → (g < 4 → x ≡ y) → cond (ltb g 4) x 0 ≡ cond (ltb g 4) y 0
if_below g x y h =
    let P : Bool → Type 0 = λ t. ltb g 4 ≡ t → cond t x 0 ≡ cond t y 0 in
    (elim (ltb g 4) as P [ true ↦ λ e. h (ltb-true g 4 e) | false ↦ λ e. refl ]) refl

pub either_zero : (b : Bool) → ◌≡◌ {A = ℕ} (cond b 0 0) 0
either_zero true = refl
either_zero false = refl
