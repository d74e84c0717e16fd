-- Bytes that may be a page: each byte of them, and one byte written.
use Rattle.std.proofs.Common.{◌≡◌, ℕ, zero, suc, ◌+◌, ◌*◌, ◌<◌, ◌≤◌, true, false, cond, eqb, leb, List, length, get_or, set, sym, refl, ap, ◌∙◌, subst, ⊎_elim, add-one, arith, length-set, get_or-set_other, get_or-set_same}
use Rattle.std.proofs.lemmas.Bool.{and_parts, and_from, and_right, and_left, cases_eq, cases_lt, leb-true, le-leb, lt-leb, eqb-true, eq-eqb, cond-true, cond-false, cond_both}
use Rattle.packed.specs.Packed.{wiped}
use Rattle.packed.proofs.Wiping.{wiped_in, wiped_out, wiped_length}
use Rattle.polled.specs.Layout.{is_flag, flags_to, lawful, is_page}

pub flags_none : (bs : List ℕ) → flags_to bs 0 ≡ true
unfolding flags_to
flags_none bs = refl

-- one byte more is a flag, and one is none
pub flags_more : (bs : List ℕ) (n : ℕ) → flags_to bs n ≡ true → is_flag n (get_or bs n 0) ≡ true → flags_to bs (n + 1) ≡ true
unfolding flags_to
flags_more bs n t h = ap (flags_to bs) (add-one n) ∙ and_from (flags_to bs n) (is_flag n (get_or bs n 0)) t h

pub flags_not : (bs : List ℕ) (n k : ℕ) → k < n → is_flag k (get_or bs k 0) ≡ false → flags_to bs n ≡ false
unfolding flags_to
flags_not bs zero k l h = absurd (omega arith)
flags_not bs (suc n) k l h =
    ⊎_elim (λ (e : k ≡ n). and_right (flags_to bs n) (is_flag n (get_or bs n 0)) (subst (λ (j : ℕ). is_flag j (get_or bs j 0) ≡ false) e h))
    (λ (ne : k ≡ n → ⊥). and_left (flags_to bs n) (is_flag n (get_or bs n 0)) (flags_not bs n k (omega arith) h))
    (cases_eq k n)

flags_at : (bs : List ℕ) (n : ℕ) → flags_to bs n ≡ true → (k : ℕ) → k < n → is_flag k (get_or bs k 0) ≡ true
unfolding flags_to
flags_at bs zero t k l = absurd (omega arith)
flags_at bs (suc n) t k l =
    let p = and_parts (flags_to bs n) (is_flag n (get_or bs n 0)) t in
    ⊎_elim (λ (e : k ≡ n). subst (λ (j : ℕ). is_flag j (get_or bs j 0) ≡ true) (sym e) p.1)
    (λ (ne : k ≡ n → ⊥). flags_at bs n p.0 k (omega arith))
    (cases_eq k n)

flags_from : (bs : List ℕ) (n : ℕ) → ((k : ℕ) → k < n → is_flag k (get_or bs k 0) ≡ true) → flags_to bs n ≡ true
unfolding flags_to
flags_from bs zero h = refl
flags_from bs (suc n) h = and_from (flags_to bs n) (is_flag n (get_or bs n 0)) (flags_from bs n (λ k l. h k (omega arith))) (h n (omega arith))

-- the most that a vector's byte may be
pub most_low : (v : ℕ) → v < 16 → ◌≡◌ {A = ℕ} (cond (leb 16 v) 1 0) 0
most_low v l = cond-false (leb 16 v) 1 0 (lt-leb 16 v l)

pub most_high : (v : ℕ) → 16 ≤ v → ◌≡◌ {A = ℕ} (cond (leb 16 v) 1 0) 1
most_high v l = cond-true (leb 16 v) 1 0 (le-leb 16 v l)

most_one : (v : ℕ) → cond (leb 16 v) 1 0 ≤ 1
most_one v = cond_both (leb 16 v) 1 0 (λ (x : ℕ). x ≤ 1) (λ _. omega arith) (λ _. omega arith)

module _ (bs : List ℕ) (t : lawful bs ≡ true) where
  parts : (flags_to bs 256 ≡ true) × (leb (get_or bs 256 0) 7 ≡ true)
  parts = and_parts (flags_to bs 256) (leb (get_or bs 256 0) 7) t

  pub flag_found : (k : ℕ) → k < 256 → is_flag k (get_or bs k 0) ≡ true
  flag_found k l = flags_at bs 256 parts.0 k l

  pub flag_small : (k : ℕ) → k < 256 → get_or bs k 0 < 2
  flag_small k l = omega (arith, most_one k, leb-true (get_or bs k 0) (cond (leb 16 k) 1 0) (flag_found k l))

  pub flag_low : (k : ℕ) → k < 16 → get_or bs k 0 ≡ 0
  flag_low k l = omega (arith, most_low k l, leb-true (get_or bs k 0) (cond (leb 16 k) 1 0) (flag_found k (omega arith)))

  pub marks_small : get_or bs 256 0 < 8
  marks_small = omega (arith, leb-true (get_or bs 256 0) 7 parts.1)

pub lawful_from : (bs : List ℕ) → ((k : ℕ) → k < 256 → is_flag k (get_or bs k 0) ≡ true) → get_or bs 256 0 < 8 → lawful bs ≡ true
lawful_from bs f m = and_from (flags_to bs 256) (leb (get_or bs 256 0) 7) (flags_from bs 256 f) (le-leb (get_or bs 256 0) 7 (omega arith))

-- one byte written
pub lawful_set : (bs : List ℕ) (i x : ℕ) → i < length bs → (i < 256 → is_flag i x ≡ true) → (i ≡ 256 → x < 8) → lawful bs ≡ true → lawful (set bs i x) ≡ true
lawful_set bs i x w f m t = lawful_from (set bs i x) flag marks
  where
    flag : (k : ℕ) → k < 256 → is_flag k (get_or (set bs i x) k 0) ≡ true
    flag k l =
        ⊎_elim (λ (e : k ≡ i). rw (e, get_or-set_same) (f (omega arith)))
        (λ (ne : k ≡ i → ⊥). ap (λ (y : ℕ). is_flag k y) (get_or-set_other bs i k x 0 ne) ∙ flag_found bs t k l)
        (cases_eq k i)

    marks : get_or (set bs i x) 256 0 < 8
    marks =
        ⊎_elim (λ (e : 256 ≡ i). rw (e, get_or-set_same) (m (sym e)))
        (λ (ne : 256 ≡ i → ⊥). omega (arith, get_or-set_other bs i 256 x 0 ne, marks_small bs t))
        (cases_eq 256 i)

pub lawful_one : (bs : List ℕ) (v : ℕ) → v < length bs → 16 ≤ v → v < 256 → lawful bs ≡ true → lawful (set bs v 1) ≡ true
lawful_one bs v w h l = lawful_set bs v 1 w (λ _. le-leb 1 (cond (leb 16 v) 1 0) (omega (arith, most_high v h))) (λ e. omega arith)

pub lawful_marks : (bs : List ℕ) (x : ℕ) → length bs ≡ 257 → x < 8 → lawful bs ≡ true → lawful (set bs 256 x) ≡ true
lawful_marks bs x size h = lawful_set bs 256 x (omega arith) (λ l. absurd (omega arith)) (λ _. h)

-- a page has 257 bytes, which are lawful
pub page_parts : (bs : List ℕ) → is_page bs ≡ true → (length bs ≡ 257) × (lawful bs ≡ true)
page_parts bs t = let p = and_parts (eqb (length bs) 257) (lawful bs) t in (eqb-true (length bs) 257 p.0, p.1)

pub page_from : (bs : List ℕ) → length bs ≡ 257 → lawful bs ≡ true → is_page bs ≡ true
page_from bs size t = and_from (eqb (length bs) 257) (lawful bs) (eq-eqb (length bs) 257 size) t

-- so a page stays one where a vector is parked, a group is drawn or the marks are written
pub page_one : (bs : List ℕ) (v : ℕ) → 16 ≤ v → v < 256 → is_page bs ≡ true → is_page (set bs v 1) ≡ true
page_one bs v h l t =
    let p = page_parts bs t in
    page_from (set bs v 1) (length-set bs v 1 ∙ p.0) (lawful_one bs v (omega (arith, p.0)) h l p.1)

pub page_marks : (bs : List ℕ) (x : ℕ) → x < 8 → is_page bs ≡ true → is_page (set bs 256 x) ≡ true
page_marks bs x h t =
    let p = page_parts bs t in
    page_from (set bs 256 x) (length-set bs 256 x ∙ p.0) (lawful_marks bs x p.0 h p.1)

pub page_wiped : (bs : List ℕ) (g : ℕ) → g < 4 → is_page bs ≡ true → is_page (wiped bs (64 * g) 64) ≡ true
page_wiped bs g l t =
    let p = page_parts bs t in
    page_from (wiped bs (64 * g) 64) (wiped_length bs (64 * g) 64 (omega (arith, p.0)) ∙ p.0)
    (lawful_from (wiped bs (64 * g) 64) flag (omega (arith, wiped_out bs (64 * g) 64 256 (omega (arith, p.0)) (λ _ d. omega arith), marks_small bs p.1)))
  where
    flag : (k : ℕ) → k < 256 → is_flag k (get_or (wiped bs (64 * g) 64) k 0) ≡ true
    flag k h =
        let p = page_parts bs t in
        let fit : 64 * g + 64 ≤ length bs = omega (arith, p.0) in
        ⊎_elim
        (λ (a : k < 64 * g). rw (wiped_out bs (64 * g) 64 k fit (λ d _. omega arith)) (flag_found bs p.1 k h))
        (λ (a : 64 * g ≤ k). ⊎_elim
        (λ (b : k < 64 * g + 64). rw (wiped_in bs (64 * g) 64 k fit a b) (le-leb 0 (cond (leb 16 k) 1 0) (omega arith)))
        (λ (b : 64 * g + 64 ≤ k). rw (wiped_out bs (64 * g) 64 k fit (λ _ d. omega arith)) (flag_found bs p.1 k h))
        (cases_lt k (64 * g + 64)))
        (cases_lt k (64 * g))
