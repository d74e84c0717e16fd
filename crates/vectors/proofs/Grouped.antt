-- Sets by the word of each group.
use Rattle.std.proofs.Common.{◌≡◌, ℕ, ◌%◌, ◌^◌, ◌<◌, ◌≤◌, Bool, true, false, not, ◌&&◌, ◌||◌, eqb, leb, sym, refl, ap, ◌∙◌, ⊎_elim, arith}
use mathlib.Core.Path.{fun_ext}
use lib.Bits.{bit_or}
use Rattle.std.proofs.lemmas.Bool.{cases_eq, cases_lt, cases_Bool, both_ways, eq-eqb, ne_eqb, and_parts, and_from, and_right, leb-true, le-leb}
use Rattle.vectors.specs.declared.set.VectorSet.{VectorSet}
use Rattle.vectors.specs.Sets.{bit, has, members, words_of, in_words, blank, gained, cleared, with, part, joined, group, usable, usable_word, Usable, count_to}
use Rattle.vectors.proofs.Bitwise.{bit_of_or, bit_zero, or_idle, join_one}
use Rattle.vectors.proofs.Counts.{count_empty}

-- the two accounts of a set agree
pub members_words : (s : VectorSet) → members s ≡ in_words (words_of s)
unfolding has in_words
members_words s = refl

pub in_blank : (v : ℕ) → in_words blank v ≡ false
unfolding in_words
in_blank v = bit_zero (v % 64)

-- two sets joined word by word
pub in_or : (p q : ℕ → ℕ) (v : ℕ) → in_words (λ g. bit_or (p g) (q g)) v ≡ (in_words p v || in_words q v)
unfolding in_words
in_or p q v = bit_of_or (p (group v)) (q (group v)) (v % 64)

-- one vector more
gained_joined : (p : ℕ → ℕ) (w k : ℕ) → in_words (gained p w) k ≡ joined (in_words p) (group w) (2 ^ (w % 64)) k
unfolding in_words
gained_joined p w k =
    ⊎_elim (λ (e : group k ≡ group w).
    rw (eq-eqb (group k) (group w) e) (bit_of_or (p (group k)) (2 ^ (w % 64)) (k % 64)))
    (λ (n : group k ≡ group w → ⊥).
    rw (ne_eqb (group k) (group w) n) (sym (or_idle (in_words p k))))
    (cases_eq (group k) (group w))

pub in_gained : (p : ℕ → ℕ) (w : ℕ) → in_words (gained p w) ≡ with (in_words p) w
in_gained p w = fun_ext (gained_joined p w) ∙ join_one (in_words p) w

-- one group less
pub in_cleared : (p : ℕ → ℕ) (g v : ℕ) → in_words (cleared p g) v ≡ (in_words p v && not (eqb (group v) g))
unfolding in_words
in_cleared p g v =
    ⊎_elim (λ (e : group v ≡ g). rw (eq-eqb (group v) g e) (bit_zero (v % 64) ∙ sym (and_false (in_words p v))))
    (λ (n : group v ≡ g → ⊥). rw (ne_eqb (group v) g n) (sym (and_true (in_words p v))))
    (cases_eq (group v) g)
  where
    and_false : (x : Bool) → (x && false) ≡ false
    and_false true = refl
    and_false false = refl

    and_true : (x : Bool) → (x && true) ≡ x
    and_true true = refl
    and_true false = refl

-- a group's word stands for the members of that group
pub part_of : (p : ℕ → ℕ) (g k : ℕ) → part g (p g) k ≡ (eqb (group k) g && in_words p k)
unfolding in_words
part_of p g k =
    ⊎_elim (λ (e : group k ≡ g). ap (λ (x : ℕ). eqb (group k) g && bit (p x) (k % 64)) (sym e))
    (λ (n : group k ≡ g → ⊥). rw (ne_eqb (group k) g n) refl)
    (cases_eq (group k) g)

-- a word has usable vectors only where the set has
pub word_usable : (g w : ℕ) → Usable (part g w) → usable_word g w ≡ true
word_usable g w u = eq-eqb (count_to (part g w) 16) 0 (count_empty (part g w) 16 u)

pub words_usable : (p : ℕ → ℕ) (g : ℕ) → Usable (in_words p) → usable_word g (p g) ≡ true
words_usable p g u = word_usable g (p g) (λ k l. part_of p g k ∙ and_right (eqb (group k) g) (in_words p k) (u k l))

-- members from 10h to FFh, said both ways
pub all_usable : (f : ℕ → Bool) → Usable f → ((k : ℕ) → 256 ≤ k → f k ≡ false) → (v : ℕ) → f v ≡ true → usable v ≡ true
all_usable f low high v m =
    and_from (leb 16 v) (leb v 255)
    (⊎_elim (λ (h : v < 16). absurd (both_ways (f v) (low v h) m)) (λ (h : 16 ≤ v). le-leb 16 v h) (cases_lt v 16))
    (⊎_elim (λ (h : v < 256). le-leb v 255 (omega arith)) (λ (h : 256 ≤ v). absurd (both_ways (f v) (high v h) m)) (cases_lt v 256))

pub none_low : (f : ℕ → Bool) → ((v : ℕ) → f v ≡ true → usable v ≡ true) → Usable f
none_low f h k l =
    ⊎_elim (λ (t : f k ≡ true). absurd (omega (arith, leb-true 16 k (and_parts (leb 16 k) (leb k 255) (h k t)).0))) (λ (t : f k ≡ false). t) (cases_Bool (f k))
