-- Lawful bytes mean a sound sink.
use Rattle.std.proofs.Common.{◌≡◌, ℕ, ◌*◌, ◌/◌, ◌%◌, ◌≤◌, Bool, true, false, cond, ◌&&◌, eqb, List, length, get_or, sym, refl, ap, ◌∙◌, arith}
use Rattle.std.proofs.lemmas.Bool.{eq-eqb, eqb-true, le-ltb}
use Rattle.packed.specs.Packed.{word}
use Rattle.vectors.specs.Sets.{bit, in_words, group, Usable, usable_word}
use Rattle.vectors.proofs.Bitwise.{bit_zero}
use Rattle.vectors.proofs.Counts.{word_low}
use Rattle.vectors.proofs.Grouped.{part_of, all_usable}
use Rattle.sink.specs.Meaning.{is_parked, Sound}
use Rattle.sink.proofs.Meanings.{sound_word}
use Rattle.descriptor.specs.Layout.{described, lawful}
use Rattle.descriptor.proofs.Lawfulness.{lawful_at}

module _ (bs : List ℕ) (size : length bs ≡ 64) (e : lawful bs ≡ true) where
  low_zero : word 8 bs 0 8 % 65536 ≡ 0
  unfolding word
  low_zero =
      let a : get_or bs 0 0 ≡ 0 = eqb-true (get_or bs 0 0) 0 (lawful_at bs e 0 (omega arith)) in
      let b : get_or bs 1 0 ≡ 0 = eqb-true (get_or bs 1 0) 0 (lawful_at bs e 1 (omega arith)) in
      omega arith

  none_low : Usable (is_parked (described bs))
  none_low k l =
      let z : k / 64 ≡ 0 = omega arith in
      let here : eqb (group k) 0 ≡ true = eq-eqb (group k) 0 z in
      let w = (word_low 0 (word 8 bs 0 8) refl).1 (eq-eqb (word 8 bs 0 8 % 65536) 0 low_zero) k l in
      sym (part_of (described bs).parked 0 k ∙ ap (λ (b : Bool). b && is_parked (described bs) k) here) ∙ w

none_high : (bs : List ℕ) (k : ℕ) → 256 ≤ k → is_parked (described bs) k ≡ false
unfolding in_words
none_high bs k h =
    ap (λ (b : Bool). bit (cond b (word 8 bs (8 * group k) 8) 0) (k % 64)) (le-ltb (group k) 4 (omega arith)) ∙ bit_zero (k % 64)

pub sound : (bs : List ℕ) → length bs ≡ 64 → lawful bs ≡ true → Sound (described bs)
sound bs size e = ((λ v u. u), all_usable (is_parked (described bs)) (none_low bs size e) (none_high bs))

pub word_sound : (bs : List ℕ) → length bs ≡ 64 → lawful bs ≡ true → (g : ℕ) → usable_word g ((described bs).parked g) ≡ true
word_sound bs size e = sound_word (described bs) (sound bs size e)
