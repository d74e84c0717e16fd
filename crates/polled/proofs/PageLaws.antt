-- What a page means as its bytes change.
use Rattle.std.proofs.Common.{◌≡◌, ℕ, zero, suc, ◌+◌, ◌-◌, ◌*◌, ◌/◌, ◌%◌, ◌^◌, ◌<◌, ◌≤◌, Bool, true, false, cond, eqb, List, length, get_or, set, refl, ap, ◌∙◌, ⊎_elim, arith, get_or-set_other, get_or-set_same}
use mathlib.Core.Path.{fun_ext}
use lib.Bits.{bit_or}
use Rattle.std.proofs.lemmas.Nat.{shr_high}
use Rattle.std.proofs.lemmas.Bool.{eq-eqb, ne_eqb, lt-ltb, le-ltb, cases_eq}
use Rattle.vectors.specs.Sets.{bit, in_words, gained, usable_word}
use Rattle.packed.specs.Packed.{word}
use Rattle.vectors.proofs.Bitwise.{bit_zero}
use Rattle.vectors.proofs.Grouped.{all_usable}
use Rattle.packed.proofs.Packing.{Narrow, word_lt, word_same, word_set, word_split}
use Rattle.sink.specs.declared.face.Aim.{Aim}
use Rattle.sink.specs.declared.face.Aim.TheVariants.{Notification, Wake}
use Rattle.sink.specs.declared.face.Route.TheVariants.{Parked}
use Rattle.sink.specs.Meaning.{Sound, is_parked, with_parked, with_rung, with_quiet, with_aim, gains}
use Rattle.sink.proofs.Meanings.{same_meaning, sound_word}
use Rattle.polled.specs.Layout.{polled, lawful, marked, marks_of}
use Rattle.packed.proofs.Wiping.{if_below}
use Rattle.polled.proofs.Lawfulness.{flag_small, flag_low}

-- bit k of a word of bytes of one bit each is its byte k
pub bit_word : (bs : List ℕ) (from n k : ℕ) → Narrow 1 bs from n → k < n → bit (word 1 bs from n) k ≡ eqb (get_or bs (from + k) 0) 1
unfolding bit word
bit_word bs from n k h l =
    let m : ℕ = n - k - 1 in
    let whole : k + (1 + m) ≡ n = omega arith in
    let one : 1 * k ≡ k = omega arith in
    let low = word_lt 1 bs from k (λ j q. h j (omega arith)) in
    let small : word 1 bs from k < 2 ^ k = rw one at low in
    let cut = word_split 1 bs from k (1 + m) in
    let parts : word 1 bs from n ≡ word 1 bs (from + k) (1 + m) * 2 ^ k + word 1 bs from k = omega (arith, rw (whole, one) at cut) in
    let up : word 1 bs from n / 2 ^ k ≡ word 1 bs (from + k) (1 + m) = ap (λ (x : ℕ). x / 2 ^ k) parts ∙ shr_high (word 1 bs (from + k) (1 + m)) k (word 1 bs from k) small in
    let first : word 1 bs (from + k) (1 + m) ≡ (0 + get_or bs (from + k + 0) 0 * 1) + word 1 bs (from + k + 1) m * 2 = word_split 1 bs (from + k) 1 m in
    let place : from + k + 0 ≡ from + k = omega arith in
    let byte : get_or bs (from + k) 0 < 2 = h k l in
    let digit : word 1 bs from n / 2 ^ k % 2 ≡ get_or bs (from + k) 0 = omega (arith, rw place at first) in
    ap (λ (x : ℕ). eqb x 1) digit

module _ (bs : List ℕ) (t : lawful bs ≡ true) where
  pub in_flags : (g : ℕ) → g < 4 → Narrow 1 bs (64 * g) 64
  in_flags g l k h = flag_small bs t (64 * g + k) (omega arith)

  pub parked_at : (v : ℕ) → v < 256 → is_parked (polled bs) v ≡ eqb (get_or bs v 0) 1
  unfolding in_words
  parked_at v h =
      let place : 64 * (v / 64) + v % 64 ≡ v = omega arith in
      let b = bit_word bs (64 * (v / 64)) 64 (v % 64) (in_flags (v / 64) (omega arith)) (omega arith) in
      rw (lt-ltb (v / 64) 4 (omega arith)) (rw place at b)

  past : (v : ℕ) → 256 ≤ v → is_parked (polled bs) v ≡ false
  unfolding in_words
  past v h = rw (le-ltb (v / 64) 4 (omega arith)) (bit_zero (v % 64))

  pub page_sound : Sound (polled bs)
  page_sound = (
    (λ v u. u),
    all_usable (is_parked (polled bs)) (λ k l. parked_at k (omega arith) ∙ ne_eqb (get_or bs k 0) 1 (λ e. omega (arith, flag_low bs t k l))) past,
  )

  pub word_sound : (g : ℕ) → usable_word g ((polled bs).parked g) ≡ true
  word_sound = sound_word (polled bs) page_sound

  pub group_usable : (g : ℕ) → g < 4 → usable_word g (word 1 bs (64 * g) 64) ≡ true
  group_usable g l = rw (lt-ltb g 4 l) at (word_sound g)

-- the words where the marks are written
words_kept : (bs : List ℕ) (x : ℕ) → (polled (set bs 256 x)).parked ≡ (polled bs).parked
words_kept bs x =
    fun_ext (λ g. if_below g (word 1 (set bs 256 x) (64 * g) 64) (word 1 bs (64 * g) 64)
    (λ l. word_same 1 bs (set bs 256 x) (64 * g) 64 (λ k q. get_or-set_other bs 256 (64 * g + k) x 0 (λ e. omega arith))))

rung_of : (r q : Bool) (a : Aim) → eqb (marks_of r q a % 2) 1 ≡ r
rung_of true true Notification = refl
rung_of true true Wake = refl
rung_of true false Notification = refl
rung_of true false Wake = refl
rung_of false true Notification = refl
rung_of false true Wake = refl
rung_of false false Notification = refl
rung_of false false Wake = refl

quiet_of : (r q : Bool) (a : Aim) → eqb (marks_of r q a / 2 % 2) 1 ≡ q
quiet_of true true Notification = refl
quiet_of true true Wake = refl
quiet_of true false Notification = refl
quiet_of true false Wake = refl
quiet_of false true Notification = refl
quiet_of false true Wake = refl
quiet_of false false Notification = refl
quiet_of false false Wake = refl

aim_of : (r q : Bool) (a : Aim) → cond (eqb (marks_of r q a / 4 % 2) 1) Wake Notification ≡ a
aim_of true true Notification = refl
aim_of true true Wake = refl
aim_of true false Notification = refl
aim_of true false Wake = refl
aim_of false true Notification = refl
aim_of false true Wake = refl
aim_of false false Notification = refl
aim_of false false Wake = refl

-- the marks in bytes whose last is their byte
module _ (bs : List ℕ) (r q : Bool) (a : Aim) (e : get_or bs 256 0 ≡ marks_of r q a) where
  pub rung_in : (polled bs).rung ≡ r
  rung_in = ap (λ (x : ℕ). eqb (x % 2) 1) e ∙ rung_of r q a

  pub quiet_in : (polled bs).quiet ≡ q
  quiet_in = ap (λ (x : ℕ). eqb (x / 2 % 2) 1) e ∙ quiet_of r q a

  pub aim_in : (polled bs).aim ≡ a
  aim_in = ap (λ (x : ℕ). cond (eqb (x / 4 % 2) 1) Wake Notification) e ∙ aim_of r q a

pub mark_polled : (bs : List ℕ) (r q : Bool) (a : Aim) → length bs ≡ 257 → polled (marked bs r q a) ≡ with_rung (with_quiet (with_aim (polled bs) a) q) r
mark_polled bs r q a size =
    let e : get_or (marked bs r q a) 256 0 ≡ marks_of r q a = get_or-set_same bs 256 (marks_of r q a) 0 (omega arith) in
    same_meaning (words_kept bs (marks_of r q a)) (rung_in (marked bs r q a) r q a e) (quiet_in (marked bs r q a) r q a e) (aim_in (marked bs r q a) r q a e) refl

-- other parked vectors under the same marks
pub repolled : (xs ys : List ℕ) (p : ℕ → ℕ) → ((g : ℕ) → (polled ys).parked g ≡ p g) → get_or ys 256 0 ≡ get_or xs 256 0 → polled ys ≡ with_parked (polled xs) p
repolled xs ys p h a =
    same_meaning (fun_ext h) (ap (λ (x : ℕ). eqb (x % 2) 1) a) (ap (λ (x : ℕ). eqb (x / 2 % 2) 1) a) (ap (λ (x : ℕ). cond (eqb (x / 4 % 2) 1) Wake Notification) a) refl

or_one : (x : ℕ) → x < 2 → bit_or x 1 ≡ 1
or_one zero h = refl
or_one (suc zero) h = refl
or_one (suc (suc x)) h = absurd (omega arith)

-- a vector parked
module _ (bs : List ℕ) (v : ℕ) (size : length bs ≡ 257) (t : lawful bs ≡ true) (small : v < 256) where
  in_group : (g : ℕ) → g ≡ v / 64 → word 1 (set bs v 1) (64 * g) 64 ≡ bit_or (word 1 bs (64 * g) 64) (2 ^ (v % 64))
  in_group g e =
      let place : 64 * g + v % 64 ≡ v = omega arith in
      let bits : 1 * (v % 64) + 0 ≡ v % 64 = omega arith in
      let or : bit_or (get_or bs v 0) 1 ≡ 1 = or_one (get_or bs v 0) (flag_small bs t v small) in
      let made = word_set 1 bs (64 * g) 64 (v % 64) 0 (in_flags bs t g (omega arith)) (omega arith) (omega arith) (omega arith) in
      rw (place, bits, or) at made

  off_group : (g : ℕ) → (g ≡ v / 64 → ⊥) → word 1 (set bs v 1) (64 * g) 64 ≡ word 1 bs (64 * g) 64
  off_group g ne = word_same 1 bs (set bs v 1) (64 * g) 64 (λ k q. get_or-set_other bs v (64 * g + k) 1 0 (λ e. omega arith))

  noted : (g : ℕ) → (polled (set bs v 1)).parked g ≡ gained (polled bs).parked v g
  noted g =
      ⊎_elim (λ (e : g ≡ v / 64). rw (eq-eqb g (v / 64) e, lt-ltb g 4 (omega arith)) (in_group g e))
      (λ (ne : g ≡ v / 64 → ⊥). rw (ne_eqb g (v / 64) ne) (if_below g (word 1 (set bs v 1) (64 * g) 64) (word 1 bs (64 * g) 64) (λ _. off_group g ne)))
      (cases_eq g (v / 64))

  pub park_polled : polled (set bs v 1) ≡ gains (polled bs) v Parked
  park_polled = repolled bs (set bs v 1) (gained (polled bs).parked v) noted (get_or-set_other bs v 256 1 0 (λ e. omega arith))
