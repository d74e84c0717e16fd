-- What a descriptor means as its bytes change.
use Rattle.std.proofs.Common.{◌≡◌, ℕ, ◌+◌, ◌*◌, ◌/◌, ◌%◌, ◌^◌, ◌<◌, ◌≤◌, Bool, true, false, ltb, ◌≢◌, List, length, get_or, set, replicate, refl, ap, ◌∙◌, ⊎_elim, arith, get_or-set_other, get_or-set_same}
use mathlib.Core.Path.{fun_ext}
use lib.Bits.{bit_or}
use Rattle.std.proofs.lemmas.List.{get_or-replicate}
use Rattle.std.proofs.lemmas.Bool.{eq-eqb, ne_eqb, lt-ltb, cases_eq}
use Rattle.packed.specs.Packed.{word, wiped}
use Rattle.vectors.specs.Sets.{gained, cleared}
use Rattle.packed.proofs.Packing.{word_same, word_set, word_zero}
use Rattle.sink.specs.declared.face.Aim.{Aim}
use Rattle.sink.specs.declared.face.Aim.TheVariants.{Notification, Wake}
use Rattle.sink.specs.Meaning.{with_parked, with_rung, with_quiet, with_aim, empty_sink}
use Rattle.sink.proofs.Meanings.{same_meaning}
use Rattle.descriptor.specs.Layout.{described, marked, rung_in, quiet_in, sent_for, aim_in, prepared}
use Rattle.descriptor.specs.Steps.{noted, remarked}
use Rattle.packed.proofs.Wiping.{wiped_in, wiped_out, if_below, either_zero}

-- the vectors are kept where a byte past them is written
parked_kept : (bs : List ℕ) (i x : ℕ) → 32 ≤ i → (described (set bs i x)).parked ≡ (described bs).parked
parked_kept bs i x h =
    fun_ext (λ g. if_below g (word 8 (set bs i x) (8 * g) 8) (word 8 bs (8 * g) 8)
    (λ l. word_same 8 bs (set bs i x) (8 * g) 8 (λ k q. let ne : 8 * g + k ≢ i = omega arith in rw get_or-set_other)))

-- the rest is kept where the marks and the vector of the aim are
parked_only : (xs ys : List ℕ) (p : ℕ → ℕ) → ((g : ℕ) → (described ys).parked g ≡ p g) → get_or ys 32 0 ≡ get_or xs 32 0 → get_or ys 34 0 ≡ get_or xs 34 0
    → described ys ≡ with_parked (described xs) p
parked_only xs ys p h a b = same_meaning (fun_ext h) (ap rung_in a) (ap quiet_in a) (ap aim_in b) refl

pub rung_back : (r q : Bool) → rung_in (marked r q) ≡ r
rung_back true true = refl
rung_back true false = refl
rung_back false true = refl
rung_back false false = refl

pub quiet_back : (r q : Bool) → quiet_in (marked r q) ≡ q
quiet_back true true = refl
quiet_back true false = refl
quiet_back false true = refl
quiet_back false false = refl

pub aim_back : (a : Aim) → aim_in (sent_for a) ≡ a
aim_back Notification = refl
aim_back Wake = refl

pub marks_described : (bs : List ℕ) (r q : Bool) → 32 < length bs → described (remarked bs r q) ≡ with_quiet (with_rung (described bs) r) q
marks_described bs r q h =
    let b : get_or (remarked bs r q) 32 0 ≡ marked r q = get_or-set_same bs 32 (marked r q) 0 h in
    let other : ◌≢◌ {A = ℕ} 34 32 = omega arith in
    same_meaning (parked_kept bs 32 (marked r q) (omega arith)) (ap rung_in b ∙ rung_back r q) (ap quiet_in b ∙ quiet_back r q)
    (ap aim_in (get_or-set_other bs 32 34 (marked r q) 0 other)) refl

pub aim_described : (bs : List ℕ) (a : Aim) → 34 < length bs → described (set bs 34 (sent_for a)) ≡ with_aim (described bs) a
aim_described bs a h =
    let other : ◌≢◌ {A = ℕ} 32 34 = omega arith in
    let kept : get_or (set bs 34 (sent_for a)) 32 0 ≡ get_or bs 32 0 = get_or-set_other bs 34 32 (sent_for a) 0 other in
    same_meaning (parked_kept bs 34 (sent_for a) (omega arith)) (ap rung_in kept) (ap quiet_in kept)
    (ap aim_in (get_or-set_same bs 34 (sent_for a) 0 h) ∙ aim_back a) refl

-- one vector more
module _ (bs : List ℕ) (v : ℕ) (size : length bs ≡ 64) (narrow : (k : ℕ) → get_or bs k 0 < 256) (small : v < 256) where
  in_group : (g : ℕ) → g ≡ v / 64 → word 8 (noted bs v) (8 * g) 8 ≡ bit_or (word 8 bs (8 * g) 8) (2 ^ (v % 64))
  in_group g e =
      let place : 8 * g + (v / 8) % 8 ≡ v / 8 = omega arith in
      let bit : 8 * ((v / 8) % 8) + v % 8 ≡ v % 64 = omega arith in
      let made = word_set 8 bs (8 * g) 8 ((v / 8) % 8) (v % 8) (λ k _. narrow (8 * g + k)) (omega arith) (omega arith) (omega arith) in
      rw (place, bit) at made

  off_group : (g : ℕ) → (g ≡ v / 64 → ⊥) → word 8 (noted bs v) (8 * g) 8 ≡ word 8 bs (8 * g) 8
  off_group g ne = word_same 8 bs (noted bs v) (8 * g) 8 (λ k q. let other : 8 * g + k ≢ v / 8 = omega arith in rw get_or-set_other)

  noted_parked : (g : ℕ) → (described (noted bs v)).parked g ≡ gained (described bs).parked v g
  noted_parked g =
      ⊎_elim
      (λ (e : g ≡ v / 64). rw (eq-eqb g (v / 64) e, lt-ltb g 4 (omega arith)) (in_group g e))
      (λ (ne : g ≡ v / 64 → ⊥). rw (ne_eqb g (v / 64) ne) (if_below g _ _ (λ _. off_group g ne)))
      (cases_eq g (v / 64))

  pub noted_described : described (noted bs v) ≡ with_parked (described bs) (gained (described bs).parked v)
  noted_described =
      let a : 32 ≢ v / 8 = omega arith in
      let b : 34 ≢ v / 8 = omega arith in
      parked_only bs (noted bs v) (gained (described bs).parked v) noted_parked (rw get_or-set_other) (rw get_or-set_other)

-- one group less
module _ (bs : List ℕ) (h : ℕ) (l : h < 4) (size : length bs ≡ 64) where
  wiped_parked : (g : ℕ) → (described (wiped bs (8 * h) 8)).parked g ≡ cleared (described bs).parked h g
  wiped_parked g =
      ⊎_elim
      (λ (e : g ≡ h).
      rw (eq-eqb g h e, lt-ltb g 4 (omega arith))
      (word_zero 8 (wiped bs (8 * h) 8) (8 * g) 8 (λ k q. wiped_in bs (8 * h) 8 (8 * g + k) (omega arith) (omega arith) (omega arith))))
      (λ (ne : g ≡ h → ⊥).
      rw (ne_eqb g h ne) (if_below g _ _ (λ _. word_same 8 bs (wiped bs (8 * h) 8) (8 * g) 8 (λ k q.
      wiped_out bs (8 * h) 8 (8 * g + k) (omega arith) (λ a b. omega arith)))))
      (cases_eq g h)

  pub wiped_described : described (wiped bs (8 * h) 8) ≡ with_parked (described bs) (cleared (described bs).parked h)
  wiped_described =
      parked_only bs (wiped bs (8 * h) 8) (cleared (described bs).parked h) wiped_parked
      (wiped_out bs (8 * h) 8 32 (omega arith) (λ a b. omega arith)) (wiped_out bs (8 * h) 8 34 (omega arith) (λ a b. omega arith))

-- an empty descriptor
prepared_zero : (k : ℕ) → k < 32 → get_or prepared k 0 ≡ 0
prepared_zero k h =
    let other : k ≢ 34 = omega arith in
    get_or-set_other (replicate 64 0) 34 k 242 0 other ∙ get_or-replicate 64 k 0 0 (omega arith)

prepared_parked : (g : ℕ) → (described prepared).parked g ≡ 0
prepared_parked g =
    if_below g (word 8 prepared (8 * g) 8) 0 (λ l. word_zero 8 prepared (8 * g) 8 (λ k q. prepared_zero (8 * g + k) (omega arith)))
    ∙ either_zero (ltb g 4)

pub prepared_described : described prepared ≡ empty_sink (λ v. v)
prepared_described = same_meaning (fun_ext prepared_parked) refl refl refl refl
