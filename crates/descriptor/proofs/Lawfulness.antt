-- Lawful bytes, place by place.
use Rattle.std.proofs.Common.{◌≡◌, ℕ, zero, suc, ◌+◌, ◌*◌, ◌<◌, ◌≤◌, Bool, true, false, ◌&&◌, ◌≢◌, List, [], ◌∷◌, length, get_or, drop, set, refl, ap, ◌∙◌, ⊎_elim, arith, length-set, get_or-set_other, get_or-set_same}
use Rattle.std.proofs.lemmas.List.{at_drop_more, at_drop_all}
use Rattle.std.proofs.lemmas.Bool.{and_parts, and_from, cases_eq, lt-ltb, le-ltb, cases_lt}
use Rattle.sink.specs.declared.face.Aim.{Aim}
use Rattle.sink.specs.declared.face.Aim.TheVariants.{Notification, Wake}
use Rattle.packed.specs.Packed.{wiped}
use Rattle.packed.proofs.Wiping.{wiped_in, wiped_out, wiped_length}
use Rattle.descriptor.specs.Layout.{permits, lawful_from, lawful, IsDescriptor, marked, sent_for, prepared}

-- one byte after another
lawful_more : (bs : List ℕ) (k : ℕ) → k < length bs → lawful_from k (drop k bs) ≡ (permits k (get_or bs k 0) && lawful_from (k + 1) (drop (k + 1) bs))
unfolding lawful_from
lawful_more bs k h = at_drop_more (lawful_from k) bs k 0 h

pub lawful_on : (bs : List ℕ) (k : ℕ) → k < length bs → permits k (get_or bs k 0) ≡ true → lawful_from k (drop k bs) ≡ lawful_from (k + 1) (drop (k + 1) bs)
lawful_on bs k h p = lawful_more bs k h ∙ ap (λ (b : Bool). b && lawful_from (k + 1) (drop (k + 1) bs)) p

pub lawful_off : (bs : List ℕ) (k : ℕ) → k < length bs → permits k (get_or bs k 0) ≡ false → lawful_from k (drop k bs) ≡ false
lawful_off bs k h p = lawful_more bs k h ∙ ap (λ (b : Bool). b && lawful_from (k + 1) (drop (k + 1) bs)) p

pub lawful_end : (bs : List ℕ) (k : ℕ) → length bs ≤ k → lawful_from k (drop k bs) ≡ true
unfolding lawful_from
lawful_end bs k h = at_drop_all (lawful_from k) bs k h

-- bytes are lawful exactly if each is permitted at its place
permitted : (k : ℕ) (bs : List ℕ) → lawful_from k bs ≡ true → (i : ℕ) → i < length bs → permits (k + i) (get_or bs i 0) ≡ true
unfolding lawful_from
permitted k [] e i h = absurd (omega arith)
permitted k (b ∷ bs) e zero h =
    let z : k + 0 ≡ k = omega arith in
    rw z (and_parts (permits k b) (lawful_from (k + 1) bs) e).0
permitted k (b ∷ bs) e (suc i) h =
    let s : k + suc i ≡ k + 1 + i = omega arith in
    rw s (permitted (k + 1) bs (and_parts (permits k b) (lawful_from (k + 1) bs) e).1 i (omega arith))

all_permitted : (k : ℕ) (bs : List ℕ) → ((i : ℕ) → i < length bs → permits (k + i) (get_or bs i 0) ≡ true) → lawful_from k bs ≡ true
unfolding lawful_from
all_permitted k [] h = refl
all_permitted k (b ∷ bs) h =
    let z : k + 0 ≡ k = omega arith in
    and_from (permits k b) (lawful_from (k + 1) bs)
    (rw z at (h 0 (omega arith)))
    (all_permitted (k + 1) bs (λ i l. let s : k + 1 + i ≡ k + suc i = omega arith in rw s (h (suc i) (omega arith))))

pub lawful_at : (bs : List ℕ) → lawful bs ≡ true → (k : ℕ) → k < length bs → permits k (get_or bs k 0) ≡ true
lawful_at bs e k h = let z : 0 + k ≡ k = omega arith in rw z at (permitted 0 bs e k h)

lawful_each : (bs : List ℕ) → ((k : ℕ) → k < length bs → permits k (get_or bs k 0) ≡ true) → lawful bs ≡ true
lawful_each bs h = all_permitted 0 bs (λ k l. let z : 0 + k ≡ k = omega arith in rw z (h k l))

-- a permitted byte may be written
pub lawful_set : (bs : List ℕ) (k x : ℕ) → k < length bs → permits k x ≡ true → lawful bs ≡ true → lawful (set bs k x) ≡ true
lawful_set bs k x h p e = lawful_each (set bs k x) (λ j l.
    let within : j < length bs = rw length-set at l in
    ⊎_elim (λ (s : j ≡ k). rw (s, get_or-set_same) p)
    (λ (ne : j ≡ k → ⊥). let other : j ≢ k = ne in rw get_or-set_other (lawful_at bs e j within))
    (cases_eq j k))

-- what operations write
pub vectors_permitted : (k x : ℕ) → 2 ≤ k → k < 32 → permits k x ≡ true
vectors_permitted k x l h = rw (le-ltb k 2 l, lt-ltb k 32 h)

pub zero_permitted : (k : ℕ) → k < 32 → permits k 0 ≡ true
zero_permitted k h =
    ⊎_elim (λ (l : k < 2). rw (lt-ltb k 2 l)) (λ (l : 2 ≤ k). vectors_permitted k 0 l h) (cases_lt k 2)

pub marks_permitted : (rung quiet : Bool) → permits 32 (marked rung quiet) ≡ true
marks_permitted true true = refl
marks_permitted true false = refl
marks_permitted false true = refl
marks_permitted false false = refl

pub aim_permitted : (a : Aim) → permits 34 (sent_for a) ≡ true
aim_permitted Notification = refl
aim_permitted Wake = refl

pub prepared_lawful : lawful prepared ≡ true
unfolding lawful_from
prepared_lawful = refl

-- so a descriptor stays one where the marks or the vector of the aim are written
pub marks_whole : (bs : List ℕ) (x : ℕ) (r q : Bool) → x ≡ marked r q → IsDescriptor bs → IsDescriptor (set bs 32 x)
marks_whole bs x r q e w = (length-set bs 32 x ∙ w.0, lawful_set bs 32 x (omega (arith, w.0)) (ap (permits 32) e ∙ marks_permitted r q) w.1)

pub aim_whole : (bs : List ℕ) (x : ℕ) (a : Aim) → x ≡ sent_for a → IsDescriptor bs → IsDescriptor (set bs 34 x)
aim_whole bs x a e w = (length-set bs 34 x ∙ w.0, lawful_set bs 34 x (omega (arith, w.0)) (ap (permits 34) e ∙ aim_permitted a) w.1)

-- and where a group is cleared
pub wiped_whole : (bs : List ℕ) (g : ℕ) → g < 4 → IsDescriptor bs → IsDescriptor (wiped bs (8 * g) 8)
wiped_whole bs g l w = (wiped_length bs (8 * g) 8 (omega (arith, w.0)) ∙ w.0, lawful_each (wiped bs (8 * g) 8) each)
  where
    each : (k : ℕ) → k < length (wiped bs (8 * g) 8) → permits k (get_or (wiped bs (8 * g) 8) k 0) ≡ true
    each k h =
        let within : k < length bs = rw (wiped_length bs (8 * g) 8 (omega (arith, w.0))) at h in
        ⊎_elim
        (λ (a : k < 8 * g). rw (wiped_out bs (8 * g) 8 k (omega (arith, w.0)) (λ d _. omega arith)) (lawful_at bs w.1 k within))
        (λ (a : 8 * g ≤ k). ⊎_elim
        (λ (b : k < 8 * g + 8). rw (wiped_in bs (8 * g) 8 k (omega (arith, w.0)) a b) (zero_permitted k (omega arith)))
        (λ (b : 8 * g + 8 ≤ k). rw (wiped_out bs (8 * g) 8 k (omega (arith, w.0)) (λ _ d. omega arith)) (lawful_at bs w.1 k within))
        (cases_lt k (8 * g + 8)))
        (cases_lt k (8 * g))
