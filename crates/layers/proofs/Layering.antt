-- Two sets together, word by word, as one of them changes.
use Rattle.std.proofs.Common.{◌≡◌, ℕ, Bool, true, false, cond, ltb, Ok, Err, refl, ap, sym, ◌∙◌, arith}
use mathlib.Core.Path.{fun_ext}
use lib.Bits.{bit_or}
use Rattle.std.proofs.lemmas.Nat.{or_comm}
use Rattle.std.proofs.lemmas.Bool.{eqb-true}
use Rattle.vectors.specs.Sets.{part, gained, cleared, usable, usable_word, Usable, words_of, count_to}
use Rattle.vectors.proofs.Bitwise.{bit_of_or, or_assoc}
use Rattle.vectors.proofs.Counts.{count_zero}
use Rattle.vectors.proofs.Grouped.{members_words, in_or, word_usable}
use Rattle.sink.specs.declared.face.Route.{Route}
use Rattle.sink.specs.declared.face.Route.TheVariants.{Parked, Through}
use Rattle.vectors.specs.declared.faults.Fault.TheVariants.{Unusable}
use Rattle.sink.specs.Meaning.{Meaning, Sound, gains, after_park, with_parked, names, after_draw}
use Rattle.layers.specs.declared.held.Held.{Held}
use Rattle.layers.specs.Holding.{Own, own_of, both, migrated}

-- a vector more in either is one more in both
pub gain_first : (p q : ℕ → ℕ) (w : ℕ) → both (gained p w) q ≡ gained (both p q) w
gain_first p q w = fun_ext (λ g. grind (arith, or_assoc, or_comm))

pub gain_second : (p q : ℕ → ℕ) (w : ℕ) → both p (gained q w) ≡ gained (both p q) w
gain_second p q w = fun_ext (λ g. grind (arith, or_assoc))

-- a group less in each is one less in both
pub both_cleared : (p q : ℕ → ℕ) (g : ℕ) → both (cleared p g) (cleared q g) ≡ cleared (both p q) g
both_cleared p q g = fun_ext (λ h. grind arith)

-- usable words together are usable
pub join_usable : (g x y : ℕ) → usable_word g x ≡ true → usable_word g y ≡ true → usable_word g (bit_or x y) ≡ true
join_usable g x y a b = word_usable g (bit_or x y) each
  where
    each : Usable (part g (bit_or x y))
    each k l =
        let low : part g x k ≡ false = count_zero (part g x) 16 (eqb-true (count_to (part g x) 16) 0 a) k l in
        let high : part g y k ≡ false = count_zero (part g y) 16 (eqb-true (count_to (part g y) 16) 0 b) k l in
        grind (arith, bit_of_or)

-- a layer on a sound sink is a sound sink
pub sound_migrated : (m : Meaning) (h : Held) → Sound m → Sound (migrated m (own_of h))
sound_migrated m h s = (s.0, λ v. let e = in_or (words_of h.set) m.parked v in let own = h.usable v in let below = s.1 v in grind (arith, members_words h.set))

-- a post below a layer is a post to the layer
gains_below : (m : Meaning) (a : Own) (v : ℕ) (r : Route) → migrated (gains m v r) a ≡ gains (migrated m a) v r
gains_below m a v Parked = ap (with_parked (migrated m a)) (gain_second a.set m.parked (m.naming v))
gains_below m a v Through = refl

pub park_below : (m : Meaning) (a : Own) (v : ℕ) (r : Route) {n : Meaning} → n ≡ after_park m v r → migrated n a ≡ after_park (migrated m a) v r
park_below m a v r e = ap (λ (x : Meaning). migrated x a) e ∙ pick (usable v)
  where
    pick : (t : Bool) → migrated (cond t (gains m v r) m) a ≡ cond t (gains (migrated m a) v r) (migrated m a)
    pick true = gains_below m a v r
    pick false = refl

-- a post that the layer keeps is a post to the layer
pub park_kept : (m : Meaning) (a : Own) (v w : ℕ) (p : ℕ → ℕ) → names m v ≡ Ok w → both p m.parked ≡ gained (both a.set m.parked) w
    → migrated m (record a { set = p }) ≡ after_park (migrated m a) v Parked
park_kept m a v w p n e = pick (usable v) n
  where
    pick : (t : Bool) → cond t (Ok (m.naming v)) (Err Unusable) ≡ Ok w → migrated m (record a { set = p }) ≡ cond t (gains (migrated m a) v Parked) (migrated m a)
    pick true q = let same : m.naming v ≡ w = cc in ap (with_parked (migrated m a)) (e ∙ ap (gained (both a.set m.parked)) (sym same))
    pick false q = cc

-- the same where the layer's own set gains the name
pub park_gained : (m : Meaning) (a : Own) (v : ℕ) {w : ℕ} {p : ℕ → ℕ} → Ok w ≡ names m v → p ≡ gained a.set w → migrated m (record a { set = p }) ≡ after_park (migrated m a) v Parked
park_gained m a v {w} {p} n e = park_kept m a v w p (sym n) (ap (λ (q : ℕ → ℕ). both q m.parked) e ∙ gain_first a.set m.parked w)

-- a group drawn from both is drawn from the layer
pub draw_both : (m n : Meaning) (a : Own) (g : ℕ) (p : ℕ → ℕ) → n ≡ after_draw m g → p ≡ cond (ltb g 4) (cleared a.set g) a.set
    → migrated n (record a { set = p }) ≡ after_draw (migrated m a) g
draw_both m n a g p e h = rw (e, h) (grind (arith, both_cleared))
