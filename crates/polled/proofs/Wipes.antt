-- A group that is drawn.
use Rattle.std.proofs.Common.{◌≡◌, ℕ, ◌+◌, ◌*◌, ◌<◌, ◌≤◌, List, length, ⊎_elim, arith}
use Rattle.std.proofs.lemmas.Bool.{eq-eqb, ne_eqb, lt-ltb, cases_eq, cases_lt}
use Rattle.vectors.specs.Sets.{cleared}
use Rattle.packed.specs.Packed.{word, wiped}
use Rattle.packed.proofs.Packing.{word_same, word_zero}
use Rattle.sink.specs.Meaning.{with_parked}
use Rattle.polled.specs.Layout.{polled}
use Rattle.packed.proofs.Wiping.{wiped_in, wiped_out, if_below}
use Rattle.polled.proofs.PageLaws.{repolled}

-- a group drawn
module _ (bs : List ℕ) (h : ℕ) (size : length bs ≡ 257) (l : h < 4) where
  off_group : (g : ℕ) → (g ≡ h → ⊥) → word 1 (wiped bs (64 * h) 64) (64 * g) 64 ≡ word 1 bs (64 * g) 64
  off_group g ne =
      word_same 1 bs (wiped bs (64 * h) 64) (64 * g) 64
      (λ k q. ⊎_elim (λ (a : g < h). wiped_out bs (64 * h) 64 (64 * g + k) (omega arith) (λ x y. omega arith))
      (λ (b : h ≤ g). wiped_out bs (64 * h) 64 (64 * g + k) (omega arith) (λ x y. omega arith))
      (cases_lt g h))

  drawn : (g : ℕ) → (polled (wiped bs (64 * h) 64)).parked g ≡ cleared (polled bs).parked h g
  drawn g =
      ⊎_elim (λ (e : g ≡ h).
      rw (eq-eqb g h e, lt-ltb g 4 (omega arith)) (word_zero 1 (wiped bs (64 * h) 64) (64 * g) 64 (λ k q. wiped_in bs (64 * h) 64 (64 * g + k) (omega arith) (omega arith) (omega arith))))
      (λ (ne : g ≡ h → ⊥). rw (ne_eqb g h ne) (if_below g (word 1 (wiped bs (64 * h) 64) (64 * g) 64) (word 1 bs (64 * g) 64) (λ _. off_group g ne)))
      (cases_eq g h)

  pub wiped_polled : polled (wiped bs (64 * h) 64) ≡ with_parked (polled bs) (cleared (polled bs).parked h)
  wiped_polled = repolled bs (wiped bs (64 * h) 64) (cleared (polled bs).parked h) drawn (wiped_out bs (64 * h) 64 256 (omega arith) (λ x y. omega arith))
