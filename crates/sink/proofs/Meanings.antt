-- Meanings that are equal field by field, and soundness.
use Rattle.std.proofs.Common.{◌≡◌, ℕ, true, ltb, ap, ◌∙◌}
use Rattle.std.proofs.lemmas.Bool.{cond-true, lt-ltb}
use Rattle.vectors.specs.Sets.{usable, usable_word, cleared}
use Rattle.vectors.proofs.Grouped.{words_usable, none_low, in_gained, in_cleared, part_of}
use Rattle.sink.specs.declared.face.Route.TheVariants.{Parked, Through}
use Rattle.sink.specs.Meaning.{Meaning, is_parked, Sound, gains, with_parked}
use Rattle.sink.specs.Laws.{ParkAdds, WordTells, DrawRemoves}

pub same_meaning : {m n : Meaning} → m.parked ≡ n.parked → m.rung ≡ n.rung → m.quiet ≡ n.quiet → m.aim ≡ n.aim → m.naming ≡ n.naming → m ≡ n
same_meaning p r q a f i = record { parked = p i; rung = r i; quiet = q i; aim = a i; naming = f i }

-- what a sound sink draws is usable
pub sound_word : (m : Meaning) → Sound m → (g : ℕ) → usable_word g (m.parked g) ≡ true
sound_word m s g = words_usable m.parked g (none_low (is_parked m) s.1)

-- parking and drawing, by the set of parked vectors
pub park_adds : ParkAdds
park_adds m v u = (
  ap is_parked (cond-true (usable v) (gains m v Parked) m u) ∙ in_gained m.parked (m.naming v),
  cond-true (usable v) (gains m v Through) m u,
)

pub word_tells : WordTells
word_tells m g v = part_of m.parked g v

pub draw_removes : DrawRemoves
draw_removes m g v l =
    ap (λ (n : Meaning). is_parked n v) (cond-true (ltb g 4) (with_parked m (cleared m.parked g)) m (lt-ltb g 4 l)) ∙ in_cleared m.parked g v
