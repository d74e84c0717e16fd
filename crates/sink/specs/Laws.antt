-- What parking and drawing do to the set of parked vectors.
use Rattle.std.specs.Prelude.{◌≡◌, ℕ, ◌<◌, true, not, ◌&&◌, ◌==◌}
use Rattle.vectors.specs.Sets.{usable, with, part, group}
use Rattle.sink.specs.declared.face.Route.TheVariants.{Parked, Through}
use Rattle.sink.specs.Meaning.{Meaning, is_parked, after_park, after_draw}

-- A vector that is parked joins the parked vectors under its name, and one that goes through leaves the sink as it was.
abbrev pub ParkAdds : Type 0
ParkAdds = (m : Meaning) (v : ℕ) → usable v ≡ true → (is_parked (after_park m v Parked) ≡ with (is_parked m) (m.naming v)) × (after_park m v Through ≡ m)

-- The word that a draw or a look answers stands for the parked vectors of the group.
abbrev pub WordTells : Type 0
WordTells = (m : Meaning) (g v : ℕ) → part g (m.parked g) v ≡ (group v == g && is_parked m v)

-- A draw takes out the vectors of its group and no other.
abbrev pub DrawRemoves : Type 0
DrawRemoves = (m : Meaning) (g v : ℕ) → g < 4 → is_parked (after_draw m g) v ≡ (is_parked m v && not (group v == g))
