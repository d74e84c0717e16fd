-- What every bank keeps.
use Rattle.std.specs.Prelude.{◌≡◌, ℕ, Bool, true}
use Rattle.vectors.specs.Sets.{class}

-- at most one vector of each class
abbrev pub Nested : (ℕ → Bool) → Type 0
Nested f = (u v : ℕ) → (f u ≡ true) × (f v ≡ true) × (class u ≡ class v) → u ≡ v
