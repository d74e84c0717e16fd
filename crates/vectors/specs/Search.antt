-- The highest vector of a set.
use Rattle.std.specs.Prelude.{◌≡◌, ℕ, zero, suc, ◌<◌, Bool, true, false, if◌then◌else◌, Some, None, Option}
use Rattle.vectors.specs.Sets.{class}

-- the highest number below n that is in a set, and the highest vector
unfoldable pub highest_to : (ℕ → Bool) → ℕ → Option ℕ
highest_to f zero = None
highest_to f (suc n) = if f n then Some n else highest_to f n

abbrev pub highest : (ℕ → Bool) → Option ℕ
highest f = highest_to f 256

-- a vector together with its class
abbrev pub classed : Option ℕ → Option (ℕ × ℕ)
classed None = None
classed (Some v) = Some (v, class v)

-- The law of the search: what it answers is a member with its class, and no member is above it;
-- it answers none of a set with no member alone.
abbrev pub IsHighest : (ℕ → Bool) → Option (ℕ × ℕ) → Type 0
IsHighest f None = (k : ℕ) → f k ≡ false
IsHighest f (Some p) = (f p.0 ≡ true) × ((k : ℕ) → p.0 < k → f k ≡ false) × (p.1 ≡ class p.0)
