-- The bytes of a line.
use Rattle.std.specs.Prelude.{◌≡◌, ℕ, Bool, not, ◌&&◌, ◌||◌, ◌==◌, nat_le}

abbrev pub within : ℕ → ℕ → ℕ → Bool
within low high b = nat_le low b && nat_le b high

-- a space or a tab
abbrev pub is_blank : ℕ → Bool
is_blank b = b == 0x20 || b == 0x09

-- what a word is made of
abbrev pub not_blank : ℕ → Bool
not_blank b = not (is_blank b)

-- what may stand before a comment: a tab, or 20h to 7Eh
abbrev pub is_text : ℕ → Bool
is_text b = b == 0x09 || within 0x20 0x7e b

-- no `#`, which begins a comment
abbrev pub not_hash : ℕ → Bool
not_hash b = not (b == 0x23)

abbrev pub is_return : ℕ → Bool
is_return b = b == 0x0d

-- what a closure may answer to a byte is what the test p says of it
abbrev pub Computes : (ℕ → Bool → Type 0) → (ℕ → Bool) → Type 0
Computes answers p = (b : ℕ) (t : Bool) → answers b t → t ≡ p b
