-- Packing loses nothing.
use Rattle.std.specs.Prelude.{◌≡◌, ℕ, ◌+◌, ◌*◌, ◌^◌, ◌<◌, List, [], ◌∷◌, map, length, slice_index}
use Rattle.packed.specs.Packed.{word, bytes_of, fields_in, fields_from}

-- A word written as n bytes is read from them again.
abbrev pub WordBack : Type 0
WordBack = (n x : ℕ) → x < 2 ^ (8 * n) → word 8 (bytes_of n x) 0 n ≡ x

-- Bytes read as a word are written by it again.
abbrev pub BytesBack : Type 0
BytesBack = (bs : List ℕ) → ((k : ℕ) → slice_index bs k < 256) → bytes_of (length bs) (word 8 bs 0 (length bs)) ≡ bs

-- each field's value has no more bits than its width
abbrev pub AllFit : List (ℕ × ℕ) → Type 0
AllFit [] = Unit {0}
AllFit (f ∷ fs) = (f.1 < 2 ^ f.0) × AllFit fs

abbrev pub total : List ℕ → ℕ
total [] = 0
total (w ∷ ws) = w + total ws

-- Fields that were put side by side are found again.
abbrev pub FieldsBack : Type 0
FieldsBack = (fs : List (ℕ × ℕ)) → AllFit fs → fields_from 0 (map (λ (f : ℕ × ℕ). f.0) fs) (fields_in fs) ≡ fs

-- A word is its fields side by side.
abbrev pub FieldsMake : Type 0
FieldsMake = (ws : List ℕ) (x : ℕ) → x < 2 ^ total ws → fields_in (fields_from 0 ws x) ≡ x
