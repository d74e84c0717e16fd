-- Words that lie in bytes, and fields that lie in words.
use Rattle.std.specs.Prelude.{ℕ, zero, suc, ◌+◌, ◌-◌, ◌*◌, ◌/◌, ◌%◌, ◌^◌, Bool, List, [], ◌∷◌, ◌++◌, take, drop, replicate, ◌==◌, slice_index}

-- the word in n bytes from a place on, each of which holds w of its bits, the lowest first
unfoldable pub word : ℕ → List ℕ → ℕ → ℕ → ℕ
word w bs from zero = 0
word w bs from (suc n) = word w bs from n + slice_index bs (from + n) * 2 ^ (w * n)

-- the bytes with n of them cleared from a place on
abbrev pub wiped : List ℕ → ℕ → ℕ → List ℕ
wiped bs from n = take from bs ++ (replicate n 0 ++ drop (from + n) bs)

-- a word as n bytes, the lowest first
abbrev pub bytes_of : ℕ → ℕ → List ℕ
bytes_of zero w = []
bytes_of (suc n) w = (w % 256) ∷ bytes_of n (w / 256)

-- bits hi to lo of a word, and whether bit k is set
abbrev pub bits : ℕ → ℕ → ℕ → ℕ
bits hi lo x = x / 2 ^ lo % 2 ^ (hi + 1 - lo)

abbrev pub is_set : ℕ → ℕ → Bool
is_set k x = bits k k x == 1

-- the word in which fields lie side by side, each by its width in bits and its value, the lowest first
abbrev pub fields_in : List (ℕ × ℕ) → ℕ
fields_in [] = 0
fields_in (f ∷ fs) = f.1 + fields_in fs * 2 ^ f.0

-- what lies in a word from bit k on, in fields of given widths
abbrev pub fields_from : ℕ → List ℕ → ℕ → List (ℕ × ℕ)
fields_from k [] x = []
fields_from k (w ∷ ws) x = (w, x / 2 ^ k % 2 ^ w) ∷ fields_from (k + w) ws x
