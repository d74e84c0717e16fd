-- Sets of interrupt vectors.
-- In a definition a set of vectors is its membership test, ℕ → Bool. Code holds four 64-bit words.
-- `has` is the one bridge between the two.
use Rattle.std.specs.Prelude.{◌≡◌, ℕ, zero, suc, ◌+◌, ◌/◌, ◌%◌, ◌^◌, ◌<◌, Bool, true, false, if◌then◌else◌, not, ◌&&◌, ◌||◌, List, ◌==◌, bit_or, nat_le, slice_index}
use Rattle.vectors.specs.declared.set.VectorSet.{VectorSet}

-- a vector's priority class, and its group: the number of the word that holds it
abbrev pub class : ℕ → ℕ
class v = v / 16

abbrev pub group : ℕ → ℕ
group v = v / 64

-- vectors 10h to FFh can be used for interrupts
abbrev pub usable : ℕ → Bool
usable v = nat_le 16 v && nat_le v 255

-- bit k of a word
unfoldable pub bit : ℕ → ℕ → Bool
bit w k = w / 2 ^ k % 2 == 1

-- the bridge: vector v is bit v mod 64 of word v div 64
unfoldable pub has : List ℕ → ℕ → Bool
has words v = bit (slice_index words (group v)) (v % 64)

abbrev pub members : VectorSet → ℕ → Bool
members s = has s.words

-- the set with no vector
abbrev pub none : ℕ → Bool
none k = false

-- a set with vector v, and without it
abbrev pub with : (ℕ → Bool) → ℕ → ℕ → Bool
with f v k = f k || k == v

abbrev pub without : (ℕ → Bool) → ℕ → ℕ → Bool
without f v k = f k && not (k == v)

-- the vectors of group g that a word stands for, a set with them, and a set without them
abbrev pub part : ℕ → ℕ → ℕ → Bool
part g w k = group k == g && bit w (k % 64)

abbrev pub joined : (ℕ → Bool) → ℕ → ℕ → ℕ → Bool
joined f g w k = f k || part g w k

abbrev pub cut : (ℕ → Bool) → ℕ → ℕ → ℕ → Bool
cut f g w k = f k && not (part g w k)

-- Sets by their words: the word of each group. `in_words` tells the members of such a set, as `has` does of four words.
abbrev pub words_of : VectorSet → ℕ → ℕ
words_of s g = slice_index s.words g

unfoldable pub in_words : (ℕ → ℕ) → ℕ → Bool
in_words p v = bit (p (group v)) (v % 64)

-- no word has a bit, one vector more, one group less
abbrev pub blank : ℕ → ℕ
blank g = 0

abbrev pub gained : (ℕ → ℕ) → ℕ → ℕ → ℕ
gained p v g = if g == group v then bit_or (p g) (2 ^ (v % 64)) else p g

abbrev pub cleared : (ℕ → ℕ) → ℕ → ℕ → ℕ
cleared p h g = if g == h then 0 else p g

-- how many numbers below n are in a set, and how many vectors are
unfoldable pub count_to : (ℕ → Bool) → ℕ → ℕ
count_to f zero = 0
count_to f (suc n) = (if f n then 1 else 0) + count_to f n

abbrev pub count : (ℕ → Bool) → ℕ
count f = count_to f 256

-- whether a word of group g has no vector below 10h
abbrev pub usable_word : ℕ → ℕ → Bool
usable_word g w = count_to (part g w) 16 == 0

-- no vector below 10h
abbrev pub Usable : (ℕ → Bool) → Type 0
Usable f = (k : ℕ) → k < 16 → f k ≡ false

-- no vector but usable ones
abbrev pub AllUsable : (ℕ → Bool) → Type 0
AllUsable f = (v : ℕ) → f v ≡ true → usable v ≡ true
