-- The parts of a line, which is the bytes before an LF. Words are parted by blanks; blanks before the first word and
-- after the last do not matter.
use Rattle.std.specs.Prelude.{ℕ, ◌-◌, Bool, if◌then◌else◌, List, length, take, drop, ◌==◌, slice_index}
use Rattle.script.specs.Bytes.{is_blank, not_blank, not_hash, is_return}
use Rattle.std.specs.List.{prefix_len, take_while}

abbrev pub is_empty : List ℕ → Bool
is_empty xs = length xs == 0

-- is the last byte a CR?
abbrev pub ends_in_return : List ℕ → Bool
ends_in_return xs = is_return (slice_index xs (length xs - 1))

-- one CR at the very end belongs to the line's end, and is dropped first
abbrev pub without_return : List ℕ → List ℕ
without_return xs = if ends_in_return xs then take (length xs - 1) xs else xs

-- from the first `#` on everything is a comment and is ignored, whatever it holds
abbrev pub before_comment : List ℕ → List ℕ
before_comment xs = take_while not_hash xs

-- what is left without the blanks in front: from the next word on, or nothing
abbrev pub from_word : List ℕ → List ℕ
from_word xs = drop (prefix_len is_blank xs) xs

-- the word that a text begins with: the bytes up to a blank or the end
abbrev pub word_of : List ℕ → List ℕ
word_of xs = take_while not_blank xs

-- what follows that word
abbrev pub after_word : List ℕ → List ℕ
after_word xs = drop (prefix_len not_blank xs) xs
