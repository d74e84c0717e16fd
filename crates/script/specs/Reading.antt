-- How a line reads: as TAKE, EOI, TPR n, INJECT n, or no call. The questions are asked in this order, and the first that
-- is answered by no refuses the line:
-- 1. At most 128 bytes, a CR counted?          TooLong
-- 2. Only text before the comment?             NotText
--    (A line with no word is blank, and no call.)
-- 3. Is the first word one of the four?        UnknownWord
-- 4. TPR, INJECT: is a second word there?      MissingNumber
-- 5. No more words than the call has parts?    TooManyWords
-- 6. Is the number made of hex digits only?    NotHex
-- 7. Is the number at most FFh?                TooLarge
-- 8. INJECT: is the number at least 10h?       Unusable
use Rattle.std.specs.Prelude.{ℕ, if◌then◌else◌, List, length, Some, None, Ok, Err, codes, Option, Result, nat_le}
use Rattle.bank.specs.declared.direct.DirectCall.{DirectCall}
use Rattle.bank.specs.declared.direct.DirectCall.TheVariants.{Take, Eoi, Tpr, Inject}
use Rattle.script.specs.Bytes.{is_text}
use Rattle.script.specs.Numbers.{number_of}
use Rattle.script.specs.Parts.{is_empty, without_return, before_comment, from_word, word_of, after_word}
use Rattle.script.specs.declared.fault.LineFault.{LineFault}
use Rattle.script.specs.declared.fault.LineFault.TheVariants.{TooLong, NotText, UnknownWord, MissingNumber, TooManyWords, Unusable}
use Rattle.std.specs.List.{list_all}
use Rattle.std.specs.Str.{bytes_eq}
use Rattle.vectors.specs.Sets.{usable}

-- TAKE and EOI: question 5. `rest` is what stands after the first word, from the next word on.
abbrev pub alone : DirectCall → List ℕ → Result DirectCall LineFault
alone call rest = if is_empty rest then Ok call else Err TooManyWords

-- TPR and INJECT: questions 4 and 5, then 6 and 7 of the number
abbrev pub only_number : List ℕ → Result ℕ LineFault
only_number rest =
    if is_empty rest then Err MissingNumber
    else (if is_empty (from_word (after_word rest)) then number_of (word_of rest) else Err TooManyWords)

-- TPR
abbrev pub tpr_of : Result ℕ LineFault → Result DirectCall LineFault
tpr_of (Ok n) = Ok (Tpr n)
tpr_of (Err f) = Err f

-- INJECT: question 8
abbrev pub inject_of : Result ℕ LineFault → Result DirectCall LineFault
inject_of (Ok v) = if usable v then Ok (Inject v) else Err Unusable
inject_of (Err f) = Err f

-- question 3: the four words, in capitals as written
abbrev pub call_of : List ℕ → List ℕ → Result DirectCall LineFault
call_of word rest =
    if bytes_eq word (codes "TAKE") then alone Take rest
    else (if bytes_eq word (codes "EOI") then alone Eoi rest
    else (if bytes_eq word (codes "TPR") then tpr_of (only_number rest)
    else (if bytes_eq word (codes "INJECT") then inject_of (only_number rest)
    else Err UnknownWord)))

abbrev pub called : Result DirectCall LineFault → Result (Option DirectCall) LineFault
called (Ok call) = Ok (Some call)
called (Err f) = Err f

-- `words` is empty or begins with a word
abbrev pub read_words : List ℕ → Result (Option DirectCall) LineFault
read_words words = if is_empty words then Ok None else called (call_of (word_of words) (from_word (after_word words)))

-- question 2
abbrev pub read_text : List ℕ → Result (Option DirectCall) LineFault
read_text text = if list_all is_text text then read_words (from_word text) else Err NotText

-- question 1
abbrev pub reading : List ℕ → Result (Option DirectCall) LineFault
reading xs = if nat_le (length xs) 128 then read_text (before_comment (without_return xs)) else Err TooLong
