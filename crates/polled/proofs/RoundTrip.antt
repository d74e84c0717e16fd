-- What is written is read, and what is read is written.
use Rattle.std.proofs.Common.{◌≡◌, ℕ, zero, suc, ◌+◌, ◌*◌, ◌/◌, ◌%◌, ◌^◌, ◌<◌, ◌≤◌, Bool, true, false, cond, ◌&&◌, eqb, ltb, leb, List, [], ◌∷◌, ◌++◌, length, get_or, Ok, sym, refl, ap, ◌∙◌, ap₂, ⊎_elim, mod-eq_of_lt, one-add, arith}
use Rattle.std.proofs.lemmas.Nat.{mod-pow-add}
use Rattle.std.proofs.lemmas.List.{length_push, get_or_push, get_or_append_left, ext_get_or}
use Rattle.std.proofs.lemmas.Bool.{eq-eqb, le-leb, le-ltb, cases_eq, cases_lt, cond-true, cond-false}
use Rattle.vectors.specs.Sets.{bit, has, members, words_of, in_words, group}
use Rattle.packed.specs.Packed.{word}
use Rattle.vectors.proofs.Counts.{word_low}
use Rattle.vectors.proofs.Grouped.{members_words, part_of}
use Rattle.sink.specs.declared.face.Aim.{Aim}
use Rattle.sink.specs.declared.face.Aim.TheVariants.{Notification, Wake}
use Rattle.polled.specs.declared.contents.Contents.{Contents}
use Rattle.polled.specs.Layout.{polled, lawful, is_page, is_flag, marks_of}
use Rattle.polled.specs.Reading.{contents_of, reads, flags, layout_of, writable}
use Rattle.polled.proofs.Lawfulness.{page_parts, page_from, lawful_from, flag_small, marks_small, most_high}
use Rattle.polled.proofs.PageLaws.{parked_at, rung_in, quiet_in, aim_in}

-- a byte for each number
pub flags_length : (f : ℕ → Bool) (n : ℕ) → length (flags f n) ≡ n
unfolding flags
flags_length f zero = refl
flags_length f (suc n) = length_push (flags f n) (cond (f n) 1 0) ∙ omega (arith, flags_length f n)

flags_at : (f : ℕ → Bool) (n k : ℕ) → k < n → get_or (flags f n) k 0 ≡ cond (f k) 1 0
unfolding flags
flags_at f zero k l = absurd (omega arith)
flags_at f (suc n) k l =
    ⊎_elim (λ (e : k ≡ n). get_or_push (flags f n) (cond (f n) 1 0) 0 k (flags_length f n ∙ sym e) ∙ ap (λ (j : ℕ). cond (f j) 1 0) (sym e))
    (λ (ne : k ≡ n → ⊥). get_or_append_left (flags f n) (cond (f n) 1 0 ∷ []) 0 k (omega (arith, flags_length f n)) ∙ flags_at f n k (omega arith))
    (cases_eq k n)

-- 257 bytes by their set and their last byte
module _ (f : ℕ → Bool) (m : ℕ) where
  pub page_length : length (flags f 256 ++ (m ∷ [])) ≡ 257
  page_length = length_push (flags f 256) m ∙ omega (arith, flags_length f 256)

  pub page_flag : (k : ℕ) → k < 256 → get_or (flags f 256 ++ (m ∷ [])) k 0 ≡ cond (f k) 1 0
  page_flag k l = get_or_append_left (flags f 256) (m ∷ []) 0 k (omega (arith, flags_length f 256)) ∙ flags_at f 256 k l

  pub page_last : get_or (flags f 256 ++ (m ∷ [])) 256 0 ≡ m
  page_last = get_or_push (flags f 256) m 0 256 (flags_length f 256)

pub laid_length : (c : Contents) → length (layout_of c) ≡ 257
laid_length c = page_length (members c.parked) (marks_of c.marks.rung c.marks.quiet c.marks.aim)

-- the byte of a vector, and that of the marks
pub laid_vector : (c : Contents) (v : ℕ) → v < 256 → get_or (layout_of c) v 0 ≡ cond (members c.parked v) 1 0
laid_vector c v l = page_flag (members c.parked) (marks_of c.marks.rung c.marks.quiet c.marks.aim) v l

pub laid_marks : (c : Contents) → get_or (layout_of c) 256 0 ≡ marks_of c.marks.rung c.marks.quiet c.marks.aim
laid_marks c = page_last (members c.parked) (marks_of c.marks.rung c.marks.quiet c.marks.aim)

digit : (x : ℕ) → x < 2 → cond (eqb x 1) 1 0 ≡ x
digit zero h = refl
digit (suc zero) h = refl
digit (suc (suc x)) h = absurd (omega arith)

-- bytes that are the bits of a number make that number
word_bits : (bs : List ℕ) (from n w : ℕ) → ((k : ℕ) → k < n → get_or bs (from + k) 0 ≡ cond (bit w k) 1 0) → word 1 bs from n ≡ w % 2 ^ n
unfolding word bit
word_bits bs from zero w h = omega arith
word_bits bs from (suc n) w h =
    let low : word 1 bs from n ≡ w % 2 ^ n = word_bits bs from n w (λ k l. h k (omega arith)) in
    let top : get_or bs (from + n) 0 ≡ w / 2 ^ n % 2 = h n (omega arith) ∙ digit (w / 2 ^ n % 2) (omega arith) in
    let one : 1 * n ≡ n = omega arith in
    let e : w % 2 ^ (1 + n) ≡ (w / 2 ^ n % 2 ^ 1) * 2 ^ n + w % 2 ^ n = mod-pow-add w 1 n in
    ap₂ (λ (x y : ℕ). x + y * 2 ^ (1 * n)) low top
    ∙ ap (λ (j : ℕ). w % 2 ^ n + w / 2 ^ n % 2 * 2 ^ j) one
    ∙ omega arith
    ∙ sym e ∙ ap (λ (j : ℕ). w % 2 ^ j) (one-add n)

-- what was read: each byte is written as it was
same_words : (bs : List ℕ) (g : ℕ) → words_of (contents_of bs).parked g ≡ (polled bs).parked g
same_words bs zero = refl
same_words bs (suc zero) = refl
same_words bs (suc (suc zero)) = refl
same_words bs (suc (suc (suc zero))) = refl
same_words bs (suc (suc (suc (suc g)))) =
    sym (cond-false (ltb (suc (suc (suc (suc g)))) 4) (word 1 bs (64 * suc (suc (suc (suc g)))) 64) 0 (le-ltb (suc (suc (suc (suc g)))) 4 (omega arith)))

marks_back : (x : ℕ) → x < 8 → marks_of (eqb (x % 2) 1) (eqb (x / 2 % 2) 1) (cond (eqb (x / 4 % 2) 1) Wake Notification) ≡ x
marks_back zero h = refl
marks_back (suc zero) h = refl
marks_back (suc (suc zero)) h = refl
marks_back (suc (suc (suc zero))) h = refl
marks_back (suc (suc (suc (suc zero)))) h = refl
marks_back (suc (suc (suc (suc (suc zero))))) h = refl
marks_back (suc (suc (suc (suc (suc (suc zero)))))) h = refl
marks_back (suc (suc (suc (suc (suc (suc (suc zero))))))) h = refl
marks_back (suc (suc (suc (suc (suc (suc (suc (suc x)))))))) h = absurd (omega arith)

module _ (bs : List ℕ) (t : lawful bs ≡ true) where
  member_read : (k : ℕ) → k < 256 → members (contents_of bs).parked k ≡ eqb (get_or bs k 0) 1
  unfolding has in_words
  member_read k l = ap (λ (w : ℕ). bit w (k % 64)) (same_words bs (group k)) ∙ parked_at bs t k l

  byte_back : length bs ≡ 257 → (k : ℕ) → k < 257 → get_or (layout_of (contents_of bs)) k 0 ≡ get_or bs k 0
  byte_back size k h =
      let c : Contents = contents_of bs in
      let m : ℕ = marks_of c.marks.rung c.marks.quiet c.marks.aim in
      ⊎_elim (λ (l : k < 256).
      page_flag (members c.parked) m k l ∙ ap (λ (b : Bool). cond b 1 0) (member_read k l) ∙ digit (get_or bs k 0) (flag_small bs t k l))
      (λ (l : 256 ≤ k).
      let e : k ≡ 256 = omega arith in
      rw e (page_last (members c.parked) m ∙ marks_back (get_or bs 256 0) (marks_small bs t)))
      (cases_lt k 256)

pub read_back : (bs : List ℕ) → is_page bs ≡ true → layout_of (contents_of bs) ≡ bs
read_back bs t =
    let p = page_parts bs t in
    let n = page_length (members (contents_of bs).parked) (marks_of (contents_of bs).marks.rung (contents_of bs).marks.quiet (contents_of bs).marks.aim) in
    ext_get_or 0 (layout_of (contents_of bs)) bs (n ∙ sym p.0) (λ k l. byte_back bs p.1 p.0 k (omega (arith, n)))

-- what was written: four words, the marks and the aim are read as they were
four : (ws : List ℕ) → length ws ≡ 4 → get_or ws 0 0 ∷ get_or ws 1 0 ∷ get_or ws 2 0 ∷ get_or ws 3 0 ∷ [] ≡ ws
four [] e = absurd (omega arith)
four (a ∷ []) e = absurd (omega arith)
four (a ∷ b ∷ []) e = absurd (omega arith)
four (a ∷ b ∷ c ∷ []) e = absurd (omega arith)
four (a ∷ b ∷ c ∷ d ∷ []) e = refl
four (a ∷ b ∷ c ∷ d ∷ x ∷ xs) e = absurd (omega arith)

same_contents : {c d : Contents} → c.parked.words ≡ d.parked.words → c.marks.rung ≡ d.marks.rung → c.marks.quiet ≡ d.marks.quiet → c.marks.aim ≡ d.marks.aim → c ≡ d
same_contents w r q a i = record { parked = record { words = w i }; marks = record { rung = r i; quiet = q i; aim = a i } }

marks_below : (r q : Bool) (a : Aim) → marks_of r q a < 8
marks_below true true Notification = omega arith
marks_below true true Wake = omega arith
marks_below true false Notification = omega arith
marks_below true false Wake = omega arith
marks_below false true Notification = omega arith
marks_below false true Wake = omega arith
marks_below false false Notification = omega arith
marks_below false false Wake = omega arith

-- a writable value has no vector below 10h
none_below : (c : Contents) → writable c ≡ true → (k : ℕ) → k < 16 → members c.parked k ≡ false
none_below c t k l =
    let low = word_low 0 (words_of c.parked 0) refl in
    let z : k / 64 ≡ 0 = omega arith in
    let first : (eqb (group k) 0 && in_words (words_of c.parked) k) ≡ false = sym (part_of (words_of c.parked) 0 k) ∙ low.1 (low.0 ∙ t) k l in
    ap (λ (f : ℕ → Bool). f k) (members_words c.parked) ∙ (rw (eq-eqb (group k) 0 z) at first)

flag_found : (v : ℕ) (b : Bool) → (v < 16 → b ≡ false) → is_flag v (cond b 1 0) ≡ true
flag_found v false h = le-leb 0 (cond (leb 16 v) 1 0) (omega arith)
flag_found v true h =
    ⊎_elim (λ (l : v < 16). ap (λ (b : Bool). is_flag v (cond b 1 0)) (h l) ∙ le-leb 0 (cond (leb 16 v) 1 0) (omega arith))
    (λ (l : 16 ≤ v). le-leb 1 (cond (leb 16 v) 1 0) (omega (arith, most_high v l)))
    (cases_lt v 16)

module _ (c : Contents) (size : length c.parked.words ≡ 4) (fits : (g : ℕ) → get_or c.parked.words g 0 < 2 ^ 64) (t : writable c ≡ true) where
  written : is_page (layout_of c) ≡ true
  written =
      page_from (layout_of c) (page_length (members c.parked) (marks_of c.marks.rung c.marks.quiet c.marks.aim))
      (lawful_from (layout_of c) (λ k l. ap (is_flag k) (page_flag (members c.parked) (marks_of c.marks.rung c.marks.quiet c.marks.aim) k l) ∙ flag_found k (members c.parked k) (none_below c t k))
      (omega (arith, page_last (members c.parked) (marks_of c.marks.rung c.marks.quiet c.marks.aim), marks_below c.marks.rung c.marks.quiet c.marks.aim)))

  word_back : (g : ℕ) → g < 4 → word 1 (layout_of c) (64 * g) 64 ≡ get_or c.parked.words g 0
  unfolding has
  word_back g l =
      word_bits (layout_of c) (64 * g) 64 (get_or c.parked.words g 0)
      (λ k h. page_flag (members c.parked) (marks_of c.marks.rung c.marks.quiet c.marks.aim) (64 * g + k) (omega arith)
      ∙ ap₂ (λ (x y : ℕ). cond (bit (get_or c.parked.words x 0) y) 1 0) (omega arith) (omega arith))
      ∙ mod-eq_of_lt (fits g)

  pub write_back : reads (layout_of c) ≡ Ok c
  write_back =
      let last = page_last (members c.parked) (marks_of c.marks.rung c.marks.quiet c.marks.aim) in
      let ws = c.parked.words in
      let a : word 1 (layout_of c) 0 64 ≡ get_or ws 0 0 = word_back 0 (omega arith) in
      let b : word 1 (layout_of c) 64 64 ≡ get_or ws 1 0 = word_back 1 (omega arith) in
      let d : word 1 (layout_of c) 128 64 ≡ get_or ws 2 0 = word_back 2 (omega arith) in
      let e : word 1 (layout_of c) 192 64 ≡ get_or ws 3 0 = word_back 3 (omega arith) in
      let words : (contents_of (layout_of c)).parked.words ≡ ws =
      ap₂ (λ (x y : ℕ). x ∷ y ∷ word 1 (layout_of c) 128 64 ∷ word 1 (layout_of c) 192 64 ∷ []) a b
      ∙ ap₂ (λ (x y : ℕ). get_or ws 0 0 ∷ get_or ws 1 0 ∷ x ∷ y ∷ []) d e ∙ four ws size in
      cond-true (is_page (layout_of c)) (Ok (contents_of (layout_of c))) _ written
      ∙ ap Ok (same_contents words (rung_in (layout_of c) c.marks.rung c.marks.quiet c.marks.aim last) (quiet_in (layout_of c) c.marks.rung c.marks.quiet c.marks.aim last) (aim_in (layout_of c) c.marks.rung c.marks.quiet c.marks.aim last))
