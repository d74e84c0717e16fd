-- Reading what was written, and writing what was read.
use Rattle.std.proofs.Common.{◌≡◌, ℕ, zero, suc, ◌+◌, ◌*◌, ◌/◌, ◌%◌, ◌^◌, ◌<◌, ◌≤◌, Bool, true, cond, ◌||◌, eqb, ltb, List, [], ◌∷◌, ◌++◌, length, get_or, take, drop, set, replicate, Ok, Err, sym, refl, ap, ◌∙◌, ap₂, ⊎_elim, add-one, arith, length-drop}
use lib.ListN.{length-replicate}
use Rattle.std.proofs.lemmas.List.{drop-drop, drop_more, drop_all, take-append-drop, ext_get_or, get_or-drop, get_or-replicate}
use Rattle.std.proofs.lemmas.Bool.{eq-eqb, ne_eqb, eqb-true, ltb-true, le-ltb, or_cases}
use Rattle.packed.specs.Packed.{word, bytes_of}
use Rattle.packed.proofs.Bytes.{bytes_back, word_back}
use Rattle.vectors.specs.Sets.{words_of}
use Rattle.vectors.proofs.Counts.{word_low}
use Rattle.descriptor.specs.declared.contents.Contents.{Contents}
use Rattle.descriptor.specs.declared.faults.Fault.TheVariants as fault
use Rattle.descriptor.specs.Layout.{marked, rung_in, quiet_in, sent_for, aim_in, permits, lawful_from, lawful}
use Rattle.descriptor.specs.Values.{contents_of, reads, tail_of, layout_of, writable}
use Rattle.descriptor.proofs.Changes.{rung_back, quiet_back, aim_back}
use Rattle.descriptor.proofs.Lawfulness.{lawful_at, marks_permitted, aim_permitted}

marks_of_byte : (b : ℕ) → b < 4 → marked (rung_in b) (quiet_in b) ≡ b
marks_of_byte zero h = refl
marks_of_byte (suc zero) h = refl
marks_of_byte (suc (suc zero)) h = refl
marks_of_byte (suc (suc (suc zero))) h = refl
marks_of_byte (suc (suc (suc (suc b)))) h = absurd (omega arith)

vector_of_byte : (b : ℕ) → (eqb b 241 || eqb b 242) ≡ true → sent_for (aim_in b) ≡ b
vector_of_byte b h =
    ⊎_elim (λ (e : eqb b 241 ≡ true). let s = eqb-true b 241 e in ap (λ (x : ℕ). sent_for (aim_in x)) s ∙ sym s)
    (λ (e : eqb b 242 ≡ true). let s = eqb-true b 242 e in ap (λ (x : ℕ). sent_for (aim_in x)) s ∙ sym s)
    (or_cases (eqb b 241) (eqb b 242) h)

past : (k b : ℕ) → 38 ≤ k → permits k b ≡ eqb b 0
past k b h =
    rw (le-ltb k 2 (omega arith), le-ltb k 32 (omega arith), ne_eqb k 32 (λ e. omega arith), ne_eqb k 34 (λ e. omega arith), ne_eqb k 37 (λ e. omega arith))

module _ (bs : List ℕ) (size : length bs ≡ 64) (ok : lawful bs ≡ true) where
  rest_zero : replicate 26 0 ≡ drop 38 bs
  rest_zero =
      ext_get_or 0 (replicate 26 0) (drop 38 bs) (simp (length-drop, length-replicate) (omega arith))
      (λ k l.
      let m : k < 26 = l in
      let p = lawful_at bs ok (38 + k) (omega arith) in
      get_or-replicate 26 k 0 0 m ∙ sym (get_or-drop 38 bs k 0 ∙ eqb-true (get_or bs (38 + k) 0) 0 (sym (past (38 + k) (get_or bs (38 + k) 0) (omega arith)) ∙ p)))

  tail_back : tail_of (contents_of bs) ≡ drop 32 bs
  tail_back =
      let a = marks_of_byte (get_or bs 32 0) (ltb-true (get_or bs 32 0) 4 (lawful_at bs ok 32 (omega arith))) in
      let b = eqb-true (get_or bs 33 0) 0 (lawful_at bs ok 33 (omega arith)) in
      let c = vector_of_byte (get_or bs 34 0) (lawful_at bs ok 34 (omega arith)) in
      let d = eqb-true (get_or bs 35 0) 0 (lawful_at bs ok 35 (omega arith)) in
      let e = eqb-true (get_or bs 36 0) 0 (lawful_at bs ok 36 (omega arith)) in
      let p = drop_more bs 32 0 (omega arith) in
      let q = drop_more bs 33 0 (omega arith) in
      let r = drop_more bs 34 0 (omega arith) in
      let s = drop_more bs 35 0 (omega arith) in
      let t = drop_more bs 36 0 (omega arith) in
      let u = drop_more bs 37 0 (omega arith) in
      let z = rest_zero in
      cc

  split_at : (from : ℕ) → take 8 (drop from bs) ++ drop (from + 8) bs ≡ drop from bs
  split_at from = ap (λ (x : List ℕ). take 8 (drop from bs) ++ x) (sym (drop-drop 8 from bs)) ∙ take-append-drop 8 (drop from bs)

  pub layout_back : ((k : ℕ) → get_or bs k 0 < 256) → layout_of (contents_of bs) ≡ bs
  layout_back narrow =
      let at : (from : ℕ) (rest : List ℕ) → from + 8 ≤ length bs → rest ≡ drop (from + 8) bs → bytes_of 8 (word 8 bs from 8) ++ rest ≡ drop from bs =
      λ from rest h e. ap₂ (λ (x y : List ℕ). x ++ y) (bytes_back bs narrow 8 from h) e ∙ split_at from in
      at 0 _ (omega arith) (at 8 _ (omega arith) (at 16 _ (omega arith) (at 24 _ (omega arith) tail_back)))

-- reading what was written
four : (ws : List ℕ) → length ws ≡ 4 → get_or ws 0 0 ∷ get_or ws 1 0 ∷ get_or ws 2 0 ∷ get_or ws 3 0 ∷ [] ≡ ws
four ws h =
    let a = drop_more ws 0 0 (omega arith) in
    let b = drop_more ws 1 0 (omega arith) in
    let c = drop_more ws 2 0 (omega arith) in
    let d = drop_more ws 3 0 (omega arith) in
    let e = drop_all 4 ws (omega arith) in
    cc

layout_lawful : (c : Contents) → writable c ≡ true → lawful (layout_of c) ≡ true
unfolding lawful_from
layout_lawful c u =
    let w : ℕ = words_of c.parked 0 in
    let z : w % 65536 ≡ 0 = eqb-true (w % 65536) 0 ((word_low 0 w refl).0 ∙ u) in
    let a : eqb (words_of c.parked 0 % 256) 0 ≡ true = eq-eqb (w % 256) 0 (omega arith) in
    let b : eqb (words_of c.parked 0 / 256 % 256) 0 ≡ true = eq-eqb (w / 256 % 256) 0 (omega arith) in
    let m : ltb (marked c.marks.rung c.marks.quiet) 4 ≡ true = marks_permitted c.marks.rung c.marks.quiet in
    let v : (eqb (sent_for c.marks.aim) 0xF1 || eqb (sent_for c.marks.aim) 0xF2) ≡ true = aim_permitted c.marks.aim in
    rw (a, b, m, v)

-- with the words under the name by which code has them
module _ (c : Contents) (ws : List ℕ) (same : ws ≡ c.parked.words) (size : length ws ≡ 4)
    (s₀ : get_or ws 0 0 < 2 ^ 64) (s₁ : get_or ws 1 0 < 2 ^ 64) (s₂ : get_or ws 2 0 < 2 ^ 64) (s₃ : get_or ws 3 0 < 2 ^ 64) where
  word_kept : (g : ℕ) → get_or ws g 0 < 2 ^ 64 → word 8 (bytes_of 8 (words_of c.parked g)) 0 8 ≡ get_or ws g 0
  word_kept g s = ap (λ (us : List ℕ). word 8 (bytes_of 8 (get_or us g 0)) 0 8) (sym same) ∙ word_back 8 (get_or ws g 0) s

  contents_back : contents_of (layout_of c) ≡ c
  unfolding word
  contents_back =
      let a = word_kept 0 s₀ in
      let b = word_kept 1 s₁ in
      let d = word_kept 2 s₂ in
      let e = word_kept 3 s₃ in
      let words : (contents_of (layout_of c)).parked.words ≡ c.parked.words = (λ i. a i ∷ b i ∷ d i ∷ e i ∷ []) ∙ four ws size ∙ same in
      λ i. record {
        parked = record { words = words i };
        marks = record { rung = rung_back c.marks.rung c.marks.quiet i; quiet = quiet_back c.marks.rung c.marks.quiet i; aim = aim_back c.marks.aim i };
        ndst = c.ndst;
      }

  pub read_back : writable c ≡ true → reads (layout_of c) ≡ Ok c
  read_back u = ap (λ (b : Bool). cond b (Ok (contents_of (layout_of c))) (Err fault.Contents)) (layout_lawful c u) ∙ ap Ok contents_back

-- the layout, as it is written word by word
abbrev put : ℕ → ℕ → List ℕ → List ℕ
put g w bs = take (8 * g) bs ++ (bytes_of 8 w ++ drop (8 * g + 8) bs)

abbrev pub puts : List ℕ → ℕ → List ℕ → List ℕ
puts ws zero bs = bs
puts ws (suc n) bs = put n (get_or ws n 0) (puts ws n bs)

pub puts_more : (ws us bs : List ℕ) (n : ℕ) → us ≡ ws → bs ≡ puts ws n (replicate 64 0)
    → take (8 * n) bs ++ (bytes_of 8 (get_or us n 0) ++ drop (8 * n + 8) bs) ≡ puts ws (n + 1) (replicate 64 0)
puts_more ws us bs n e p =
    ap₂ (λ (xs ys : List ℕ). put n (get_or xs n 0) ys) e p ∙ sym (ap (λ (k : ℕ). puts ws k (replicate 64 0)) (add-one n))

pub layout_made : (c : Contents) (ws bs : List ℕ) (m v : ℕ) → ws ≡ c.parked.words → bs ≡ puts ws 4 (replicate 64 0)
    → m ≡ marked c.marks.rung c.marks.quiet → v ≡ sent_for c.marks.aim → set (set (set bs 32 m) 34 v) 37 c.ndst ≡ layout_of c
layout_made c ws bs m v e p em ev =
    ap (λ (b : List ℕ). set (set (set b 32 m) 34 v) 37 c.ndst) p
    ∙ ap₂ (λ (x y : ℕ). set (set (set (puts ws 4 (replicate 64 0)) 32 x) 34 y) 37 c.ndst) em ev
    ∙ ap (λ (us : List ℕ). layout_of (record { parked = record { words = us }; marks = c.marks; ndst = c.ndst })) e
