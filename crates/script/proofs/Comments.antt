-- What stands after a `#`, and a CR at the end, do not matter.
use Rattle.std.proofs.Common.{◌≡◌, ℕ, suc, ◌+◌, ◌-◌, ◌<◌, ◌≤◌, Bool, true, false, cond, List, [], ◌∷◌, ◌++◌, length, take, sym, refl, ap, ◌∙◌, one-add, arith}
use Rattle.script.specs.Bytes.{not_hash, is_return}
use Rattle.script.specs.Parts.{ends_in_return, without_return, before_comment}
use Rattle.script.specs.Reading.{read_text, reading}
use Rattle.std.proofs.lemmas.List.{get_or_push, length_push, length-append, take_at}
use Rattle.std.proofs.lemmas.Bool.{cond-true, cond-false, cond_both, le-leb}
use Rattle.std.specs.List.{prefix_len}
use lib.Seq.{take-append-add}

-- two lists that have the same before their comments still have it with one byte in front
before_more : (t : Bool) (x : ℕ) (us vs : List ℕ) → before_comment us ≡ before_comment vs
    → take (cond t (1 + prefix_len not_hash us) 0) (x ∷ us) ≡ take (cond t (1 + prefix_len not_hash vs) 0) (x ∷ vs)
before_more true x us vs e = rw (one-add (prefix_len not_hash us), one-add (prefix_len not_hash vs)) (ap (λ (ws : List ℕ). x ∷ ws) e)
before_more false x us vs e = refl

before_hash : (xs ys : List ℕ) → before_comment (xs ++ 0x23 ∷ ys) ≡ before_comment xs
before_hash [] ys = refl
before_hash (x ∷ xs) ys = before_more (not_hash x) x (xs ++ 0x23 ∷ ys) xs (before_hash xs ys)

-- a CR that ends the comment is no matter either
before_return : (xs ys : List ℕ) → before_comment (without_return (xs ++ 0x23 ∷ ys)) ≡ before_comment xs
before_return xs [] =
    let n : length xs ≡ length (xs ++ 0x23 ∷ []) - 1 = simp length_push (omega arith) in
    let e : ends_in_return (xs ++ 0x23 ∷ []) ≡ false = ap is_return (get_or_push xs 0x23 0 (length (xs ++ 0x23 ∷ []) - 1) n) in
    ap before_comment (cond-false (ends_in_return (xs ++ 0x23 ∷ [])) _ (xs ++ 0x23 ∷ []) e) ∙ before_hash xs []
before_return xs (y ∷ ys) =
    let zs : List ℕ = xs ++ 0x23 ∷ y ∷ ys in
    let n : length zs - 1 ≡ length xs + suc (length ys) = simp length-append (omega arith) in
    let e : take (length zs - 1) zs ≡ xs ++ 0x23 ∷ take (length ys) (y ∷ ys) =
    ap (λ k. take k zs) n ∙ take-append-add xs (0x23 ∷ y ∷ ys) (suc (length ys))
    in
    cond_both (ends_in_return zs) (take (length zs - 1) zs) zs (λ ws. before_comment ws ≡ before_comment xs)
    (λ _. ap before_comment e ∙ before_hash xs (take (length ys) (y ∷ ys)))
    (λ _. before_hash xs (y ∷ ys))

reading_short : (xs : List ℕ) → length xs ≤ 128 → reading xs ≡ read_text (before_comment (without_return xs))
reading_short xs h = cond-true _ _ _ (le-leb (length xs) 128 h)

pub comment_ignored : (xs ys : List ℕ) → ends_in_return xs ≡ false → length (xs ++ 0x23 ∷ ys) ≤ 128
    → reading (xs ++ 0x23 ∷ ys) ≡ reading xs
comment_ignored xs ys e h =
    let s : length xs ≤ 128 = omega (arith, length-append xs (0x23 ∷ ys)) in
    reading_short (xs ++ 0x23 ∷ ys) h
    ∙ ap read_text (before_return xs ys ∙ ap before_comment (sym (cond-false (ends_in_return xs) (take (length xs - 1) xs) xs e)))
    ∙ sym (reading_short xs s)

pub return_ignored : (xs : List ℕ) → ends_in_return xs ≡ false → length xs < 128 → reading (xs ++ 0x0d ∷ []) ≡ reading xs
return_ignored xs e h =
    let zs : List ℕ = xs ++ 0x0d ∷ [] in
    let n : length zs ≡ length xs + 1 = length_push xs 0x0d in
    let m : length xs ≡ length zs - 1 = omega (arith, n) in
    let t : ends_in_return zs ≡ true = ap is_return (get_or_push xs 0x0d 0 (length zs - 1) m) in
    let w : without_return zs ≡ xs = cond-true (ends_in_return zs) (take (length zs - 1) zs) zs t ∙ take_at xs (0x0d ∷ []) (length zs - 1) m in
    let u : without_return xs ≡ xs = cond-false (ends_in_return xs) (take (length xs - 1) xs) xs e in
    reading_short zs (omega (arith, n)) ∙ ap (λ ys. read_text (before_comment ys)) (w ∙ sym u) ∙ sym (reading_short xs (omega arith))
