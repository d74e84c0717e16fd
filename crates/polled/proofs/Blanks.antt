-- The page of an empty sink.
use Rattle.std.proofs.Common.{◌≡◌, ℕ, ◌+◌, ◌*◌, ◌<◌, true, cond, ltb, leb, List, get_or, replicate, refl, ap, ◌∙◌, arith}
use mathlib.Core.Path.{fun_ext}
use lib.ListN.{length-replicate}
use Rattle.std.proofs.lemmas.List.{get_or-replicate}
use Rattle.std.proofs.lemmas.Bool.{le-leb}
use Rattle.packed.specs.Packed.{word}
use Rattle.packed.proofs.Packing.{word_zero}
use Rattle.sink.specs.Meaning.{empty_sink}
use Rattle.sink.proofs.Meanings.{same_meaning}
use Rattle.polled.specs.Layout.{polled, is_page, is_flag}
use Rattle.polled.proofs.Lawfulness.{lawful_from, page_from}
use Rattle.packed.proofs.Wiping.{if_below, either_zero}

abbrev zeros : List ℕ
zeros = replicate 257 0

at_zero : (k : ℕ) → k < 257 → get_or zeros k 0 ≡ 0
at_zero k l = get_or-replicate 257 k 0 0 l

pub blank_empty : polled zeros ≡ empty_sink (λ v. v)
blank_empty =
    same_meaning (fun_ext (λ g. if_below g (word 1 zeros (64 * g) 64) 0 (λ l. word_zero 1 zeros (64 * g) 64 (λ k q. at_zero (64 * g + k) (omega arith))) ∙ either_zero (ltb g 4)))
    refl refl refl refl

pub blank_page : is_page zeros ≡ true
blank_page =
    page_from zeros (length-replicate {A = ℕ} 257 0)
    (lawful_from zeros (λ k l. ap (is_flag k) (at_zero k (omega arith)) ∙ le-leb 0 (cond (leb 16 k) 1 0) (omega arith)) (omega (arith, at_zero 256 (omega arith))))
