use Rattle.std.proofs.Common.{◌≡◌, ℕ, ◌*◌, ◌/◌, List, [], get_or, length, ap, ◌∙◌, arith, rules}
use Rattle.std.specs.Simd.{first_chunks}
use Rattle.packed.specs.Packed.{word}
use Rattle.packed.proofs.Packing.{word_part}
use Rattle.packed.proofs.Chunks.{chunk_at}
use Rattle.descriptor.proofs.bytes.word_at.Goals as goal

pub returns : goal.returns
unfolding word
returns c =
    let bs = c.args.bytes.now in
    let g = c.args.group in
    let size : length bs ≡ 64 = search rules in
    let read : c.from_le_bytes.result ≡ word 8 (get_or c.as_chunks.result.0.now g []) 0 8 = search rules in
    let chunks : c.as_chunks.result.0.now ≡ first_chunks 8 8 bs = c.as_chunks.ensures.front ∙ ap (λ (n : ℕ). first_chunks 8 (n / 8) bs) size in
    let chunk = ap (λ (cs : List (List ℕ)). get_or cs g []) chunks ∙ chunk_at 8 8 g bs [] (omega arith) in
    read ∙ ap (λ (xs : List ℕ). word 8 xs 0 8) chunk ∙ word_part 8 bs (8 * g) 8 8 (omega arith)
