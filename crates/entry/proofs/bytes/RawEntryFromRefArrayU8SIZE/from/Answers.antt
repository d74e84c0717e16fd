use Rattle.std.proofs.Common.{◌≡◌, ℕ, List, length, ap, ◌∙◌, rules, arith}
use Rattle.packed.specs.Packed.{word, bytes_of}
use Rattle.packed.proofs.Bytes.{bytes_again}
use Rattle.entry.specs.Layout.{bits_in}
use Rattle.entry.proofs.bytes.RawEntryFromRefArrayU8SIZE.from.Goals as goal

-- the bits of the bytes give the bytes again
both : (bs : List ℕ) (x : ℕ) → x ≡ bits_in bs → bytes_of 16 (bits_in bs) ≡ bs → (x ≡ bits_in bs) × (bytes_of 16 x ≡ bs)
both bs x same again = (same, ap (bytes_of 16) same ∙ again)

pub returns : goal.returns
unfolding word
returns c =
    let bs = c.args.bytes.now in
    let sixteen : length bs ≡ 16 = search rules in
    let again = rw sixteen at (bytes_again bs (λ k. omega arith)) in
    both bs _ (search rules) again
