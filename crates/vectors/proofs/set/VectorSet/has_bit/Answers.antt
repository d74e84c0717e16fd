use Rattle.std.proofs.Common.{ℕ, ◌/◌, ◌%◌, ◌^◌, eqb, get_or, ap, ◌∙◌, ap₂}
use lib.Bits.{and_mask}
use Rattle.vectors.specs.Sets.{bit, has}
use Rattle.vectors.proofs.set.VectorSet.has_bit.Goals as goal

pub returns : goal.returns
unfolding bit has
returns c v g k =
    rw c.index.ensures.value
    (ap (λ (x : ℕ). eqb x 1) (and_mask (get_or c.args.self.now.words c.args.group 0 / 2 ^ c.args.k) 1)
    ∙ ap₂ (λ (x y : ℕ). eqb (get_or c.args.self.now.words x 0 / 2 ^ y % 2) 1) g k)
