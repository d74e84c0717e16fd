use Rattle.std.proofs.Common.{◌≡◌, ℕ, ◌+◌, ◌-◌, ◌*◌, ◌/◌, ◌%◌, ◌^◌, ◌<◌, ap, ◌∙◌, arith}
use lib.Bits.{bit_and}
use Rattle.std.proofs.lemmas.Nat.{one_shl, pow_pos, and_mask, mod_below}
use Rattle.entry.proofs.bits.field.Goals as goal

-- the mask, as it is shifted into place
mask : (hi lo : ℕ) → hi < 127 + lo → (1 * 2 ^ (hi + 1 - lo)) % 2 ^ 128 ≡ 2 ^ (hi + 1 - lo)
mask hi lo h = one_shl (hi + 1 - lo) 128 (omega arith)

pub overflow_sub-result-2 : goal.overflow_sub-result-2
overflow_sub-result-2 c = rw (mask c.args.hi c.args.lo (omega arith)) (pow_pos (c.args.hi + 1 - c.args.lo))

pub returns : goal.returns
returns c =
    let w : ℕ = c.args.hi + 1 - c.args.lo in
    let x : ℕ = c.args.bits / 2 ^ c.args.lo in
    let e : bit_and x ((1 * 2 ^ w) % 2 ^ 128 - 1) ≡ x % 2 ^ w = ap (λ (m : ℕ). bit_and x (m - 1)) (mask c.args.hi c.args.lo (omega arith)) ∙ and_mask x w in
    record { value = e; bound = rw e (mod_below x (2 ^ w) (pow_pos w)) }
