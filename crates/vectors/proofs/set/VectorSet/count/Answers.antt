use Rattle.std.proofs.Common.{◌≡◌, ℕ, ◌+◌, ◌*◌, ◌^◌, ◌<◌, ◌≤◌, List, get_or, sym, ap, ◌∙◌, arith, rules}
use lib.Count.{ones, ones-le}
use Rattle.vectors.specs.Sets.{has, count_to}
use Rattle.vectors.proofs.Counts.{count_none, count_group}
use Rattle.vectors.proofs.set.VectorSet.count.Goals as goal

pub loop-word-init : goal.loop-word-init
loop-word-init c = record { bound = search rules; counted = count_none (has c.args.self.now.words) }

-- a group more is counted, by a loop that meets its word
step : (ws : List ℕ) (g c x : ℕ) → get_or ws g 0 < 2 ^ 64 → c ≤ 64 * g → c ≡ count_to (has ws) (64 * g) → x ≡ get_or ws g 0
    → record { bound : c + ones x ≤ 64 * (g + 1); counted : c + ones x ≡ count_to (has ws) (64 * (g + 1)) }
step ws g c x fits small so same =
    let most = ones-le 64 (get_or ws g 0) fits in
    rw same (record {
      bound = omega (arith, small);
      counted = ap (λ (n : ℕ). n + ones (get_or ws g 0)) so ∙ sym (count_group ws g fits) ∙ ap (count_to (has ws)) (omega arith);
    })

pub loop-word-preserved : goal.loop-word-preserved
loop-word-preserved c =
    let ws = c.args.self.now.words in
    let g = c.loop-word.word-index in
    let fits : get_or ws g 0 < 2 ^ 64 = search rules in
    step ws g c.loop-word.count _ fits c.loop-word.invariant.bound c.loop-word.invariant.counted (grind arith)
