use Rattle.std.proofs.Common.{◌≡◌, ◌^◌, ◌<◌, length, get_or, None, refl, rules}
use Rattle.vectors.specs.Sets.{has}
use Rattle.vectors.specs.Search.{IsHighest}
use Rattle.vectors.proofs.Bitwise.{has_none}
use Rattle.vectors.proofs.Searches.{past_vectors, highest_is, top_of_group}
use Rattle.vectors.proofs.set.VectorSet.highest.Goals as goal

pub returns-in_err-g : goal.returns-in_err-g
returns-in_err-g c =
    let ws = c.args.self.now.words in
    let four : length ws ≡ 4 = search rules in
    let law : IsHighest (has ws) None = λ k. has_none ws k (c.in_err-g.ensures _) in
    rw c.from_residual.ensures (record { value = highest_is (has ws) (past_vectors ws four) None law; law = law; bounded = past_vectors ws four })

pub returns : goal.returns
returns c =
    let ws = c.args.self.now.words in
    let g = c.in_ok-g.g in
    let four : length ws ≡ 4 = search rules in
    let fits : get_or ws g 0 < 2 ^ 64 = search rules in
    let top = c.in_ok-g.ensures in
    let law = rw (← top.1) at (top_of_group ws g _ fits top.2 refl top.3) in
    record { value = highest_is (has ws) (past_vectors ws four) _ law; law = law; bounded = past_vectors ws four }
