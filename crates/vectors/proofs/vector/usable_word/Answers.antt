use Rattle.std.proofs.Common.{◌≡◌, sym, ◌∙◌, arith}
use Rattle.std.proofs.lemmas.Bool.{lt-ltb}
use Rattle.vectors.proofs.Counts.{word_high, word_low}
use Rattle.vectors.proofs.vector.usable_word.Goals as goal

pub returns-then-group-gt0 : goal.returns-then-group-gt0
returns-then-group-gt0 c =
    let h = word_high c.args.group c.args.word c.if-group-gt0.true in
    record { value = lt-ltb 0 c.args.group c.if-group-gt0.true ∙ sym h.0; law = λ t. h.1 }

pub returns-else-group-gt0 : goal.returns-else-group-gt0
returns-else-group-gt0 c =
    let z : c.args.group ≡ 0 = omega arith in
    let h = word_low c.args.group c.args.word z in
    record { value = h.0; law = h.1 }
