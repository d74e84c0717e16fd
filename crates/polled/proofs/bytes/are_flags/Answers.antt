use Rattle.std.proofs.Common.{◌≡◌, ℕ, true, leb, length, get_or, take, sym, ap, ◌∙◌, subst, arith, rules}
use Rattle.std.proofs.lemmas.List.{get_or-take, length-take-le}
use Rattle.std.proofs.lemmas.Bool.{le-leb, lt-leb}
use Rattle.polled.specs.Layout.{flags_to}
use Rattle.polled.proofs.Lawfulness.{flags_none, flags_more, flags_not}
use Rattle.polled.proofs.bytes.are_flags.Goals as goal

pub loop-v-init : goal.loop-v-init
loop-v-init c = flags_none c.args.bytes.now

pub loop-v-preserved : goal.loop-v-preserved
loop-v-preserved c =
    let bs = c.args.bytes.now in
    let v = c.loop-v.v in
    let long : length (take 256 bs) ≡ 256 = length-take-le 256 bs (search rules) in
    let same = get_or-take 256 bs v 0 (omega (arith, long)) in
    flags_more bs v c.loop-v.invariant (ap (leb (get_or bs v 0)) (sym c.most.ensures) ∙ le-leb (get_or bs v 0) c.most.result (omega (arith, same)))

pub returns-then-flag-most : goal.returns-then-flag-most
returns-then-flag-most c =
    let bs = c.args.bytes.now in
    let v = c.loop-v.v in
    let long : length (take 256 bs) ≡ 256 = length-take-le 256 bs (search rules) in
    let same = get_or-take 256 bs v 0 (omega (arith, long)) in
    sym (flags_not bs 256 v (omega (arith, long)) (ap (leb (get_or bs v 0)) (sym c.most.ensures) ∙ lt-leb (get_or bs v 0) c.most.result (omega (arith, same))))

pub returns : goal.returns
returns c =
    let bs = c.args.bytes.now in
    let long : length (take 256 bs) ≡ 256 = length-take-le 256 bs (search rules) in
    let e : c.loop-v.v ≡ 256 = omega (arith, long) in
    sym (subst (λ (n : ℕ). flags_to bs n ≡ true) e c.loop-v.invariant)
