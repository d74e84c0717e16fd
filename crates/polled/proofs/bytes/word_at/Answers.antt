use Rattle.std.proofs.Common.{◌≡◌, ℕ, ◌+◌, ◌-◌, ◌*◌, ◌%◌, ◌^◌, ◌<◌, get_or, take, drop, refl, ap, ◌∙◌, add-one, arith, rules}
use Rattle.std.proofs.lemmas.Nat.{shl_whole}
use Rattle.std.proofs.lemmas.List.{get_or-take, get_or-drop}
use Rattle.packed.specs.Packed.{word}
use Rattle.packed.proofs.Packing.{word_more}
use Rattle.polled.proofs.PageLaws.{in_flags}
use Rattle.polled.proofs.bytes.word_at.Goals as goal

pub loop-i-init : goal.loop-i-init
unfolding word
loop-i-init c = refl

pub loop-i-preserved : goal.loop-i-preserved
loop-i-preserved c =
    let bs = c.args.bytes.now in
    let g = c.args.group in
    let i = c.loop-i.i in
    let narrow = in_flags bs c.requires.lawful g c.requires.group in
    let count : 64 * g + 64 - 64 * g ≡ 64 = omega arith in
    let l : i < 64 = search rules in
    let item : get_or (take (64 * g + 64 - 64 * g) (drop (64 * g) bs)) i 0 ≡ get_or bs (64 * g + i) 0 =
    get_or-take (64 * g + 64 - 64 * g) (drop (64 * g) bs) i 0 (omega arith) ∙ get_or-drop (64 * g) bs i 0
    in
    let shift : (get_or bs (64 * g + i) 0 * 2 ^ i) % 2 ^ 64 ≡ get_or bs (64 * g + i) 0 * 2 ^ i = shl_whole (get_or bs (64 * g + i) 0) 1 i 64 (narrow i l) (omega arith) in
    let one : 1 * i ≡ i = omega arith in
    let more = word_more 1 bs (64 * g) i (λ k h. narrow k (omega arith)) in
    rw (item, shift, c.loop-i.invariant, add-one) (rw one at more)

pub returns : goal.returns
returns c =
    let bs = c.args.bytes.now in
    let g = c.args.group in
    let e : c.loop-i.i ≡ 64 = search rules in
    c.loop-i.invariant ∙ ap (λ (n : ℕ). word 1 bs (64 * g) n) e
