use Rattle.std.proofs.Common.{◌≡◌, true, length, sym, ◌∙◌, rules}
use Rattle.std.proofs.lemmas.Bool.{false≢true}
use Rattle.descriptor.specs.Layout.{lawful}
use Rattle.descriptor.proofs.Lawfulness.{lawful_on, lawful_off, lawful_end}
use Rattle.descriptor.proofs.RoundTrips.{layout_back}
use Rattle.descriptor.proofs.Soundness.{word_sound}
use Rattle.descriptor.proofs.bytes.is_lawful.Goals as goal

pub loop-place-preserved : goal.loop-place-preserved
loop-place-preserved c =
    c.loop-place.invariant ∙ lawful_on c.args.bytes.now c.loop-place.place (search rules) (sym c.allowed.ensures ∙ c.if-not-allowed.false)

pub returns-then-not-allowed : goal.returns-then-not-allowed
returns-then-not-allowed c = record {
  value = sym (c.loop-place.invariant ∙ lawful_off c.args.bytes.now c.loop-place.place (search rules) (sym c.allowed.ensures ∙ c.if-not-allowed.true));
  back = λ e. absurd (false≢true e);
}

pub returns : goal.returns
returns c =
    let bs = c.args.bytes.now in
    let ok : lawful bs ≡ true = c.loop-place.invariant ∙ lawful_end bs c.loop-place.place (search rules) in
    let size : length bs ≡ 64 = search rules in
    record { value = sym ok; back = λ _. (word_sound bs size ok 0, layout_back bs size ok (λ k. search rules)) }
