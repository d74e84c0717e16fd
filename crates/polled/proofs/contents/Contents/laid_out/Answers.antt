use Rattle.std.proofs.Common.{◌≡◌, length, get_or, sym, ◌∙◌, arith, rules}
use Rattle.std.proofs.lemmas.List.{ext_get_or}
use Rattle.polled.specs.Reading.{layout_of}
use Rattle.polled.proofs.Filled.{filled_at}
use Rattle.polled.proofs.RoundTrip.{laid_length}
use Rattle.polled.proofs.contents.Contents.laid_out.Goals as goal

pub returns : goal.returns
returns c =
    let items = c.from_fn.ensures.items in
    let v = c.args.self.now in
    let long : length c.from_fn.result ≡ 257 = items.long in
    ext_get_or 0 c.from_fn.result (layout_of v) (long ∙ sym (laid_length v))
    (λ k h. filled_at _ _ (λ i y. y ≡ get_or (layout_of v) i 0) (λ x y q r. search rules) c.from_fn.result 257 k items.each (omega (arith, long)))
