use Rattle.std.proofs.Common.{◌≡◌, ℕ, ◌<◌, Bool, true, false, cond, get_or, sym, refl, ap, ◌∙◌, rules}
use mir.Val.{bool_byte}
use Rattle.polled.specs.Reading.{layout_of}
use Rattle.polled.proofs.RoundTrip.{laid_vector, laid_marks}
use Rattle.polled.proofs.contents.Contents.byte.Goals as goal

byte_of : (b : Bool) → bool_byte b ≡ cond b 1 0
byte_of true = refl
byte_of false = refl

pub returns-in-256 : goal.returns-in-256
returns-in-256 c =
    let v = c.args.self.now in
    (search rules) ∙ sym (ap (λ (i : ℕ). get_or (layout_of v) i 0) c.in-256.is ∙ laid_marks v)

pub returns-in_default : goal.returns-in_default
returns-in_default c =
    let v = c.args.self.now in
    let below : c.args.place < 256 = search rules in
    byte_of c.contains.result ∙ ap (λ (b : Bool). cond b 1 0) c.contains.ensures ∙ sym (laid_vector v c.args.place below)
