use Rattle.std.proofs.Common.{◌≡◌, ℕ, ◌^◌, ◌<◌, List, length, get_or, sym, ap, ◌∙◌, rules}
use Rattle.vectors.specs.Sets.{usable_word}
use Rattle.polled.specs.Reading.{writable}
use Rattle.polled.proofs.RoundTrip.{write_back}
use Rattle.polled.proofs.contents.Contents.is_writable.Goals as goal

pub returns-clause-back : goal.returns-clause-back
returns-clause-back c t =
    let p = c.args.self.now in
    let size : length p.parked.words ≡ 4 = search rules in
    let fits : (g : ℕ) → get_or p.parked.words g 0 < 2 ^ 64 = λ g. search rules in
    let same : c.usable_word.result ≡ writable p = c.usable_word.ensures.value ∙ ap (λ (ws : List ℕ). usable_word 0 (get_or ws 0 0)) c.from.ensures in
    write_back p size fits (sym same ∙ t)
