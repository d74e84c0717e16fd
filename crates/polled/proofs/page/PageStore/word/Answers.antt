use Rattle.std.proofs.Common.{◌≡◌, ap, ◌∙◌, rules}
use Rattle.vectors.specs.Sets.{usable_word}
use Rattle.polled.specs.Layout.{polled}
use Rattle.polled.proofs.Lawfulness.{page_parts}
use Rattle.polled.proofs.PageLaws.{word_sound}
use Rattle.polled.proofs.page.PageStore.word.Goals as goal

pub returns-clause-usable : goal.returns-clause-usable
returns-clause-usable c =
    let p = c.args.self.now in
    let value : c.word_at.result ≡ (polled p.bytes.now).parked c.args.group = search rules in
    ap (usable_word c.args.group) value ∙ word_sound p.bytes.now (page_parts p.bytes.now p.page).1 c.args.group
