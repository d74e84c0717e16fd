use Rattle.polled.proofs.Lawfulness.{page_parts}
use Rattle.polled.proofs.PageLaws.{page_sound}
use Rattle.polled.proofs.page.PageStore.marks.Goals as goal

pub returns-clause-sound : goal.returns-clause-sound
returns-clause-sound c =
    let p = c.args.self.now in
    page_sound p.bytes.now (page_parts p.bytes.now p.page).1
