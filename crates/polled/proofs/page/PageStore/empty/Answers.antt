use Rattle.std.proofs.Common.{ap, ◌∙◌}
use Rattle.polled.specs.Layout.{polled}
use Rattle.polled.proofs.Lawfulness.{page_parts, page_wiped}
use Rattle.polled.proofs.Wipes.{wiped_polled}
use Rattle.polled.proofs.page.PageStore.empty.Goals as goal

pub invariant_of-self : goal.invariant_of-self
invariant_of-self c = record { page = rw c.clear_group.ensures.after (page_wiped _ _ c.clear_group.ensures.within c.args.self.now.page) }

pub returns-clause-after : goal.returns-clause-after
returns-clause-after c =
    let p = c.args.self.now in
    ap polled c.clear_group.ensures.after ∙ wiped_polled p.bytes.now c.args.group (page_parts p.bytes.now p.page).0 c.clear_group.ensures.within
