use Rattle.std.proofs.Common.{ℕ, set, ap, ◌∙◌}
use Rattle.polled.specs.Layout.{polled}
use Rattle.polled.proofs.Lawfulness.{page_parts, page_marks}
use Rattle.polled.proofs.PageLaws.{mark_polled}
use Rattle.polled.proofs.page.Page.set_marks.Goals as goal

pub invariant_of-self : goal.invariant_of-self
invariant_of-self c = record { page = page_marks c.args.self.now.bytes.now c.marks_byte.result c.marks_byte.ensures.small c.args.self.now.page }

pub returns-clause-after : goal.returns-clause-after
returns-clause-after c =
    let p = c.args.self.now in
    let m = c.args.marks in
    ap (λ (x : ℕ). polled (set p.bytes.now 256 x)) c.marks_byte.ensures.value
    ∙ mark_polled p.bytes.now m.rung m.quiet m.aim (page_parts p.bytes.now p.page).0
