use Rattle.std.proofs.Common.{◌≡◌, ℕ, ◌<◌, length, get_or, set, ap, ◌∙◌, rules}
use Rattle.descriptor.specs.Layout.{described, marked, rung_in}
use Rattle.descriptor.proofs.Changes.{marks_described}
use Rattle.descriptor.proofs.Lawfulness.{marks_whole}
use Rattle.descriptor.proofs.live.DescriptorStore.set_quiet.Goals as goal

pub invariant_of-self : goal.invariant_of-self
invariant_of-self c =
    let bs = c.args.self.now.bytes.now in
    record { whole = marks_whole bs _ (rung_in (get_or bs 32 0)) c.args.quiet (search rules) c.args.self.now.whole }

pub returns-clause-after : goal.returns-clause-after
returns-clause-after c =
    let bs = c.args.self.now.bytes.now in
    let within : 32 < length bs = search rules in
    let byte : c.marks_byte.result ≡ marked (rung_in (get_or bs 32 0)) c.args.quiet = search rules in
    ap (λ (x : ℕ). described (set bs 32 x)) byte ∙ marks_described bs (rung_in (get_or bs 32 0)) c.args.quiet within
