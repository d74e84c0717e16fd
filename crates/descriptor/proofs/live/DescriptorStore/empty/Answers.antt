use Rattle.std.proofs.Common.{ap, ◌∙◌}
use Rattle.descriptor.specs.Layout.{described}
use Rattle.descriptor.proofs.Changes.{wiped_described}
use Rattle.descriptor.proofs.Lawfulness.{wiped_whole}
use Rattle.descriptor.proofs.live.DescriptorStore.empty.Goals as goal

pub invariant_of-self : goal.invariant_of-self
invariant_of-self c = record { whole = rw c.clear_word.ensures.after (wiped_whole _ _ c.clear_word.ensures.within c.args.self.now.whole) }

pub returns-clause-after : goal.returns-clause-after
returns-clause-after c =
    let d = c.args.self.now in
    ap described c.clear_word.ensures.after ∙ wiped_described d.bytes.now c.args.group c.clear_word.ensures.within d.whole.0
