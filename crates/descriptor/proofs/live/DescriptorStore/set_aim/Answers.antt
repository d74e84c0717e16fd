use Rattle.std.proofs.Common.{ℕ, ◌<◌, length, set, ap, ◌∙◌, rules}
use Rattle.descriptor.specs.Layout.{described}
use Rattle.descriptor.proofs.Changes.{aim_described}
use Rattle.descriptor.proofs.Lawfulness.{aim_whole}
use Rattle.descriptor.proofs.live.DescriptorStore.set_aim.Goals as goal

pub invariant_of-self : goal.invariant_of-self
invariant_of-self c = record { whole = aim_whole _ _ _ c.vector_of.ensures c.args.self.now.whole }

pub returns-clause-after : goal.returns-clause-after
returns-clause-after c =
    let bs = c.args.self.now.bytes.now in
    let within : 34 < length bs = search rules in
    ap (λ (x : ℕ). described (set bs 34 x)) c.vector_of.ensures ∙ aim_described bs c.args.aim within
