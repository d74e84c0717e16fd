use Rattle.std.proofs.Common.{◌≡◌, ap, ◌∙◌, rules}
use Rattle.vectors.specs.Sets.{usable_word}
use Rattle.descriptor.specs.Layout.{parked_in}
use Rattle.descriptor.proofs.Soundness.{word_sound}
use Rattle.descriptor.proofs.live.DescriptorStore.word.Goals as goal

pub returns-clause-usable : goal.returns-clause-usable
returns-clause-usable c =
    let d = c.args.self.now in
    let value : c.word_at.result ≡ parked_in d.bytes.now c.args.group = search rules in
    ap (usable_word c.args.group) value ∙ word_sound d.bytes.now d.whole.0 d.whole.1 c.args.group
