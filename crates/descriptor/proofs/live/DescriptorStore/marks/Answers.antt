use Rattle.descriptor.proofs.Soundness.{sound}
use Rattle.descriptor.proofs.live.DescriptorStore.marks.Goals as goal

pub returns-clause-sound : goal.returns-clause-sound
returns-clause-sound c =
    let d = c.args.self.now in
    sound d.bytes.now d.whole.0 d.whole.1
