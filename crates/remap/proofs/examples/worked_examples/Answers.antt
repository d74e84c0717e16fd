use Rattle.std.proofs.Common.{refl}
use Rattle.packed.specs.Packed.{word}
use Rattle.remap.proofs.examples.worked_examples.Goals as goal

pub returns : goal.returns
unfolding word
returns c = refl
