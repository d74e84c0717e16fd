use Rattle.std.proofs.Common.{refl}
use Rattle.vectors.specs.Search.{highest_to}
use Rattle.bank.specs.Machine.{bank_from}
use Rattle.bank.proofs.examples.worked_examples.Goals as goal

pub returns : goal.returns
unfolding highest_to bank_from
returns c = record { count = refl; settled = refl }
