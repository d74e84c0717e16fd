use Rattle.descriptor.proofs.Changes.{prepared_described}
use Rattle.descriptor.proofs.Lawfulness.{prepared_lawful}
use Rattle.descriptor.proofs.opening.empty.Goals as goal

pub returns-clause-means : goal.returns-clause-means
returns-clause-means c = prepared_described

pub returns-clause-lawful : goal.returns-clause-lawful
returns-clause-lawful c = prepared_lawful
