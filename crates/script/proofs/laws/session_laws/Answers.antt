use Rattle.script.proofs.Sittings.{nothing_read}
use Rattle.script.proofs.laws.session_laws.Goals as goal

pub returns : goal.returns
returns c = nothing_read
