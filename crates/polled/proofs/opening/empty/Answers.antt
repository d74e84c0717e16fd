use Rattle.std.proofs.Common.{refl}
use Rattle.polled.specs.Layout.{prepared}
use Rattle.polled.proofs.Blanks.{blank_empty, blank_page}
use Rattle.polled.proofs.opening.empty.Goals as goal

pub returns : goal.returns
unfolding prepared
returns c = record { bytes = refl; empty = blank_empty; page = blank_page }
