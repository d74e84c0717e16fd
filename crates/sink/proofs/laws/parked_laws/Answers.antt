use Rattle.sink.proofs.Meanings.{park_adds, word_tells, draw_removes}
use Rattle.sink.proofs.laws.parked_laws.Goals as goal

pub returns : goal.returns
returns c = record { park = park_adds; word = word_tells; draw = draw_removes }
