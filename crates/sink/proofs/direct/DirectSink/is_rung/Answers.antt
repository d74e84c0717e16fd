use Rattle.std.proofs.lemmas.Bool.{both_ways}
use Rattle.vectors.specs.Sets.{in_words, blank}
use Rattle.vectors.proofs.Grouped.{in_blank}
use Rattle.sink.proofs.direct.DirectSink.is_rung.Goals as goal

pub returns-clause-sound : goal.returns-clause-sound
returns-clause-sound c = ((λ v u. u), (λ v t. absurd (both_ways (in_words blank v) (in_blank v) t)))
