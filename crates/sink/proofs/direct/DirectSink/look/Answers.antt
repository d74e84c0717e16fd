use Rattle.vectors.specs.Sets.{blank}
use Rattle.vectors.proofs.Grouped.{in_blank, words_usable}
use Rattle.sink.proofs.direct.DirectSink.look.Goals as goal

pub returns-clause-usable : goal.returns-clause-usable
returns-clause-usable c = words_usable blank c.args.group (λ k _. in_blank k)
