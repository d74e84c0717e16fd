use Rattle.vectors.specs.Sets.{members, words_of, has, in_words}
use Rattle.vectors.proofs.Grouped.{words_usable, none_low}
use Rattle.vectors.proofs.set.VectorSet.word_of.Goals as goal

pub returns-clause-usable : goal.returns-clause-usable
unfolding has in_words
returns-clause-usable c u = rw c.index.ensures.value (words_usable (words_of c.args.self.now) c.args.group (none_low (members c.args.self.now) u))
