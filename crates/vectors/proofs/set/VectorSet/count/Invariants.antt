use Rattle.std.proofs.Common.{◌≡◌, ◌*◌, ◌≤◌}
use Rattle.vectors.specs.Sets.{has, count_to}
use Rattle.vectors.proofs.set.VectorSet.count.Given as goal

abbrev pub invariant-loop-word : goal.invariant-loop-word
invariant-loop-word l = record {
  bound : l.count ≤ 64 * l.word-index;
  counted : l.count ≡ count_to (has l.self.words) (64 * l.word-index);
}
