use Rattle.std.proofs.Common.{◌≡◌, ℕ, ◌^◌, ◌<◌, get_or, replicate}
use Rattle.descriptor.proofs.RoundTrips.{puts}
use Rattle.descriptor.proofs.contents.Contents.laid_out.Given as goal

abbrev pub invariant-loop-group : goal.invariant-loop-group
invariant-loop-group l = record {
  put : l.bytes ≡ puts l.self.parked.words l.group (replicate 64 0);
  fit : (k : ℕ) → k < l.group → get_or l.self.parked.words k 0 < 2 ^ 64;
}
