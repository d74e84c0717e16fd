use Rattle.std.proofs.Common.{◌≡◌, true}
use Rattle.polled.specs.Layout.{flags_to}
use Rattle.polled.proofs.bytes.are_flags.Given as goal

abbrev pub invariant-loop-v : goal.invariant-loop-v
invariant-loop-v l = flags_to l.bytes l.v ≡ true
