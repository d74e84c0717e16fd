use Rattle.std.proofs.Common.{◌≡◌, drop}
use Rattle.descriptor.specs.Layout.{lawful_from, lawful}
use Rattle.descriptor.proofs.bytes.is_lawful.Given as goal

abbrev pub invariant-loop-place : goal.invariant-loop-place
invariant-loop-place l = lawful l.bytes ≡ lawful_from l.place (drop l.place l.bytes)
