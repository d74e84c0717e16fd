use Rattle.std.proofs.Common.{ap, ◌∙◌, arith, rules}
use Rattle.entry.specs.declared.format.Target.TheVariants.{Host, Posted}
use Rattle.entry.specs.Layout.{reads}
use Rattle.entry.proofs.Reading.{byte_lt, read_back}
use Rattle.entry.proofs.format.Entry.assembled.Goals as goal

pub returns-in-Host-clause-value : goal.returns-in-Host-clause-value
returns-in-Host-clause-value c =
    let h = c.in-Host in
    rw h.is (omega (arith, byte_lt))

pub returns-in-Host-clause-back : goal.returns-in-Host-clause-back
returns-in-Host-clause-back c =
    let h = c.in-Host in
    λ w. ap reads (returns-in-Host-clause-value c) ∙ read_back c.args.self.now (Host h.logical h.hint h.level h.delivery h.destination) h.is (search rules) (search rules) tt w

pub returns-in-Posted-clause-value : goal.returns-in-Posted-clause-value
returns-in-Posted-clause-value c =
    let p = c.in-Posted in
    rw p.is (omega (arith, byte_lt))

pub returns-in-Posted-clause-back : goal.returns-in-Posted-clause-back
returns-in-Posted-clause-back c =
    let p = c.in-Posted in
    λ w. ap reads (returns-in-Posted-clause-value c) ∙ read_back c.args.self.now (Posted p.urgent p.address) p.is (search rules) (search rules) (search rules) w
