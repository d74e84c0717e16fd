use Rattle.std.proofs.Common.{rules, Some}
use Rattle.bank.specs.Rules.{view}
use Rattle.script.specs.Held.{held}
use Rattle.script.proofs.Sittings.{line_read}
use Rattle.script.proofs.session.Session.end_line.Goals as goal
use Rattle.script.specs.Sessions.{state}

pub returns-in_err-transpose-clause-law : goal.returns-in_err-transpose-clause-law
returns-in_err-transpose-clause-law k =
    line_read (state k.args.self.now)
    (record { line = held k.clear.new.self.line; ended = k.saturating_add-self.result; bank = view k.args.self.now.bank })
    k.from_residual.result (search rules) (search rules)

pub returns-clause-law : goal.returns-clause-law
returns-clause-law k =
    line_read (state k.args.self.now)
    (record { line = held k.clear.new.self.line; ended = k.saturating_add-self.result; bank = view k.make_call-outcome.new.bank })
    (Some (record { line = k.saturating_add-self.result; outcome = k.make_call-outcome.result })) (search rules) (search rules)
