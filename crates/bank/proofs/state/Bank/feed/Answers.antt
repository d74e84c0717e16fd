use Rattle.std.proofs.Common.{rules, None}
use Rattle.bank.specs.Rules.{view}
use Rattle.bank.proofs.Feeding.{feeds}
use Rattle.bank.proofs.state.Bank.feed.Goals as goal

pub returns-in-Take-clause-law : goal.returns-in-Take-clause-law
returns-in-Take-clause-law k =
    feeds (view k.args.self.now) (view k.take.new.self) k.args.call k.take.result (search rules) (search rules)

pub returns-in-Eoi-clause-law : goal.returns-in-Eoi-clause-law
returns-in-Eoi-clause-law k =
    feeds (view k.args.self.now) (view k.eoi.new.self) k.args.call k.eoi.result (search rules) (search rules)

pub returns-in-Tpr-clause-law : goal.returns-in-Tpr-clause-law
returns-in-Tpr-clause-law k =
    feeds (view k.args.self.now) (view k.set_tpr.new.self) k.args.call None (search rules) (search rules)

pub returns-in_ok-inject-in-Inject-clause-law : goal.returns-in_ok-inject-in-Inject-clause-law
returns-in_ok-inject-in-Inject-clause-law k =
    feeds (view k.args.self.now) (view k.inject.new.self) k.args.call None (search rules) (search rules)
