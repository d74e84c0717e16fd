use Rattle.std.proofs.Common.{◌*◌, rules}
use Rattle.bank.specs.Rules.{view}
use Rattle.bank.proofs.Taking.{eoi_undoes_above}
use Rattle.bank.proofs.state.Bank.ppr.Goals as goal

pub returns-then-self-class-clause-undone : goal.returns-then-self-class-clause-undone
returns-then-self-class-clause-undone c =
    eoi_undoes_above (view c.args.self.now) c.args.self.now.tpr c.highest.ensures.bounded (search rules)

pub returns-else-self-class-clause-undone : goal.returns-else-self-class-clause-undone
returns-else-self-class-clause-undone c =
    eoi_undoes_above (view c.args.self.now) (c.map_or-class.result * 16) c.highest.ensures.bounded (search rules)
