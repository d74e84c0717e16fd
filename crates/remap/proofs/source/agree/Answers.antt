use Rattle.remap.proofs.Masks.{agree_yes, agree_no}
use Rattle.remap.proofs.source.agree.Goals as goal

pub returns-clause-yes : goal.returns-clause-yes
returns-clause-yes c = agree_yes c.args.mask c.args.a c.args.b

pub returns-clause-no : goal.returns-clause-no
returns-clause-no c = agree_no c.args.mask c.args.a c.args.b
