use Rattle.std.proofs.Common.{arith}
use Rattle.polled.proofs.Lawfulness.{page_parts}
use Rattle.polled.proofs.PageLaws.{group_usable}
use Rattle.polled.proofs.RoundTrip.{read_back}
use Rattle.polled.proofs.contents.taken_apart.Goals as goal

pub returns-clause-accepted : goal.returns-clause-accepted
returns-clause-accepted c = group_usable c.args.bytes.now (page_parts c.args.bytes.now c.requires).1 0 (omega arith)

pub returns-clause-back : goal.returns-clause-back
returns-clause-back c = read_back c.args.bytes.now c.requires
