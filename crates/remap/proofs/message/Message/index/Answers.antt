use Rattle.remap.specs.Messages.{message_questions, sum}
use Rattle.remap.proofs.Asking.{first_no_of}
use Rattle.remap.proofs.message.Message.index.Goals as goal

pub returns-clause-law : goal.returns-clause-law
returns-clause-law k = first_no_of (message_questions k.args.self) (sum k.args.self) k.questioned.result k.questioned.ensures
