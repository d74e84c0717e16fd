use Rattle.script.proofs.Comments.{comment_ignored, return_ignored}
use Rattle.script.proofs.laws.reading_laws.Goals as goal

pub returns-clause-commented : goal.returns-clause-commented
returns-clause-commented c = comment_ignored

pub returns-clause-returned : goal.returns-clause-returned
returns-clause-returned c = return_ignored
