use Rattle.remap.proofs.Asking.{first_no}
use Rattle.entry.specs.Layout.{entry_of}
use Rattle.remap.specs.Resolution.{bits_at, resolved, index_questions}
use Rattle.remap.proofs.resolve.Entries.resolve.Goals as goal

pub returns-clause-law : goal.returns-clause-law
returns-clause-law k =
    let bs = k.args.self.now.bytes.now in
    let i = k.args.index in
    first_no (index_questions bs k.args.parties.descriptor k.args.parties.source i) (resolved (entry_of (bits_at bs i)))
