use Rattle.std.proofs.Common.{◌≡◌, true, sym, subst, rules}
use Rattle.entry.specs.declared.format.Entry.{Entry}
use Rattle.entry.specs.Layout.{lawful, WrittenAs}
use Rattle.entry.proofs.Writing.{written_back}
use Rattle.entry.proofs.raw.EntryTryFromRawEntry.try_from.Goals as goal

pub returns : goal.returns
returns c =
    let x = c.args.raw.bits in
    let all : lawful x ≡ true = search rules in
    (search rules, subst (λ (e : Entry). WrittenAs e x) (sym c.entry.ensures) (written_back x (search rules) all))
