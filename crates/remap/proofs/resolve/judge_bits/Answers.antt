use Rattle.std.proofs.Common.{◌≡◌, true, false, ap, ◌∙◌, rules}
use Rattle.packed.specs.Packed.{is_set}
use Rattle.entry.specs.declared.faults.Fault.TheVariants.{Unlawful}
use Rattle.entry.specs.declared.format.Entry.{Entry}
use Rattle.entry.specs.Layout.{lawful, entry_of}
use Rattle.remap.specs.Questions.{asked}
use Rattle.remap.specs.Resolution.{resolved, entry_questions}
use Rattle.remap.proofs.Judging.{went_yes, went_no}
use Rattle.remap.proofs.resolve.judge_bits.Goals as goal

pub returns-in_err-entry : goal.returns-in_err-entry
returns-in_err-entry c =
    let x = c.args.raw.bits in
    let present : is_set 0 x ≡ true = search rules in
    let no : lawful x ≡ false = went_no (lawful x) (entry_of x) Unlawful _ c.in_err-entry.ensures.0 in
    rw (present, no) (search rules)

pub returns : goal.returns
returns c =
    let x = c.args.raw.bits in
    let present : is_set 0 x ≡ true = search rules in
    let w = went_yes (lawful x) (entry_of x) c.in_ok-entry.entry Unlawful c.in_ok-entry.ensures.0 in
    rw (present, w.0)
    (c.judge_entry.ensures ∙ ap (λ (e : Entry). asked (entry_questions c.args.parties.descriptor c.args.parties.source e) (resolved e)) w.1)
