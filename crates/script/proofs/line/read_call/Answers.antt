use Rattle.std.proofs.Common.{◌≡◌, codes, rules, sym, ap, ◌∙◌, arith}
use Rattle.std.proofs.lemmas.Slice.Eq.{text_from_reads}
use Rattle.script.specs.Reading.{call_of}
use Rattle.script.proofs.line.read_call.Goals as goal

pub returns-in-TAKE : goal.returns-in-TAKE
returns-in-TAKE c =
    let named : c.args.word.now ≡ codes "TAKE" = text_from_reads c.args.word.now (codes "TAKE") (omega arith) (search rules) in
    c.alone-in-TAKE.ensures ∙ ap (λ w. call_of w c.args.rest.now) (sym named)

pub returns-in-INJECT : goal.returns-in-INJECT
returns-in-INJECT c =
    let named : c.args.word.now ≡ codes "INJECT" = text_from_reads c.args.word.now (codes "INJECT") (omega arith) (search rules) in
    c.read_inject.ensures ∙ ap (λ w. call_of w c.args.rest.now) (sym named)
