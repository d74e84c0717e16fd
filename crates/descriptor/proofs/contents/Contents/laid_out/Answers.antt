use Rattle.std.proofs.Common.{◌≡◌, ℕ, ◌^◌, ◌<◌, length, get_or, replicate, refl, ap, ◌∙◌, ⊎_elim, arith, rules}
use Rattle.std.proofs.lemmas.Bool.{cases_eq}
use Rattle.descriptor.proofs.RoundTrips.{puts, puts_more, layout_made, read_back}
use Rattle.descriptor.proofs.contents.Contents.laid_out.Goals as goal

pub loop-group-init : goal.loop-group-init
loop-group-init c = record { put = refl; fit = λ k l. absurd (omega arith) }

pub loop-group-preserved : goal.loop-group-preserved
loop-group-preserved c =
    let ws = c.args.self.now.parked.words in
    let g = c.loop-group.group in
    let p = c.put_word.ensures in
    record {
      put = p.after ∙ puts_more ws c.from-words.result c.loop-group.bytes g c.from-words.ensures c.loop-group.invariant.put;
      fit = λ k l. ⊎_elim (λ (e : k ≡ g). rw e (rw c.from-words.ensures at p.bounded)) (λ (n : k ≡ g → ⊥). c.loop-group.invariant.fit k (omega arith)) (cases_eq k g);
    }

pub returns-clause-value : goal.returns-clause-value
returns-clause-value c =
    let v = c.args.self.now in
    let four : c.loop-group.group ≡ 4 = omega arith in
    let all = c.loop-group.invariant.put ∙ ap (λ (n : ℕ). puts v.parked.words n (replicate 64 0)) four in
    layout_made v v.parked.words c.loop-group.bytes c.marks_byte.result c.vector_of.result refl all c.marks_byte.ensures c.vector_of.ensures

pub returns-clause-back : goal.returns-clause-back
returns-clause-back c =
    let ws = c.args.self.now.parked.words in
    let four : length ws ≡ 4 = search rules in
    let fit : (k : ℕ) → k < 4 → get_or ws k 0 < 2 ^ 64 = λ k l. c.loop-group.invariant.fit k (omega arith) in
    read_back c.args.self.now ws refl four (fit 0 (omega arith)) (fit 1 (omega arith)) (fit 2 (omega arith)) (fit 3 (omega arith))
