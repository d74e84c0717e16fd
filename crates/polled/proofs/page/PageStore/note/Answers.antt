use Rattle.std.proofs.Common.{◌≡◌, ℕ, ◌<◌, ◌≤◌, List, set, true, leb, ap, ◌∙◌, arith, rules}
use Rattle.std.proofs.lemmas.Bool.{and_parts, leb-true}
use Rattle.vectors.specs.Sets.{gained}
use Rattle.sink.specs.Meaning.{with_parked}
use Rattle.polled.specs.Layout.{polled, is_page}
use Rattle.polled.proofs.Lawfulness.{page_parts, page_one}
use Rattle.polled.proofs.PageLaws.{park_polled}
use Rattle.polled.proofs.page.PageStore.note.Goals as goal

pub invariant_of-self : goal.invariant_of-self
invariant_of-self c =
    let p = c.args.self.now in
    let v = c.from.result in
    let low : 16 ≤ v = leb-true 16 v (and_parts (leb 16 v) (leb v 255) c.from.ensures.1).0 in
    record { page = page_one p.bytes.now _ (omega (arith, low)) (search rules) p.page }

-- the byte that is set is the vector's
noted : (bs : List ℕ) (v i : ℕ) → i ≡ v → v < 256 → is_page bs ≡ true → polled (set bs i 1) ≡ with_parked (polled bs) (gained (polled bs).parked v)
noted bs v i same high page =
    let parts = page_parts bs page in
    rw same (park_polled bs v parts.0 parts.1 high)

pub returns-clause-after : goal.returns-clause-after
returns-clause-after c =
    let bs = c.args.self.now.bytes.now in
    noted bs c.from.result _ (grind arith) (search rules) c.args.self.now.page
    ∙ ap (λ (w : ℕ). with_parked (polled bs) (gained (polled bs).parked w)) c.from.ensures.0
