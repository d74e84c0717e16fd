use Rattle.std.proofs.Common.{◌≡◌, ℕ, ◌*◌, List, ◌++◌, take, drop, replicate, ap, ◌∙◌, ap₂, arith, rules}
use Rattle.std.proofs.lemmas.List.{drop-drop}
use Rattle.packed.specs.Packed.{wiped}
use Rattle.polled.proofs.bytes.clear_group.Goals as goal

-- 64 bytes are cleared where as many zeros take their place
zeroed : (bs : List ℕ) (from n : ℕ) (ys : List ℕ) → ys ≡ replicate 64 0 → n ≡ 64 → take from bs ++ (ys ++ drop n (drop from bs)) ≡ wiped bs from 64
zeroed bs from n ys zeros count =
    ap₂ (λ (n : ℕ) (ys : List ℕ). take from bs ++ (ys ++ drop n (drop from bs))) count zeros
    ∙ ap (λ (ys : List ℕ). take from bs ++ (replicate 64 0 ++ ys)) (drop-drop 64 from bs)

pub returns-clause-after : goal.returns-clause-after
returns-clause-after c =
    let bs = c.args.bytes.now in
    zeroed bs (64 * c.index-from.result) _ _ (search rules) (omega arith)
    ∙ ap (λ (g : ℕ). wiped bs (64 * g) 64) c.index-from.ensures.value
