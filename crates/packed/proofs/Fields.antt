-- Fields put side by side in a word and found again.
use Rattle.std.proofs.Common.{◌≡◌, ℕ, ◌+◌, ◌*◌, ◌/◌, ◌%◌, ◌^◌, ◌<◌, List, [], ◌∷◌, map, sym, refl, ap, ◌∙◌, ap₂, arith}
use Rattle.std.proofs.lemmas.Nat.{shr-shr, div-mul-add, mod-mul-add, shr_below, div-add-mod'}
use Rattle.packed.specs.Packed.{fields_in, fields_from}
use Rattle.packed.specs.Laws.{AllFit, total, FieldsBack, FieldsMake}

-- the rest of a word above a field
above : (x k w : ℕ) → x / 2 ^ k / 2 ^ w ≡ x / 2 ^ (k + w)
above x k w = shr-shr x k w

found_from : (fs : List (ℕ × ℕ)) (k x : ℕ) → AllFit fs → x / 2 ^ k ≡ fields_in fs → fields_from k (map (λ (f : ℕ × ℕ). f.0) fs) x ≡ fs
found_from [] k x fit e = refl
found_from (f ∷ fs) k x fit e =
    let y : ℕ = fields_in fs in
    let swap : f.1 + y * 2 ^ f.0 ≡ y * 2 ^ f.0 + f.1 = omega arith in
    let low : x / 2 ^ k % 2 ^ f.0 ≡ f.1 = ap (λ (n : ℕ). n % 2 ^ f.0) (e ∙ swap) ∙ mod-mul-add y (2 ^ f.0) f.1 fit.0 in
    let high : x / 2 ^ (k + f.0) ≡ y = sym (above x k f.0) ∙ ap (λ (n : ℕ). n / 2 ^ f.0) (e ∙ swap) ∙ div-mul-add y (2 ^ f.0) f.1 fit.0 in
    ap₂ (λ (v : ℕ) (r : List (ℕ × ℕ)). (f.0, v) ∷ r) low (found_from fs (k + f.0) x fit.1 high)

pub fields_back : FieldsBack
fields_back fs fit = found_from fs 0 (fields_in fs) fit (omega arith)

made_from : (ws : List ℕ) (k x : ℕ) → x / 2 ^ k < 2 ^ total ws → fields_in (fields_from k ws x) ≡ x / 2 ^ k
made_from [] k x h = omega arith
made_from (w ∷ ws) k x h =
    let power : 2 ^ (w + total ws) ≡ 2 ^ (total ws + w) = ap (λ (n : ℕ). 2 ^ n) (omega arith) in
    let small : x / 2 ^ k < 2 ^ (total ws + w) = rw power at h in
    let rest : x / 2 ^ (k + w) < 2 ^ total ws = rw above at (shr_below (x / 2 ^ k) (total ws) w small) in
    let whole = div-add-mod' (x / 2 ^ k) (2 ^ w) in
    ap (λ (y : ℕ). x / 2 ^ k % 2 ^ w + y * 2 ^ w) (made_from ws (k + w) x rest ∙ sym (above x k w)) ∙ omega arith

pub fields_make : FieldsMake
fields_make ws x h = let z : x / 2 ^ 0 ≡ x = omega arith in made_from ws 0 x (rw z h) ∙ z
