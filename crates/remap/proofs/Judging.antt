-- Which way a test went, by the answer or the refusal that it gave.
use Rattle.std.proofs.Common.{◌≡◌, Bool, true, false, cond, Ok, Err, refl}

pub went_yes : {X F : Type 0} (b : Bool) (x y : X) (f : F) → Ok y ≡ cond b (Ok x) (Err f) → (b ≡ true) × (y ≡ x)
went_yes true x y f e = (refl, cc)
went_yes false x y f e = cc

pub went_no : {X F : Type 0} (b : Bool) (x : X) (f g : F) → Err g ≡ cond b (Ok x) (Err f) → b ≡ false
went_no true x f g e = cc
went_no false x f g e = refl
