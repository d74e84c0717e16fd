-- Writing what was read: a word is its fields side by side, so a lawful one is the entry that it reads as.
use Rattle.std.proofs.Common.{◌≡◌, ℕ, zero, suc, ◌+◌, ◌*◌, ◌/◌, ◌%◌, ◌^◌, ◌<◌, true, false, eqb, ltb, List, [], ◌∷◌, refl, ap, ◌∙◌, ⊎_elim, arith}
use mir.Val.{bool_byte}
use Rattle.std.proofs.lemmas.Bool.{and_parts, eqb-true, eqb-false, cases_Bool}
use Rattle.std.proofs.lemmas.Bool.Decides.{nat_tests}
use Rattle.packed.specs.Packed.{bits, fields_in, fields_from}
use Rattle.packed.proofs.Fields.{fields_make}
use Rattle.entry.specs.Layout.{reserved_host, reserved_posted, all_zero, is_posted, lawful_host, lawful_posted, lawful, host_of, posted_of, entry_with, entry_of, fields_with, writable, WrittenAs}

-- the widths of the fields
abbrev pub host_widths : List ℕ
host_widths = 1 ∷ 1 ∷ 1 ∷ 1 ∷ 1 ∷ 3 ∷ 4 ∷ 3 ∷ 1 ∷ 8 ∷ 8 ∷ 8 ∷ 8 ∷ 16 ∷ 16 ∷ 2 ∷ 2 ∷ 44 ∷ []

abbrev pub posted_widths : List ℕ
posted_widths = 1 ∷ 1 ∷ 6 ∷ 4 ∷ 2 ∷ 1 ∷ 1 ∷ 8 ∷ 8 ∷ 6 ∷ 26 ∷ 16 ∷ 2 ∷ 2 ∷ 12 ∷ 32 ∷ []

byte_of : (n : ℕ) → n < 2 → bool_byte (eqb n 1) ≡ n
byte_of zero h = refl
byte_of (suc zero) h = refl
byte_of (suc (suc n)) h = absurd (omega arith)

flag_of : (x k : ℕ) → bool_byte (eqb (x / 2 ^ k % 2) 1) ≡ x / 2 ^ k % 2
flag_of x k = byte_of (x / 2 ^ k % 2) (omega arith)

-- the reserved bits of a list are zero
abbrev AllZero : List (ℕ × ℕ) → ℕ → Type 0
AllZero [] x = Unit {0}
AllZero (r ∷ rs) x = (bits r.0 r.1 x ≡ 0) × AllZero rs x

zero_parts : (rs : List (ℕ × ℕ)) (x : ℕ) → all_zero rs x ≡ true → AllZero rs x
zero_parts [] x e = tt
zero_parts (r ∷ rs) x e = let p = and_parts (eqb (bits r.0 r.1 x) 0) (all_zero rs x) e in (eqb-true _ 0 p.0, zero_parts rs x p.1)

module _ (x : ℕ) (small : x < 2 ^ 128) (svt : ltb (bits 83 82 x) 3 ≡ true) where
  host_fields : is_posted x ≡ false → lawful_host x ≡ true → fields_with (entry_with x (host_of x)) (host_of x) ≡ fields_from 0 host_widths x
  host_fields m ok =
      let zero = zero_parts reserved_host x (and_parts _ _ ok).0 in
      let mode : bits 15 15 x ≡ 0 = let n : bits 15 15 x ≡ 1 → ⊥ = eqb-false _ 1 m in omega arith in
      rw (flag_of x 0, flag_of x 1, flag_of x 2, flag_of x 3, flag_of x 4) cc

  posted_fields : is_posted x ≡ true → lawful_posted x ≡ true → fields_with (entry_with x (posted_of x)) (posted_of x) ≡ fields_from 0 posted_widths x
  posted_fields m ok =
      let zero = zero_parts reserved_posted x ok in
      let mode : bits 15 15 x ≡ 1 = eqb-true _ 1 m in
      let a : ℕ = bits 63 38 x * 2 ^ 6 + bits 127 96 x * 2 ^ 32 in
      let low : bits 31 6 a ≡ bits 63 38 x = omega arith in
      let high : bits 63 32 a ≡ bits 127 96 x = omega arith in
      rw (flag_of x 0, flag_of x 1, flag_of x 14) cc

  -- with the fields side by side again
  host_back : is_posted x ≡ false → lawful_host x ≡ true → WrittenAs (entry_of x) x
  host_back m ok =
      let delivery : ltb (bits 7 5 x) 2 ≡ true = (and_parts (all_zero reserved_host x) (ltb (bits 7 5 x) 2) ok).1 in
      let fit : writable (entry_with x (host_of x)) ≡ true = grind (arith, nat_tests) in
      rw m (fit, ap fields_in (host_fields m ok) ∙ fields_make host_widths x small)

  posted_back : is_posted x ≡ true → lawful_posted x ≡ true → WrittenAs (entry_of x) x
  posted_back m ok =
      let fit : writable (entry_with x (posted_of x)) ≡ true = grind (arith, nat_tests) in
      rw m (fit, ap fields_in (posted_fields m ok) ∙ fields_make posted_widths x small)

pub written_back : (x : ℕ) → x < 2 ^ 128 → lawful x ≡ true → WrittenAs (entry_of x) x
written_back x small ok =
    let a = and_parts _ _ ok in
    ⊎_elim
    (λ (m : is_posted x ≡ true). posted_back x small a.0 m (rw m at a.1))
    (λ (m : is_posted x ≡ false). host_back x small a.0 m (rw m at a.1))
    (cases_Bool (is_posted x))
