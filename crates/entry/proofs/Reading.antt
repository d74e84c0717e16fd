-- Reading what was written: the fields of a writable entry are found again.
use Rattle.std.proofs.Common.{◌≡◌, ℕ, ltb, ◌+◌, ◌*◌, ◌%◌, ◌^◌, ◌<◌, Bool, true, false, eqb, List, get_or, Ok, sym, refl, ap, ◌∙◌, arith, rules, lit<}
use mir.Val.{bool_byte}
use Rattle.std.proofs.lemmas.Nat.{shr-shr}
use Rattle.std.proofs.lemmas.Bool.{and_parts, lt-ltb, eqb-true, ltb-true}
use Rattle.packed.specs.Packed.{bits, fields_in, fields_from}
use Rattle.packed.specs.Laws.{AllFit}
use Rattle.std.proofs.lemmas.Bool.Decides.{nat_tests}
use Rattle.packed.proofs.Fields.{fields_back}
use Rattle.entry.specs.declared.format.Entry.{Entry}
use Rattle.entry.specs.declared.format.Target.{Target}
use Rattle.entry.specs.declared.format.Target.TheVariants.{Host, Posted}
use Rattle.entry.specs.Layout.{reads, fields_with, bits_of, writable_target, writable}
use Rattle.entry.proofs.Writing.{host_widths, posted_widths}

pub byte_lt : (b : Bool) → bool_byte b < 2
byte_lt true = lit< tt
byte_lt false = lit< tt

byte_back : (b : Bool) → eqb (bool_byte b) 1 ≡ b
byte_back true = refl
byte_back false = refl

-- the value of the k-th field
abbrev value : ℕ → List (ℕ × ℕ) → ℕ
value k fs = (get_or fs k (0, 0)).1

module _ (x : ℕ) (e : Entry) (svt : e.svt < 3) where
  host_read : (l h v : Bool) (d s : ℕ) → e.target ≡ Host l h v d s → d < 2
      → fields_from 0 host_widths x ≡ fields_with e (Host l h v d s) → reads x ≡ Ok e
  host_read l h v d s t small q =
      let found = λ (k : ℕ). ap (value k) q in
      rw (found 16, found 8, found 7, found 10, found 11, found 13, found 17, found 5)
      (rw (lt-ltb e.svt 3 svt, lt-ltb d 2 small)
      (rw (found 0, found 1, found 2, found 3, found 4, found 6, found 9, found 12, found 14, found 15)
      (simp byte_back (ap (λ (w : Target). Ok (record e { target = w })) (sym t)))))

  posted_read : (u : Bool) (n : ℕ) → e.target ≡ Posted u n → n < 2 ^ 64 → n % 64 ≡ 0
      → fields_from 0 posted_widths x ≡ fields_with e (Posted u n) → reads x ≡ Ok e
  posted_read u n t fits aligned q =
      let address : bits 31 6 n * 2 ^ 6 + bits 63 32 n * 2 ^ 32 ≡ n = omega (arith, shr-shr n 6 26) in
      let found = λ (k : ℕ). ap (value k) q in
      rw (found 13, found 6, found 2, found 4, found 8, found 9, found 14)
      (rw (lt-ltb e.svt 3 svt)
      (rw (found 0, found 1, found 3, found 5, found 7, found 10, found 11, found 12, found 15, address)
      (simp byte_back (ap (λ (w : Target). Ok (record e { target = w })) (sym t)))))

-- an address has 64 bits
abbrev pub Fits : Target → Type 0
Fits (Host l h v d s) = Unit {0}
Fits (Posted u n) = n < 2 ^ 64

pub read_back : (e : Entry) (t : Target) → e.target ≡ t → e.vector < 2 ^ 8 → e.sid < 2 ^ 16 → Fits t → writable e ≡ true → reads (bits_of e) ≡ Ok e
read_back e t q vector sid fits w =
    let a = and_parts (ltb e.free 16) _ w in
    let b = and_parts (ltb e.sq 4) _ a.1 in
    let c = and_parts (ltb e.svt 3) _ b.1 in
    read_fields e t q (ltb-true e.free 16 a.0) vector sid (ltb-true e.sq 4 b.0) (ltb-true e.svt 3 c.0) (rw q at c.1) fits
  where
    read_fields : (e : Entry) (t : Target) → e.target ≡ t → e.free < 16 → e.vector < 2 ^ 8 → e.sid < 2 ^ 16 → e.sq < 4 → e.svt < 3
        → writable_target t ≡ true → Fits t → reads (bits_of e) ≡ Ok e
    read_fields e (Host l h v d s) q free vector sid sq svt w fits =
        let small : d < 2 = grind (arith, nat_tests) in
        let dest : s < 256 = grind (arith, nat_tests) in
        let fs : List (ℕ × ℕ) = fields_with e (Host l h v d s) in
        let fit : AllFit fs = search (rules, byte_lt) in
        ap (λ (u : Target). reads (fields_in (fields_with e u))) q ∙ host_read (fields_in fs) e svt l h v d s q small (fields_back fs fit)
    read_fields e (Posted u n) q free vector sid sq svt w fits =
        let fs : List (ℕ × ℕ) = fields_with e (Posted u n) in
        let fit : AllFit fs = search (rules, byte_lt) in
        ap (λ (v : Target). reads (fields_in (fields_with e v))) q ∙ posted_read (fields_in fs) e svt u n q fits (eqb-true (n % 64) 0 w) (fields_back fs fit)
