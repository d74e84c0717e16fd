-- Which sources (requester identifiers of devices) may use an entry.
-- SVT 0 checks nothing. SVT 1 compares the source with SID, but for the bits that SQ ignores. SVT 2 wants source bits 15-8
-- between SID bits 15-8 and SID bits 7-0, ends included. Another SVT passes nothing.
use Rattle.std.specs.Prelude.{◌≡◌, ℕ, Bool, true, false, if◌then◌else◌, ◌&&◌, ◌==◌, bit_or, nat_le}
use Rattle.packed.specs.Packed.{bits}
use Rattle.vectors.specs.Sets.{bit}
use Rattle.entry.specs.declared.format.Entry.{Entry}

-- the bits that SQ ignores, as a mask: none, bit 2, bits 2-1, bits 2-0
abbrev pub ignored : ℕ → ℕ
ignored sq = if sq == 0 then 0 else if sq == 1 then 4 else if sq == 2 then 6 else 7

abbrev pub same_but : ℕ → ℕ → ℕ → Bool
same_but mask a b = bit_or a mask == bit_or b mask

abbrev pub in_range : ℕ → ℕ → Bool
in_range sid source = nat_le (bits 15 8 sid) (bits 15 8 source) && nat_le (bits 15 8 source) (bits 7 0 sid)

abbrev pub passes : Entry → ℕ → Bool
passes e source =
    if e.svt == 0 then true
    else if e.svt == 1 then same_but (ignored e.sq) source e.sid
    else if e.svt == 2 then in_range e.sid source
    else false

-- every bit that is not in the mask agrees
abbrev pub Agree : ℕ → ℕ → ℕ → Type 0
Agree mask a b = (k : ℕ) → bit mask k ≡ false → bit a k ≡ bit b k

-- The law of SVT 1: a source passes if and only if each of its bits that SQ does not ignore is that of SID.
abbrev pub Compared : Entry → ℕ → Bool → Type 0
Compared e source r =
    e.svt ≡ 1 → (r ≡ true → Agree (ignored e.sq) source e.sid) × (Agree (ignored e.sq) source e.sid → r ≡ true)
