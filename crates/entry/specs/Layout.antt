-- The 128 bits of a remapping entry (IRTE), which lie in 16 bytes, the lowest byte first.
-- Every entry: bit 0 present, 1 FPD (fault processing disabled), 11-8 free for software, 15 mode, 23-16 vector, 79-64 SID,
-- 81-80 SQ, 83-82 SVT. Mode 0 goes to the host: 2 destination mode, 3 RH (redirection hint), 4 trigger mode, 7-5 delivery
-- mode, 47-40 destination. Mode 1 is posted: 14 urgent, 63-38 bits 31-6 of the descriptor's address, 127-96 its bits 63-32.
use Rattle.std.specs.Prelude.{◌≡◌, ℕ, ◌+◌, ◌*◌, ◌%◌, ◌^◌, Bool, true, if◌then◌else◌, ◌&&◌, List, [], ◌∷◌, length, Ok, Err, Result, ◌==◌, nat_lt}
use mir.Val.{bool_byte}
use Rattle.packed.specs.Packed.{word, bytes_of, bits, is_set, fields_in}
use Rattle.entry.specs.declared.faults.Fault.{Fault}
use Rattle.entry.specs.declared.faults.Fault.TheVariants.{Length, Unlawful}
use Rattle.entry.specs.declared.format.Entry.{Entry}
use Rattle.entry.specs.declared.format.Target.{Target}
use Rattle.entry.specs.declared.format.Target.TheVariants.{Host, Posted}
use Rattle.entry.specs.declared.raw.RawEntry.{RawEntry}

-- the reserved bits of each mode, from high to low
abbrev pub reserved_host : List (ℕ × ℕ)
reserved_host = (14, 12) ∷ (31, 24) ∷ (39, 32) ∷ (63, 48) ∷ (127, 84) ∷ []

abbrev pub reserved_posted : List (ℕ × ℕ)
reserved_posted = (7, 2) ∷ (13, 12) ∷ (31, 24) ∷ (37, 32) ∷ (95, 84) ∷ []

abbrev pub all_zero : List (ℕ × ℕ) → ℕ → Bool
all_zero [] x = true
all_zero (r ∷ rs) x = bits r.0 r.1 x == 0 && all_zero rs x

abbrev pub is_posted : ℕ → Bool
is_posted x = is_set 15 x

-- SVT 3 is reserved, and so are delivery modes 2 to 7 of the host
abbrev pub lawful_host : ℕ → Bool
lawful_host x = all_zero reserved_host x && nat_lt (bits 7 5 x) 2

abbrev pub lawful_posted : ℕ → Bool
lawful_posted x = all_zero reserved_posted x

abbrev pub lawful : ℕ → Bool
lawful x = nat_lt (bits 83 82 x) 3 && (if is_posted x then lawful_posted x else lawful_host x)

abbrev pub host_of : ℕ → Target
host_of x = Host (is_set 2 x) (is_set 3 x) (is_set 4 x) (bits 7 5 x) (bits 47 40 x)

abbrev pub posted_of : ℕ → Target
posted_of x = Posted (is_set 14 x) (bits 63 38 x * 2 ^ 6 + bits 127 96 x * 2 ^ 32)

abbrev pub entry_with : ℕ → Target → Entry
entry_with x t = record {
  present = is_set 0 x;
  fpd = is_set 1 x;
  free = bits 11 8 x;
  vector = bits 23 16 x;
  sid = bits 79 64 x;
  sq = bits 81 80 x;
  svt = bits 83 82 x;
  target = t;
}

abbrev pub entry_of : ℕ → Entry
entry_of x = entry_with x (if is_posted x then posted_of x else host_of x)

-- reading: of 128 bits, and of bytes, where the length is asked first
abbrev pub reads : ℕ → Result Entry Fault
reads x = if lawful x then Ok (entry_of x) else Err Unlawful

abbrev pub bits_in : List ℕ → ℕ
bits_in bs = word 8 bs 0 16

abbrev pub raw_in : List ℕ → Result RawEntry Fault
raw_in bs = if length bs == 16 then Ok (record { bits = bits_in bs }) else Err Length

abbrev pub reads_bytes : List ℕ → Result Entry Fault
reads_bytes bs = if length bs == 16 then reads (bits_in bs) else Err Length

-- writing: each field at its place, by its width and value from the lowest bit up; what no field has is zero
abbrev pub flag : Bool → ℕ × ℕ
flag b = (1, bool_byte b)

abbrev pub zeros : ℕ → ℕ × ℕ
zeros n = (n, 0)

abbrev pub fields_with : Entry → Target → List (ℕ × ℕ)
fields_with e (Host logical hint level delivery destination) =
    flag e.present ∷ flag e.fpd ∷ flag logical ∷ flag hint ∷ flag level ∷ (3, delivery) ∷ (4, e.free) ∷ zeros 3 ∷ (1, 0)
    ∷ (8, e.vector) ∷ zeros 8 ∷ zeros 8 ∷ (8, destination) ∷ zeros 16 ∷ (16, e.sid) ∷ (2, e.sq) ∷ (2, e.svt) ∷ zeros 44 ∷ []
fields_with e (Posted urgent address) =
    flag e.present ∷ flag e.fpd ∷ zeros 6 ∷ (4, e.free) ∷ zeros 2 ∷ flag urgent ∷ (1, 1)
    ∷ (8, e.vector) ∷ zeros 8 ∷ zeros 6 ∷ (26, bits 31 6 address) ∷ (16, e.sid) ∷ (2, e.sq) ∷ (2, e.svt) ∷ zeros 12
    ∷ (32, bits 63 32 address) ∷ []

abbrev pub bits_of : Entry → ℕ
bits_of e = fields_in (fields_with e e.target)

-- what a reader never gives is not written: a field too wide for its place, SVT 3, another delivery mode, an address that is
-- no multiple of 64
abbrev pub writable_target : Target → Bool
writable_target (Host logical hint level delivery destination) = nat_lt delivery 2 && nat_lt destination 256
writable_target (Posted urgent address) = address % 64 == 0

abbrev pub writable : Entry → Bool
writable e = nat_lt e.free 16 && (nat_lt e.sq 4 && (nat_lt e.svt 3 && writable_target e.target))

abbrev pub writes : Entry → Result RawEntry Fault
writes e = if writable e then Ok (record { bits = bits_of e }) else Err Unlawful

-- what writing an entry gives, as the bits themselves
abbrev pub WrittenAs : Entry → ℕ → Type 0
WrittenAs e x = (writable e ≡ true) × (bits_of e ≡ x)

-- into bytes: the length is asked first, and a refusal leaves them
abbrev pub writes_into : Entry → List ℕ → Result (Unit {0}) Fault
writes_into e bs = if length bs == 16 then (if writable e then Ok tt else Err Unlawful) else Err Length

abbrev pub layout_of : Entry → List ℕ
layout_of e = bytes_of 16 (bits_of e)

abbrev pub written : Entry → List ℕ → List ℕ
written e bs = if length bs == 16 then (if writable e then layout_of e else bs) else bs
