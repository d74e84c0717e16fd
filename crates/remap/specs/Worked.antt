-- Worked examples of messages, entries and sources, all settled by one computation.
use Rattle.std.specs.Prelude.{◌≡◌, ℕ, ◌+◌, ◌*◌, ◌^◌, true, false, List, [], ◌∷◌, map, Ok, Err, Result}
use Rattle.packed.specs.Packed.{bytes_of}
use Rattle.entry.specs.declared.faults.Fault as entries
use Rattle.entry.specs.declared.format.Entry.{Entry}
use Rattle.entry.specs.declared.format.Target.TheVariants as target
use Rattle.entry.specs.Layout.{reads}
use Rattle.remap.specs.declared.faults.Fault.{Fault}
use Rattle.remap.specs.declared.faults.Fault.TheVariants.{Source}
use Rattle.remap.specs.declared.resolve.Resolved.{Resolved}
use Rattle.remap.specs.declared.resolve.Resolved.TheVariants.{Posted}
use Rattle.remap.specs.Messages.{index_of}
use Rattle.remap.specs.Resolution.{resolves}

-- what is asked: for the index of a message, for an entry, or for what an index asks for
pub data Answer : Type 0 where
  index : Result ℕ Fault → Answer
  entry : Result Entry entries.Fault → Answer
  asks : Result Resolved Fault → Answer

abbrev pub halves : ℕ → ℕ → ℕ
halves low high = low + high * 2 ^ 64

-- the answer that the definitions give, and the one that is expected
abbrev pub examples : List (Answer × Answer)
examples =
    -- FEE00014h with data 0 is index 8000h, FEE00018h with data 2 is index 2
    (index (index_of (record { address = 0xFEE00014; «data» = 0 })), index (Ok 0x8000))
    ∷ (index (index_of (record { address = 0xFEE00018; «data» = 2 })), index (Ok 2))
    -- a posted entry: vector 41h, address 1000h, SID 0100h, SVT 1, SQ 0
    ∷ (
      entry (reads (halves 0x0000100000418001 0x0000000000040100)),
      entry (Ok (record {
        present = true;
        fpd = false;
        free = 0;
        vector = 0x41;
        sid = 0x0100;
        sq = 0;
        svt = 1;
        target = target.Posted false 0x1000;
      })),
    )
    -- the same with SQ 1: source 0104h passes, 0102h does not
    ∷ (asks (resolves (bytes_of 16 (halves 0x0000100000418001 0x0000000000050100)) 0x1000 0x0104 0), asks (Ok (Posted 0x41 false)))
    ∷ (asks (resolves (bytes_of 16 (halves 0x0000100000418001 0x0000000000050100)) 0x1000 0x0102 0), asks (Err Source))
    ∷ []

abbrev pub Settled : Type 0
Settled = map (λ (e : Answer × Answer). e.0) examples ≡ map (λ (e : Answer × Answer). e.1) examples
