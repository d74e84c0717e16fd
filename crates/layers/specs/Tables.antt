-- A renaming table: 256 bytes; places 10h to FFh hold usable vectors, the others 0.
use Rattle.std.specs.Prelude.{◌≡◌, ℕ, ◌<◌, Bool, true, if◌then◌else◌, ◌&&◌, List, length, ◌==◌, slice_index}
use Rattle.std.specs.List.{list_all, enumerate_from}
use Rattle.vectors.specs.Sets.{usable}
use Rattle.layers.specs.declared.table.TableFault.{TableFault}
use Rattle.layers.specs.declared.table.TableFault.TheVariants.{NotATable}

-- may place v hold a name?
abbrev pub lawful_at : ℕ → ℕ → Bool
lawful_at v name = if usable v then usable name else name == 0

-- is each name lawful at its place?
abbrev pub lawful_names : List ℕ → Bool
lawful_names bs = list_all (λ p. lawful_at p.0 p.1) (enumerate_from 0 bs)

-- are bytes a table?
abbrev pub lawful_table : List ℕ → Bool
lawful_table bs = length bs == 256 && lawful_names bs

-- The law of a table: each place is lawful, so usable vectors have usable names.
abbrev pub IsTable : List ℕ → Type 0
IsTable bs = (v : ℕ) → v < 256 → lawful_at v (slice_index bs v) ≡ true

-- the refusal has one number
abbrev pub number : TableFault → ℕ
number NotATable = 0x07
