-- How a sink lies in bytes. A store is what keeps a sink's parked vectors and its marks in bytes that it is lent.
use Rattle.std.specs.Prelude.{◌≡◌, ℕ, Bool, true, false, if◌then◌else◌, List, nat_lt}
use Rattle.vectors.specs.Sets.{usable}
use Rattle.sink.specs.declared.face.Aim.{Aim}
use Rattle.sink.specs.declared.face.Marks.{Marks}
use Rattle.sink.specs.declared.face.Route.TheVariants.{Parked}
use Rattle.sink.specs.Meaning.{Meaning, parks, heard, rings, draws}
use Rattle.sink.specs.Ops.{Op, park, bell, ack, set_quiet, set_aim, draw, freeze, thaw}

-- parked: the word of each group; marks: what the sink is set to
-- noted: the bytes with a vector parked; emptied: with the vectors of a group gone
-- with_rung, with_quiet, with_aim: with one mark set
pub record Form : Type 0 where
  pub parked : List ℕ → ℕ → ℕ
  pub marks : List ℕ → Marks
  pub noted : List ℕ → ℕ → List ℕ
  pub emptied : List ℕ → ℕ → List ℕ
  pub with_rung : List ℕ → Bool → List ℕ
  pub with_quiet : List ℕ → Bool → List ℕ
  pub with_aim : List ℕ → Aim → List ℕ

-- what the bytes mean: every vector has its own name
abbrev pub means : Form → List ℕ → Meaning
means F bs = record { parked = F.parked bs; rung = (F.marks bs).rung; quiet = (F.marks bs).quiet; aim = (F.marks bs).aim; naming = λ v. v }

-- What each operation answers, and which bytes it leaves. Every park that is accepted is answered as parked.
abbrev pub StoreDid : Form → List ℕ → Op → List ℕ → Type 0
StoreDid F bs (park v r) cs = (cs ≡ (if usable v then F.noted bs v else bs)) × (r ≡ parks (means F bs) v Parked)
StoreDid F bs (bell urgent r) cs = (cs ≡ (if heard (means F bs) urgent then F.with_rung bs true else bs)) × (r ≡ rings (means F bs) urgent)
StoreDid F bs ack cs = cs ≡ F.with_rung bs false
StoreDid F bs (set_quiet b) cs = cs ≡ F.with_quiet bs b
StoreDid F bs (set_aim a) cs = cs ≡ F.with_aim bs a
StoreDid F bs (draw g r) cs = (cs ≡ (if nat_lt g 4 then F.emptied bs g else bs)) × (r ≡ draws (means F bs) g)
StoreDid F bs freeze cs = cs ≡ bs
StoreDid F bs thaw cs = cs ≡ bs
