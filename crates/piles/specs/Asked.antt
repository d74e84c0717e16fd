-- What two visitors do to a sink: one posts a vector, one freezes the sink first; and a post to a descriptor in lent bytes.
use Rattle.std.specs.Prelude.{◌≡◌, ℕ, if◌then◌else◌, List, [], ◌∷◌, Result}
use Rattle.vectors.specs.declared.faults.Fault.{Fault}
use Rattle.vectors.specs.Sets.{usable}
use Rattle.sink.specs.declared.face.Placed.{Placed}
use Rattle.sink.specs.declared.face.Route.TheVariants.{Parked}
use Rattle.sink.specs.Meaning.{parks}
use Rattle.sink.specs.Ops.{Op, park, freeze}
use Rattle.descriptor.specs.Layout.{described}
use Rattle.descriptor.specs.Steps.{noted}

abbrev pub Posted : ℕ → List Op → Result Placed Fault → Type 0
Posted v os r = os ≡ park v r ∷ []

abbrev pub FrozenFirst : ℕ → List Op → Result Placed Fault → Type 0
FrozenFirst v os r = os ≡ freeze ∷ park v r ∷ []

-- the bytes before, the vector, the answer, and the bytes after: the bit of a usable vector is set, and every other bit is as it was
abbrev pub PostedInto : List ℕ → ℕ → Result Placed Fault → List ℕ → Type 0
PostedInto xs v r ys = (ys ≡ (if usable v then noted xs v else xs)) × (r ≡ parks (described xs) v Parked)
