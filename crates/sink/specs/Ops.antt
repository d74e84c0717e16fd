-- What can be done to a sink: each operation with its answer, and operations one after another.
-- Questions and looks change nothing and are left out.
use Rattle.std.specs.Prelude.{◌≡◌, ℕ, Bool, List, [], ◌∷◌, ◌++◌, Option, Result}
use Rattle.vectors.specs.declared.faults.Fault.{Fault}
use Rattle.sink.specs.declared.face.Aim.{Aim}
use Rattle.sink.specs.declared.face.Ring.{Ring}
use Rattle.sink.specs.declared.face.Placed.{Placed}

pub data Op : Type 0 where
  park : ℕ → Result Placed Fault → Op
  bell : Bool → Option Ring → Op
  ack : Op
  set_quiet : Bool → Op
  set_aim : Aim → Op
  draw : ℕ → Result ℕ Fault → Op
  freeze : Op
  thaw : Op

-- R x o y says that operation o leads from state x to state y; a chain is operations one after another
pub data Chain {X : Type 0} (R : X → Op → X → Type 0) : X → List Op → X → Type 0 where
  none : {x : X} → Chain R x [] x
  more : {x y z : X} {o : Op} {os : List Op} → R x o y → Chain R y os z → Chain R x (o ∷ os) z

-- A sink that does nothing but record what is done to it. A layer over it shows what reaches the sink below.
abbrev pub Records : List Op → Op → List Op → Type 0
Records xs o ys = ys ≡ xs ++ o ∷ []
