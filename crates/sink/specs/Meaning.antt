-- What a sink means, and what each call answers and leaves. A sink is what devices post interrupts into.
use Rattle.std.specs.Prelude.{◌≡◌, ℕ, Bool, true, false, if◌then◌else◌, not, ◌&&◌, ◌||◌, Some, None, Ok, Err, Option, Result, nat_lt}
use Rattle.vectors.specs.declared.faults.Fault.{Fault}
use Rattle.vectors.specs.declared.faults.Fault.TheVariants.{Unusable, NoGroup}
use Rattle.vectors.specs.Sets.{usable, in_words, blank, gained, cleared}
use Rattle.sink.specs.declared.face.Aim.{Aim}
use Rattle.sink.specs.declared.face.Aim.TheVariants.{Notification}
use Rattle.sink.specs.declared.face.Route.{Route}
use Rattle.sink.specs.declared.face.Route.TheVariants.{Parked, Through}
use Rattle.sink.specs.declared.face.Ring.{Ring}
use Rattle.sink.specs.declared.face.Placed.{Placed}
use Rattle.sink.specs.declared.face.Marks.{Marks}

-- parked: the vectors that wait in the sink, as the word of each group
-- rung: a bell has rung and was not acknowledged; quiet: only urgent bells ring; aim: what a ring sends
-- naming: the sink's name for each posted vector, which never changes
pub record Meaning : Type 0 where
  pub parked : ℕ → ℕ
  pub rung : Bool
  pub quiet : Bool
  pub aim : Aim
  pub naming : ℕ → ℕ

-- its marks, as code holds them
abbrev pub marks_of : Meaning → Marks
marks_of m = record { rung = m.rung; quiet = m.quiet; aim = m.aim }

-- is a vector parked?
abbrev pub is_parked : Meaning → ℕ → Bool
is_parked m = in_words m.parked

-- What is true of every sink: the naming takes usable vectors to usable ones, and parked vectors are usable.
abbrev pub Sound : Meaning → Type 0
Sound m = ((v : ℕ) → usable v ≡ true → usable (m.naming v) ≡ true) × ((v : ℕ) → is_parked m v ≡ true → usable v ≡ true)

-- An empty sink: nothing parked, not rung, not quiet, aimed at notification.
abbrev pub empty_sink : (ℕ → ℕ) → Meaning
empty_sink f = record { parked = blank; rung = false; quiet = false; aim = Notification; naming = f }

abbrev pub Empty : Meaning → Type 0
Empty m = m ≡ empty_sink m.naming

-- one field set
abbrev pub with_parked : Meaning → (ℕ → ℕ) → Meaning
with_parked m p = record m { parked = p }

abbrev pub with_rung : Meaning → Bool → Meaning
with_rung m b = record m { rung = b }

abbrev pub with_quiet : Meaning → Bool → Meaning
with_quiet m b = record m { quiet = b }

abbrev pub with_aim : Meaning → Aim → Meaning
with_aim m a = record m { aim = a }

-- park v: the vector by its name, parked (it joins the parked vectors) or through (they stay), as the sink chooses;
-- a vector below 10h is refused
abbrev pub route_of : Result Placed Fault → Route
route_of (Ok p) = p.route
route_of (Err f) = Parked

abbrev pub parks : Meaning → ℕ → Route → Result Placed Fault
parks m v r = if usable v then Ok (record { vector = m.naming v; route = r }) else Err Unusable

abbrev pub gains : Meaning → ℕ → Route → Meaning
gains m v Parked = with_parked m (gained m.parked (m.naming v))
gains m v Through = m

abbrev pub after_park : Meaning → ℕ → Route → Meaning
after_park m v r = if usable v then gains m v r else m

-- bell: it rings exactly if the sink is not rung and the bell is urgent or the sink not quiet; a ring answers the aim
abbrev pub hears : Marks → Bool → Bool
hears s urgent = not s.rung && (urgent || not s.quiet)

abbrev pub heard : Meaning → Bool → Bool
heard m = hears (marks_of m)

abbrev pub rings : Meaning → Bool → Option Ring
rings m urgent = if heard m urgent then Some (record { aim = m.aim }) else None

abbrev pub after_bell : Meaning → Bool → Meaning
after_bell m urgent = if heard m urgent then with_rung m true else m

-- draw and look: the word of a group; a draw takes its vectors out; a group above 3 is refused
abbrev pub draws : Meaning → ℕ → Result ℕ Fault
draws m g = if nat_lt g 4 then Ok (m.parked g) else Err NoGroup

abbrev pub after_draw : Meaning → ℕ → Meaning
after_draw m g = if nat_lt g 4 then with_parked m (cleared m.parked g) else m

-- the name of a vector; refused as for park
abbrev pub names : Meaning → ℕ → Result ℕ Fault
names m v = if usable v then Ok (m.naming v) else Err Unusable
