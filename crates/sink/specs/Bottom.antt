-- The direct bottom: every park goes through; its marks are its field.
use Rattle.std.specs.Prelude.{◌≡◌, true, false, if◌then◌else◌}
use Rattle.vectors.specs.Sets.{blank}
use Rattle.sink.specs.declared.face.Route.TheVariants.{Through}
use Rattle.sink.specs.declared.direct.Direct.{Direct}
use Rattle.sink.specs.Meaning.{Meaning, parks, heard, rings, draws}
use Rattle.sink.specs.Ops.{Op, park, bell, ack, set_quiet, set_aim, draw, freeze, thaw}

abbrev pub direct : Direct → Meaning
direct d = record { parked = blank; rung = d.marks.rung; quiet = d.marks.quiet; aim = d.marks.aim; naming = λ v. v }

-- what each operation answers and which mark it changes; the others stay
abbrev pub DirectDid : Direct → Op → Direct → Type 0
DirectDid s (park v r) t = (t ≡ s) × (r ≡ parks (direct s) v Through)
DirectDid s (bell urgent r) t = (t ≡ (if heard (direct s) urgent then record { marks = record s.marks { rung = true } } else s)) × (r ≡ rings (direct s) urgent)
DirectDid s ack t = t ≡ record { marks = record s.marks { rung = false } }
DirectDid s (set_quiet b) t = t ≡ record { marks = record s.marks { quiet = b } }
DirectDid s (set_aim a) t = t ≡ record { marks = record s.marks { aim = a } }
DirectDid s (draw g r) t = (t ≡ s) × (r ≡ draws (direct s) g)
DirectDid s freeze t = t ≡ s
DirectDid s thaw t = t ≡ s
