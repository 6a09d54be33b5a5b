-- Figures that are f64s, as all are that a caller can hand over.
use Rattle.std.specs.Prelude.{T}
use Rattle.std.specs.Float.{binary64}
use Rattle.std.specs.Float.Ieee.{fits}
use Rattle.motion.specs.declared.vessel.Vessel.{Vessel}
use Rattle.motion.specs.declared.vessel.Contact.{Contact}

pub record HeldVessel (v : Vessel) : Type 0 where
  pub course : T (fits binary64 v.course.0)
  pub speed : T (fits binary64 v.speed.0)

pub record HeldContact (c : Contact) : Type 0 where
  pub bearing : T (fits binary64 c.bearing.0)
  pub range : T (fits binary64 c.range.0)
