-- Arguments that are f64s and that document 01's checks accept.
use mathlib.Core.List.{List, Memᴰ}
use Rattle.std.specs.Prelude.{T}
use Rattle.motion.specs.declared.vessel.Vessel.{Vessel}
use Rattle.motion.specs.declared.vessel.Contact.{Contact}
use Rattle.motion.specs.Check.{is_direction, is_speed, is_distance}
use Rattle.relative_motion.specs.Sound.{HeldVessel, HeldContact}
use Rattle.clearance.specs.declared.contact.Target.{Target}

pub record FitVessel (v : Vessel) : Type 0 where
  pub held : HeldVessel v
  pub course : T (is_direction v.course)
  pub speed : T (is_speed v.speed)

pub record FitContact (c : Contact) : Type 0 where
  pub held : HeldContact c
  pub bearing : T (is_direction c.bearing)
  pub range : T (is_distance c.range)

pub record FitTarget (t : Target) : Type 0 where
  pub contact : FitContact t.contact
  pub vessel : FitVessel t.vessel

abbrev pub FitTargets : List Target → Type 0
FitTargets ts = (t : Target) → Memᴰ t ts → FitTarget t
