-- That an accepted contact's drift is the one computed, and finite. The Rust's `RateOfTurn` refuses
-- what is not finite, and 0 stands for it here (Risk.antt, `drift_of`): neither occurs.
use Rattle.std.specs.Prelude.{◌≡◌, T, Float}
use Rattle.std.specs.Float.Ieee.Scale.{finite}
use Rattle.laws.specs.Ops.{◌⊘◌}
use Rattle.math.specs.Convert.{to_degrees}
use Rattle.motion.specs.declared.units.RateOfTurn.{RateOfTurn}
use Rattle.motion.specs.declared.vessel.Vessel.{Vessel}
use Rattle.motion.specs.declared.vessel.Contact.{Contact}
use Rattle.motion.specs.Vessel.{offset, relative_velocity}
use Rattle.assessment.specs.Risk.{sixty, drift_per_hour, drift_of}

abbrev pub drift_by_hour : Vessel → Contact → Vessel → Float
drift_by_hour own contact target = drift_per_hour contact.range.0 (offset contact) (relative_velocity own target)

abbrev pub drift : Vessel → Contact → Vessel → RateOfTurn
drift own contact target = drift_of contact.range.0 (offset contact) (relative_velocity own target)

pub record FiniteDrift (own : Vessel) (contact : Contact) (target : Vessel) : Type 0 where
  pub per_hour : T (finite (drift_by_hour own contact target))
  pub per_minute : T (finite (to_degrees (drift_by_hour own contact target) ⊘ sixty))
  pub uncut : (drift own contact target).0 ≡ to_degrees (drift_by_hour own contact target) ⊘ sixty
