-- Arguments that are f64s, as all that a caller can hand over are.
use mathlib.Core.List.{List, Memᴰ}
use Rattle.std.specs.Prelude.{T}
use Rattle.std.specs.Float.{binary64}
use Rattle.std.specs.Float.Ieee.{fits}
use Rattle.relative_motion.specs.Sound.{HeldVessel}
use Rattle.situation.specs.declared.party.Party.{Party}
use Rattle.manoeuvre.specs.declared.constraints.ManoeuvreConstraints.{ManoeuvreConstraints}
use Rattle.clearance.specs.declared.traffic.Entry.{Entry}
pub use Rattle.clearance.specs.Traffic.{HeldEntry}

pub record HeldArguments (own : Party) (entries : List Entry) (c : ManoeuvreConstraints) : Type 0 where
  pub vessel : HeldVessel own.motion
  pub each : (e : Entry) → Memᴰ e entries → HeldEntry e
  pub least : T (fits binary64 c.least_alteration.0)
  pub most : T (fits binary64 c.most_alteration.0)
