-- What the code of the fit owes: its branches, and what is promised of any answer.
use Rattle.std.specs.Prelude.{None, Some, Ok, Err}
use mathlib.Core.Path.{◌≡◌}
use mathlib.Core.Bool.{Bool, true, false, not, ◌||◌}
use mathlib.Core.List.{List}
use lib.Ieee.{Float, lt, le}
use lib.Ieee.Scale.{finite}
use Rattle.elementary.specs.declared.error.Refusal.TheVariants as Why
use Rattle.motion.specs.declared.vessel.Components.{Components}
use Rattle.motion.specs.Check.{zero, fastest}
use Rattle.motion.specs.Vessel.{size, from_velocity}
use Rattle.track.specs.declared.window.Fix.{Fix}
use Rattle.track.specs.Fit.{at_speed, fitted, spread, knots}

-- speed 0 and no number are no motion
module _ (v : Components) (speed : Float) (f : Bool) (is : speed ≡ size v) (number : f ≡ finite speed) where
  pub no_motion : not f || le speed zero ≡ true → Ok None ≡ at_speed v
  unfolding at_speed
  no_motion h = cc

  pub too_fast : not f || le speed zero ≡ false → lt fastest speed ≡ true → Err Why.Speed ≡ at_speed v
  unfolding at_speed
  too_fast h k = cc

  pub moving : not f || le speed zero ≡ false → lt fastest speed ≡ false → Ok (Some (from_velocity v)) ≡ at_speed v
  unfolding at_speed
  moving h k = cc

-- times that are not spread fit nothing
module _ (last : Fix) (fs : List Fix) (s : Float) (f : Bool) (is : s ≡ spread last fs) (number : f ≡ finite s) where
  pub no_fit : le s zero || not f ≡ true → None ≡ fitted last fs
  unfolding fitted
  no_fit h = cc

  pub some_fit : le s zero || not f ≡ false → Some (knots last fs) ≡ fitted last fs
  unfolding fitted
  some_fit h = cc
