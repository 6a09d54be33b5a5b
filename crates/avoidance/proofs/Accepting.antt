-- What it means that checks accept: joined lists, a vessel, and the limits of the trials.
use mathlib.Core.List.{List, [], ◌∷◌, ◌++◌}
use lib.Dec.{T}
use lib.Ieee.{binary64, le, fits}
use lib.Ieee.Fits.{and_l, and_r}
use Rattle.elementary.specs.Range.{in_range}
use Rattle.motion.specs.declared.vessel.Vessel.{Vessel}
use Rattle.motion.specs.Check.{Check, zero, vessel_checks}
use Rattle.manoeuvre.specs.declared.constraints.ManoeuvreConstraints.{ManoeuvreConstraints}
use Rattle.manoeuvre.specs.Constraints.{reversal, alteration_checks, rate_checks, constraint_checks}
use Rattle.manoeuvre.specs.Trials.{Limits}
use Rattle.relative_motion.specs.Sound.{HeldVessel, AllGood}
use Rattle.avoidance.specs.Fit.{FitVessel}

pub good_front : (a b : List Check) → AllGood (a ++ b) → AllGood a
good_front [] b g = tt
good_front (c ∷ a) b g = (g.0, good_front a b g.1)

pub good_back : (a b : List Check) → AllGood (a ++ b) → AllGood b
good_back [] b g = g
good_back (c ∷ a) b g = good_back a b g.1

pub good_both : (a b : List Check) → AllGood a → AllGood b → AllGood (a ++ b)
good_both [] b g h = h
good_both (c ∷ a) b g h = (g.0, good_both a b g.1 h)

pub vessel_fit : (v : Vessel) → HeldVessel v → AllGood (vessel_checks v) → FitVessel v
vessel_fit v h g = record { held = h; course = g.0; speed = g.1.0 }

module _ (c : ManoeuvreConstraints) where
  limits_good : AllGood (constraint_checks c) → AllGood (alteration_checks c.least_alteration c.most_alteration)
  unfolding constraint_checks
  limits_good g = good_front (alteration_checks c.least_alteration c.most_alteration) (rate_checks c.rate_of_turn) g

  pub limits_fit : T (fits binary64 c.least_alteration.0) → T (fits binary64 c.most_alteration.0) → AllGood (constraint_checks c) → Limits c.least_alteration.0 c.most_alteration.0
  unfolding in_range
  limits_fit l m g =
      let a = limits_good g in
      record {
        least_fits = l;
        most_fits = m;
        not_negative = and_l (le zero c.least_alteration.0) (le c.least_alteration.0 reversal) a.0;
        ordered = and_l (le c.least_alteration.0 c.most_alteration.0) (le c.most_alteration.0 reversal) a.1.0;
        at_most = and_r (le c.least_alteration.0 c.most_alteration.0) (le c.most_alteration.0 reversal) a.1.0;
      }
