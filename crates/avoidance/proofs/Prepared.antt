-- On accepted arguments what is computed from offsets and velocities is the plain definition, and no passing distance is NaN.
use Rattle.std.specs.Prelude.{None, Some, Err, Ok}
use mathlib.Core.Path.{◌≡◌, refl, sym, ap, ◌∙◌, subst}
use mathlib.Core.Bool.{Bool, true, false, not, cond}
use mathlib.Core.List.Memᴰ
use mathlib.Core.List.{List, [], ◌∷◌, map, map-map}
use lib.Dec.{T, lit≤, lit<}
use lib.Ieee.{Float, nan, inf, fin, lt, le, is_nan}
use lib.Ieee.Bits.{is_true}
use lib.Ieee.Fits.{and_i}
use lib.Ieee.Scale.{finite}
use Rattle.laws.specs.Ops.{◌⊕◌}
use Rattle.laws.specs.Size.{Small}
use Rattle.laws.proofs.Members.{map_agree}
use Rattle.laws.proofs.Size.{add_small}
use Rattle.math.specs.Fold.{whole_fold}
use Rattle.math.proofs.Range.{whole_fold_range, whole_fold-fits}
use Rattle.motion.specs.Check as Check
use Rattle.motion.specs.Check.{verdict, is_direction, encounter_checks}
use Rattle.std.specs.declared.result.Result.{Result}
use Rattle.elementary.specs.declared.error.Refusal.{Refusal}
use Rattle.motion.specs.declared.units.Distance.{Distance}
use Rattle.motion.specs.declared.vessel.Vessel.{Vessel}
use Rattle.motion.specs.declared.vessel.Components.{Components}
use Rattle.motion.specs.Vessel.{velocity, direction_of, offset, relative_velocity}
use Rattle.relative_motion.specs.declared.approach.Cpa.{Cpa}
use Rattle.relative_motion.specs.declared.approach.Track.{Track}
use Rattle.relative_motion.specs.declared.approach.Track.TheVariants.{Closing, Opening, Stationary}
use Rattle.relative_motion.specs.Approach.{stationary_knots, relative_speed, closing_rate, time_of, time_to_go, closest, approach_from, approach, distance_alone, cpa_if_accepted, cpa_answer}
use Rattle.roots.specs.Hypot.{hypot}
use Rattle.relative_motion.specs.Sound.{AllGood, FiniteCpa}
use Rattle.relative_motion.proofs.Sizes.{Sized, sized, direction_small}
use Rattle.relative_motion.proofs.Finite.{not-closing, cpa_finite}
use Rattle.clearance.specs.declared.contact.Target.{Target}
use Rattle.clearance.specs.Clearing.{altered, floor_of, cleared, cleared_answer, contact_clears, clearing, clears, moving, contact_clears_computed, clears_computed}
use Rattle.avoidance.specs.Closest.{Real}
use Rattle.avoidance.specs.Fit.{FitVessel, FitTarget, FitTargets}
use Rattle.avoidance.proofs.Clearances.{not_blocked, at}

-- ---- the checks accept what is good
pub accepted : (cs : List Check.Check) → AllGood cs → verdict cs (Ok tt) ≡ (Ok tt)
unfolding verdict
accepted [] g = refl
accepted (c ∷ cs) g = ap (λ b. cond b (verdict cs (Ok tt)) (Err c.why)) (is_true c.good g.0) ∙ accepted cs g.1

-- ---- own craft altered
pub altered_fit : (own : Vessel) (a : Float) → FitVessel own → Small 9 0 a → FitVessel (altered own a)
unfolding altered is_direction
altered_fit own a o s =
    let sum = add_small {p = 9} {q = 0} (lit≤ tt) (lit< tt) (direction_small own.course o.held.course o.course) s in
    let r = whole_fold_range (own.course.0 ⊕ a) sum.number in
    record {
      held = record { course = whole_fold-fits (own.course.0 ⊕ a) sum.held; speed = o.held.speed };
      course = and_i (le Check.zero (whole_fold (own.course.0 ⊕ a))) (lt (whole_fold (own.course.0 ⊕ a)) Check.full_turn) r.at_least r.below;
      speed = o.speed;
    }

-- ---- one contact
module _ (own : Vessel) (floor : Float) (t : Target) (o : FitVessel own) (f : FitTarget t) where
  good : AllGood (encounter_checks own t.contact t.vessel)
  unfolding encounter_checks
  good = (o.course, (o.speed, (f.contact.bearing, (f.contact.range, (f.vessel.course, (f.vessel.speed, tt))))))

  abbrev position : Components
  position = offset t.contact

  abbrev relative : Components
  relative = relative_velocity own t.vessel

  parts : Sized position relative
  parts = sized own t.contact t.vessel o.held f.contact.held f.vessel.held o.course o.speed f.contact.bearing f.contact.range f.vessel.course f.vessel.speed

  plain : contact_clears own floor t ≡ cleared floor (distance_alone (approach_from t.contact.range position relative))
  unfolding contact_clears cpa_answer approach
  plain = ap (λ v. cleared_answer floor (cpa_if_accepted v (approach_from t.contact.range position relative))) (accepted (encounter_checks own t.contact t.vessel) good)

  abbrev point : Components
  point = closest position relative

  abbrev ahead : Track Cpa
  ahead = Closing (record { distance = record { 0 = hypot point.north point.east }; time_to_go = time_to_go (time_of position relative); bearing = direction_of point })

  -- a contact that does not close passes at its range
  at_range : le Check.zero (closing_rate position relative) ≡ true → cleared floor (distance_alone (approach_from t.contact.range position relative)) ≡ Some t.contact.range
  unfolding approach_from
  at_range h = go (lt (relative_speed relative) stationary_knots) refl
    where
      go : (b : Bool) → lt (relative_speed relative) stationary_knots ≡ b
          → cleared floor (distance_alone (cond b (Stationary t.contact.range) (cond (le (time_of position relative) Check.zero) (Opening t.contact.range) ahead))) ≡ Some t.contact.range
      go true m = refl
      go false m = ap (λ c. cleared floor (distance_alone (cond c (Opening t.contact.range) ahead))) (not-closing position relative parts m h)

  pub same_clearance : contact_clears own floor t ≡ contact_clears_computed (velocity own) floor (moving t)
  unfolding contact_clears_computed moving relative_velocity
  same_clearance = plain ∙ go (le Check.zero (closing_rate position relative)) refl
    where
      go : (b : Bool) → le Check.zero (closing_rate position relative) ≡ b → cleared floor (distance_alone (approach_from t.contact.range position relative))
          ≡ cond b (Some t.contact.range) (cleared floor (distance_alone (approach_from t.contact.range position relative)))
      go true h = at_range h
      go false h = refl

  -- the distance at which it passes is finite
  distances : (d : Distance) → contact_clears own floor t ≡ Some d → T (finite d.0)
  unfolding contact_clears
  distances d e = go (cpa_answer own t.contact t.vessel) (cpa_finite own t.contact t.vessel o.held f.contact.held f.vessel.held) e
    where
      take : (x : Distance) → Some x ≡ Some d → T (finite x.0) → T (finite d.0)
      take x e k = subst (λ y. T (finite y.0)) (ap (at d) e) k

      closing : (x : Distance) (b : Bool) → cond b None (Some x) ≡ Some d → T (finite x.0) → T (finite d.0)
      closing x true e k = absurd (not_blocked d e)
      closing x false e k = take x e k

      go : (c : Result (Track Cpa) Refusal) → FiniteCpa c → cleared_answer floor c ≡ Some d → T (finite d.0)
      go (Ok (Closing cpa)) k e = closing cpa.distance (lt cpa.distance.0 floor) e k.0
      go (Ok (Opening range)) k e = take range e k
      go (Ok (Stationary range)) k e = take range e k
      go (Err why) k e = absurd (not_blocked d e)

pub no_nan : (x : Float) → T (finite x) → T (not (is_nan x))
unfolding is_nan
no_nan nan f = absurd f
no_nan (inf s) f = tt
no_nan (fin s m e) f = tt

-- ---- all contacts
module _ (own : Vessel) (o : FitVessel own) (ts : List Target) (f : FitTargets ts) where
  pub real : (floor : Float) → Real (map (contact_clears own floor) ts)
  real floor d m = let u = Memᴰ.of_map (contact_clears own floor) ts m in no_nan d.0 (distances own floor u.0 o (f u.0 u.1) d u.2)

  pub same_clearances : (floor : Float) → map (contact_clears own floor) ts ≡ map (contact_clears_computed (velocity own) floor) (map moving ts)
  same_clearances floor = map_agree (contact_clears own floor) (λ t. contact_clears_computed (velocity own) floor (moving t)) ts (λ t m. same_clearance own floor t o (f t m))
      ∙ sym (map-map (contact_clears_computed (velocity own) floor) moving ts)

pub same_clears : (own : Vessel) (a : Float) (ts : List Target) (desired : Distance) → FitVessel own → Small 9 0 a → FitTargets ts
    → clears own a ts desired ≡ clears_computed (velocity (altered own a)) (floor_of desired) (map moving ts)
unfolding clears clears_computed
same_clears own a ts desired o s f = ap clearing (same_clearances (altered own a) (altered_fit own a o s) ts f (floor_of desired))
