-- On accepted arguments what is computed, from offsets, velocities and the courses' sines and cosines, is the definition.
use Rattle.std.specs.Option.{option_map, option_or}
use mathlib.Core.Path.{◌≡◌, refl, sym, ap, ◌∙◌, subst}
use mathlib.Core.Bool.{Bool, true, false}
use mathlib.Core.List.{List, map, Memᴰ}
use lib.Ieee.{Float}
use Rattle.laws.proofs.First.{agree}
use Rattle.motion.specs.Vessel.{resolved, velocity}
use Rattle.motion.specs.declared.units.Distance.{Distance}
use Rattle.motion.specs.declared.units.Speed.{Speed}
use Rattle.motion.specs.declared.vessel.Vessel.{Vessel}
use Rattle.motion.specs.declared.side.Side.{Side}
use Rattle.motion.specs.declared.side.Side.TheVariants.{Starboard, Port}
use Rattle.motion.specs.declared.side.BySide.{BySide}
use Rattle.std.specs.declared.option.Option.{Option}
use Rattle.manoeuvre.specs.Trials.{trials, Limits}
use Rattle.clearance.specs.declared.Clearance.{Clearance}
use Rattle.clearance.specs.declared.contact.Moving.{Moving}
use Rattle.clearance.specs.declared.contact.Target.{Target}
use Rattle.clearance.specs.Clearing.{altered, floor_of, moving}
use Rattle.avoidance.specs.Search.{tried, both, trial_clears_computed}
use Rattle.avoidance.specs.Fit.{FitVessel, FitTargets}
use Rattle.avoidance.proofs.Searched.{trial-small, same_trial}
use Rattle.slowing_search.specs.Computed.{course, courses, on_side, on_sides}
use Rattle.slowing_search.specs.Computed as Computed
use Rattle.slowing_search.specs.Slowing.{down_from, at_speed, pair_clears, with_speed, at_pair, fastest, choice, search}
use Rattle.slowing_search.proofs.Speeds.{part_of_member, slowed_fit}

-- ---- one pair: a velocity is the speed times the course's cosine and sine
module _ (own : Vessel) (floor : Float) (scene : List Moving) (m : Float) (s : Speed) where
  abbrev clears : Side → Float → Option Clearance
  clears = trial_clears_computed (at_speed own s) floor scene

  same_side : (permitted : Bool) (side : Side) → on_side floor scene side m (course own permitted side m) s ≡ tried permitted side m (clears side m)
  unfolding on_side trial_clears_computed altered velocity resolved
  same_side true side = refl
  same_side false side = refl

  same_sides : (sides : BySide Bool) → on_sides floor scene m (courses own sides m) s ≡ both sides clears m
  unfolding on_sides both
  same_sides sides =
      ap (λ o. option_or o (on_side floor scene Port m (course own sides.port Port m) s)) (same_side sides.starboard Starboard)
      ∙ ap (option_or (tried sides.starboard Starboard m (clears Starboard m))) (same_side sides.port Port)

same_both : (sides : BySide Bool) (f g : Side → Float → Option Clearance) (m : Float) → ((side : Side) → f side m ≡ g side m) → both sides f m ≡ both sides g m
unfolding both
same_both sides f g m h =
    ap (λ k. option_or (tried sides.starboard Starboard m k) (tried sides.port Port m (f Port m))) (h Starboard)
    ∙ ap (λ k. option_or (tried sides.starboard Starboard m (g Starboard m)) (tried sides.port Port m k)) (h Port)

-- ---- all pairs
module _ (own : Vessel) (ts : List Target) (desired : Distance) (o : FitVessel own) (f : FitTargets ts)
    (sides : BySide Bool) (least most : Float) (L : Limits least most) where
  same_pair : (m : Float) → Memᴰ m (trials least most) → (s : Speed) → Memᴰ s (down_from own.speed 8)
      → Computed.at_speed (floor_of desired) (map moving ts) m (courses own sides m) s ≡ at_pair sides (pair_clears own ts desired) m s
  unfolding at_pair pair_clears
  same_pair m t s j =
      let p = part_of_member own.speed 8 s j in
      let fit = subst (λ s. FitVessel (at_speed own s)) (sym p.3) (slowed_fit own p.0 p.2 o) in
      ap (option_map (with_speed s))
      (same_sides own (floor_of desired) (map moving ts) m s sides
      ∙ same_both sides _ _ m (λ side. same_trial (at_speed own s) ts desired fit f side m (trial-small least most L m t)))

  pub smallest_is : Computed.smallest own (floor_of desired) (map moving ts) sides (down_from own.speed 8) least most
      ≡ search own ts desired sides (down_from own.speed 8) least most
  unfolding Computed.smallest Computed.fastest search choice fastest
  smallest_is =
      agree _ _ (trials least most) (λ m t. agree _ _ (down_from own.speed 8) (same_pair m t))
