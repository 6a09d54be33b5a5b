-- On accepted arguments the choice that is computed is document 01's choice, by `closest_point_of_approach`: every trial is an alteration that fits, and the two ways to see whether one clears agree.
use Rattle.std.specs.Prelude.{None}
use mathlib.Core.Path.{◌≡◌, refl, sym, ap, ◌∙◌, subst}
use mathlib.Core.Bool.{Bool, true, false, cond}
use mathlib.Core.List.{List, map, Memᴰ}
use Prim.Native.Nat.{ℕ, ◌*◌, ◌^◌}
use lib.Dec.{T, lit≤}
use lib.IntN.{pos}
use lib.Ieee.{Float, binary64, lt, fits, of_bits, of_int}
use lib.Ieee.Fits.{add-fits}
use Rattle.laws.specs.Ops.{◌⊕◌}
use Rattle.laws.specs.Size.{Small}
use Rattle.laws.proofs.First.{agree}
use Rattle.laws.proofs.Order.{le_trans_float}
use Rattle.laws.proofs.Size.{small_of_tests, neg_small}
use Rattle.motion.specs.declared.units.Distance.{Distance}
use Rattle.motion.specs.declared.vessel.Vessel.{Vessel}
use Rattle.motion.specs.declared.side.Side.{Side}
use Rattle.motion.specs.declared.side.Side.TheVariants.{Starboard, Port}
use Rattle.manoeuvre.specs.Trials.{trial, trials, half_turn, Limits}
use Rattle.manoeuvre.proofs.Climbing.{is_trial_list}
use Rattle.manoeuvre.proofs.Listed.{entry, ascending}
use Rattle.clearance.specs.declared.contact.Target.{Target}
use Rattle.clearance.specs.declared.Clearance.{Clearance}
use Rattle.std.specs.declared.option.Option.{Option}
use Rattle.clearance.specs.Clearing.{floor_of, moving}
use Rattle.motion.specs.declared.side.BySide.{BySide}
use Rattle.avoidance.specs.Search.{signed, chosen, chosen_at, first, smaller, side_choice, choice, trial_clears, search, trial_clears_computed, smallest}
use Rattle.avoidance.specs.Fit.{FitVessel, FitTargets}
use Rattle.avoidance.proofs.Prepared.{same_clears}
use Rattle.avoidance.proofs.Smallest.{between_is_choice}

-- ---- the sizes of trials
module _ (least most : Float) (L : Limits least most) where
  trial-fits : (k : ℕ) → T (fits binary64 (trial least most k))
  unfolding trial
  trial-fits k = go (lt most (least ⊕ of_int binary64 (pos k)))
    where
      go : (b : Bool) → T (fits binary64 (cond b most (least ⊕ of_int binary64 (pos k))))
      go true = L.most_fits
      go false = add-fits binary64 least (of_int binary64 (pos k))

  pub trial-small : (m : Float) → Memᴰ m (trials least most) → Small 9 0 m
  trial-small m h =
      let o = entry least most m h in
      let l = is_trial_list least most L in
      subst (Small 9 0) (sym o.2) (small_of_tests (trial least most o.0) half_turn (180 * 2 ^ 1074) 9 (trial-fits o.0) (unfold of_bits in (refl, refl)) (lit≤ tt)
      (unfold of_bits in le_trans_float (of_bits binary64 0) least (trial least most o.0) L.not_negative (l.not_under o.0 o.1))
      (le_trans_float (trial least most o.0) most half_turn (l.not_over o.0 o.1) L.at_most))

pub signed-small : (side : Side) (m : Float) → Small 9 0 m → Small 9 0 (signed side m)
signed-small Starboard m s = s
signed-small Port m s = neg_small s

-- ---- two ways to clear that agree on the list choose alike
pub same_first : (f g : Float → Option Clearance) (side : Side) (ms : List Float) → ((m : Float) → Memᴰ m ms → f m ≡ g m) → first f side ms ≡ first g side ms
unfolding first
same_first f g side ms h = agree (chosen_at f side) (chosen_at g side) ms (λ m r. ap (chosen side m) (h m r))

same_side_lem : (permitted : Bool) (f g : Float → Option Clearance) (side : Side) (ms : List Float) → ((m : Float) → Memᴰ m ms → f m ≡ g m)
    → side_choice permitted f side ms ≡ side_choice permitted g side ms
unfolding side_choice
same_side_lem permitted f g side ms h = ap (λ c. cond permitted c None) (same_first f g side ms h)

pub same_choice : (sides : BySide Bool) (f g : Side → Float → Option Clearance) (ms : List Float) → ((side : Side) (m : Float) → Memᴰ m ms → f side m ≡ g side m) → choice sides f ms ≡ choice sides g ms
unfolding choice
same_choice sides f g ms h =
    ap (λ s. smaller s (side_choice sides.port (f Port) Port ms)) (same_side_lem sides.starboard (f Starboard) (g Starboard) Starboard ms (h Starboard))
    ∙ ap (smaller (side_choice sides.starboard (g Starboard) Starboard ms)) (same_side_lem sides.port (f Port) (g Port) Port ms (h Port))

-- ---- what is computed is what document 01 says
module _ (own : Vessel) (ts : List Target) (desired : Distance) (o : FitVessel own) (f : FitTargets ts) where
  pub same_trial : (side : Side) (m : Float) → Small 9 0 m → trial_clears_computed own (floor_of desired) (map moving ts) side m ≡ trial_clears own ts desired side m
  unfolding trial_clears_computed trial_clears
  same_trial side m s = sym (same_clears own (signed side m) ts desired o (signed-small side m s) f)

  pub smallest_is : (sides : BySide Bool) (least most : Float) → Limits least most → smallest own (floor_of desired) (map moving ts) sides least most ≡ search own ts desired sides least most
  unfolding smallest search
  smallest_is sides least most L =
      between_is_choice sides (trial_clears_computed own (floor_of desired) (map moving ts)) (trials least most) (ascending least most (is_trial_list least most L))
      ∙ same_choice sides (trial_clears_computed own (floor_of desired) (map moving ts)) (trial_clears own ts desired) (trials least most) (λ side m h. same_trial side m (trial-small least most L m h))
