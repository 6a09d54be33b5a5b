-- On accepted arguments what is computed is the plain definition: a seed that is not above most is an alteration that fits, as every trial is.
use Rattle.std.specs.Prelude.{None, Some, Err, Ok}
use Rattle.std.specs.Option.{option_or}
use mathlib.Core.Path.{◌≡◌, refl, sym, ap, ◌∙◌, subst}
use mathlib.Core.Bool.{Bool, true, false, cond}
use mathlib.Core.List.Memᴰ
use mathlib.Core.List.{[], ◌∷◌, ◌++◌}
use mathlib.Core.Logic.{⊎_elim}
use Prim.Native.Nat.{ℕ, ◌*◌, ◌^◌, ◌≤◌}
use native.Mathlib.Omega.{arith}
use lib.IntN.{pos}
use lib.Dec.{T, lit≤}
use lib.Ieee.{Float, fin, binary64, lt, le, fits, of_bits}
use lib.Ieee.Scale.{finite}
use lib.Ieee.Fits.{sub-fits}
use Rattle.laws.specs.Ops.{◌⊖◌}
use Rattle.laws.specs.Size.{Small}
use Rattle.laws.specs.Units.{sign, units_of}
use Rattle.laws.proofs.Bools.{holds, test_of_le}
use Rattle.laws.proofs.Compare.{le-units}
use Rattle.laws.proofs.Order.{le_trans_float}
use Rattle.laws.proofs.Size.{small_of_tests}
use Rattle.laws.proofs.Units.{own_units}
use Rattle.math.specs.Sign.{abs}
use Rattle.math.specs.Test.{larger}
use Rattle.math.proofs.Sign.{abs-fits, abs-units, at_most_size}
use Rattle.math.specs.Fold.{half_turn, full_turn, whole_fold, half_fold}
use Rattle.math.proofs.Range.{whole_fold-fits}
use Rattle.elementary.specs.declared.error.Refusal.{Refusal}
use Rattle.motion.specs.declared.units.Direction.{Direction}
use Rattle.motion.specs.declared.units.Distance.{Distance}
use Rattle.motion.specs.declared.vessel.Vessel.{Vessel}
use Rattle.motion.specs.declared.vessel.Contact.{Contact}
use Rattle.avoidance.specs.declared.search.Chosen.{Chosen}
use Rattle.clearance.specs.declared.Clearance.{Clearance}
use Rattle.std.specs.declared.option.Option.{Option}
use Rattle.std.specs.declared.result.Result.{Result}
use Rattle.manoeuvre.specs.declared.AvoidanceManoeuvre.{AvoidanceManoeuvre}
use Rattle.motion.specs.Check as Check
use Rattle.motion.specs.Check.{verdict, encounter_checks, distance_checks}
use Rattle.motion.specs.declared.side.BySide.{BySide}
use Rattle.relative_motion.specs.Course.{course_answer}
use Rattle.motion.specs.declared.side.Side.{Side}
use Rattle.motion.specs.declared.side.Side.TheVariants.{Starboard, Port}
use Rattle.manoeuvre.specs.declared.constraints.ManoeuvreConstraints.{ManoeuvreConstraints}
use Rattle.manoeuvre.specs.Constraints.{permits_starboard, permits_port, constraint_checks}
use Rattle.manoeuvre.specs.Trials.{trials, Limits}
use Rattle.clearance.specs.Clearing.{floor_of, moving}
use Rattle.avoidance.specs.Search.{signed, chosen, first, smaller, trial_clears, trial_clears_computed}
use Rattle.relative_motion.specs.Sound.{HeldVessel, HeldContact, AllGood}
use Rattle.relative_motion.proofs.Sizes.{all_good}
use Rattle.avoidance.specs.Fit.{FitVessel, FitTarget, FitTargets}
use Rattle.avoidance.proofs.Accepting.{good_front, good_back, limits_fit}
use Rattle.avoidance.proofs.Searched.{trial-small, same_first, same_trial}
use Rattle.avoidance.specs.Avoid.{courses_or_none, raised, seed, optional_seed, seed_choice, seeded_side, seeded_choice, answered, target_of, avoided, avoided_computed, avoid_checks, avoid_if_accepted, avoid_answer}

-- ---- the size of a seed
half_fold-fits : (x : Float) → T (fits binary64 x) → T (fits binary64 (half_fold x))
unfolding half_fold
half_fold-fits x t = go (lt half_turn (whole_fold x))
  where
    go : (b : Bool) → T (fits binary64 (cond b (whole_fold x ⊖ full_turn) (whole_fold x)))
    go true = sub-fits binary64 (whole_fold x) full_turn
    go false = whole_fold-fits x t

size_small : (a : Float) → T (fits binary64 a) → T (le (abs a) half_turn) → Small 9 0 (abs a)
size_small a t h =
    let o = at_most_size a half_turn (180 * 2 ^ 1074) t (unfold of_bits in (refl, refl)) h in
    small_of_tests (abs a) half_turn (180 * 2 ^ 1074) 9 (abs-fits a t) (unfold of_bits in (refl, refl)) (lit≤ tt) (not_negative o.0) h
  where
    none_less : (n : ℕ) → 0 ≤ n
    none_less n = omega arith

    not_negative : T (finite a) → T (le (fin false 0 (pos 0)) (abs a))
    not_negative f = subst T (sym (le-units (fin false 0 (pos 0)) (abs a) 0 (units_of a) (refl, refl) (abs-units a (sign a) (units_of a) (own_units a t f))))
        (test_of_le 0 (units_of a) (none_less (units_of a)))

module _ (least most : Float) (L : Limits least most) where
  least-small : Small 9 0 least
  least-small = small_of_tests least half_turn (180 * 2 ^ 1074) 9 L.least_fits (unfold of_bits in (refl, refl)) (lit≤ tt) (unfold of_bits in L.not_negative)
      (le_trans_float least most half_turn L.ordered L.at_most)

  raised-small : (a : Float) → T (fits binary64 a) → T (le (raised least (abs a)) most) → Small 9 0 (raised least (abs a))
  unfolding larger
  raised-small a t h = go (lt (abs a) least) h
    where
      go : (b : Bool) → T (le (cond b least (abs a)) most) → Small 9 0 (cond b least (abs a))
      go true h = least-small
      go false h = size_small a t (le_trans_float (abs a) most half_turn h L.at_most)

  -- ---- the choices agree
  module _ (f g : Float → Option Clearance) (same : (m : Float) → Small 9 0 m → f m ≡ g m) (side : Side) where
    same_seed : (a : Float) → T (fits binary64 a) → seed_choice f side most (seed side least a) ≡ seed_choice g side most (seed side least a)
    unfolding seed
    same_seed a t = go (lt Check.zero (signed side a))
      where
        at : (b : Bool) → le (raised least (abs a)) most ≡ b → cond b (chosen side (raised least (abs a)) (f (raised least (abs a)))) None
            ≡ cond b (chosen side (raised least (abs a)) (g (raised least (abs a)))) None
        at true e = ap (chosen side (raised least (abs a))) (same (raised least (abs a)) (raised-small a t (holds e)))
        at false e = refl

        go : (b : Bool) → seed_choice f side most (cond b (Some (raised least (abs a))) None) ≡ seed_choice g side most (cond b (Some (raised least (abs a))) None)
        go true = at (le (raised least (abs a)) most) refl
        go false = refl

    same_side_lem : (permitted : Bool) (own : Direction) (a : Option Direction)
        → seeded_side permitted f side most (optional_seed own side least a) (trials least most) ≡ seeded_side permitted g side most (optional_seed own side least a) (trials least most)
    unfolding seeded_side
    same_side_lem permitted own a =
        ap (λ s. cond permitted (option_or s (first f side (trials least most))) None) (seeds a)
        ∙ ap (λ k. cond permitted (option_or (seed_choice g side most (optional_seed own side least a)) k) None) (same_first f g side (trials least most) (λ m h. same m (trial-small least most L m h)))
      where
        seeds : (a : Option Direction) → seed_choice f side most (optional_seed own side least a) ≡ seed_choice g side most (optional_seed own side least a)
        seeds None = refl
        seeds (Some course) = same_seed (half_fold (course.0 ⊖ own.0)) (half_fold-fits (course.0 ⊖ own.0) (sub-fits binary64 course.0 own.0))

same_seeded : (own : Vessel) (f g : Side → Float → Option Clearance) (courses : BySide (Option Direction)) (c : ManoeuvreConstraints)
    → Limits c.least_alteration.0 c.most_alteration.0 → ((side : Side) (m : Float) → Small 9 0 m → f side m ≡ g side m) → seeded_choice own f courses c ≡ seeded_choice own g courses c
unfolding seeded_choice
same_seeded own f g courses c L same =
    ap (λ s. smaller s (side f Port (permits_port c.sides) courses.port))
    (same_side_lem least most L (f Starboard) (g Starboard) (same Starboard) Starboard (permits_starboard c.sides) own.course courses.starboard)
    ∙ ap (smaller (side g Starboard (permits_starboard c.sides) courses.starboard)) (same_side_lem least most L (f Port) (g Port) (same Port) Port (permits_port c.sides) own.course courses.port)
  where
    least : Float
    least = c.least_alteration.0

    most : Float
    most = c.most_alteration.0

    side : (Side → Float → Option Clearance) → Side → Bool → Option Direction → Option Chosen
    side k s b a = seeded_side b (k s) s most (optional_seed own.course s least a) (trials least most)

-- ---- the answer
pub record HeldEncounter (own : Vessel) (contact : Contact) (target : Vessel) (c : ManoeuvreConstraints) : Type 0 where
  pub vessel : HeldVessel own
  pub seen : HeldContact contact
  pub other : HeldVessel target
  pub least : T (fits binary64 c.least_alteration.0)
  pub most : T (fits binary64 c.most_alteration.0)

module _ (own : Vessel) (contact : Contact) (target : Vessel) (desired : Distance) (c : ManoeuvreConstraints) (k : HeldEncounter own contact target c)
    (w : Result (Unit {0}) Refusal) (is : w ≡ verdict (avoid_checks own contact target desired c) (Ok tt)) where
  same : w ≡ (Ok tt) → avoided_computed own contact target desired c ≡ avoided own contact target desired c
  unfolding avoided_computed avoided avoid_checks encounter_checks
  same e = ap (answered own c) (same_seeded own (trial_clears_computed own (floor_of desired) (moving (target_of contact target) ∷ []))
      (trial_clears own (target_of contact target ∷ []) desired) (courses_or_none (course_answer own contact target desired)) c limits
      (λ side m s. same_trial own (target_of contact target ∷ []) desired own_fit targets side m s))
    where
      good : AllGood (avoid_checks own contact target desired c)
      good = all_good (avoid_checks own contact target desired c) (sym is ∙ e)

      split : AllGood (encounter_checks own contact target ++ (distance_checks desired ++ constraint_checks c))
      split = good

      pair : AllGood (encounter_checks own contact target)
      pair = good_front (encounter_checks own contact target) (distance_checks desired ++ constraint_checks c) split

      own_fit : FitVessel own
      own_fit = record { held = k.vessel; course = pair.0; speed = pair.1.0 }

      target_fit : FitTarget (target_of contact target)
      target_fit = record {
        contact = record { held = k.seen; bearing = pair.1.1.0; range = pair.1.1.1.0 };
        vessel = record { held = k.other; course = pair.1.1.1.1.0; speed = pair.1.1.1.1.1.0 };
      }

      targets : FitTargets (target_of contact target ∷ [])
      targets t m = ⊎_elim (λ e. subst FitTarget (sym e) target_fit) (λ n. absurd (Memᴰ.not-nil n)) (Memᴰ.cases_cons m)

      limits : Limits c.least_alteration.0 c.most_alteration.0
      limits = limits_fit c k.least k.most (good_back (distance_checks desired) (constraint_checks c)
          (good_back (encounter_checks own contact target) (distance_checks desired ++ constraint_checks c) split))

  of : (u : Result (Unit {0}) Refusal) → w ≡ u → avoid_if_accepted u (avoided own contact target desired c) ≡ avoid_answer own contact target desired c
  unfolding avoid_answer
  of u e = ap (λ v. avoid_if_accepted v (avoided own contact target desired c)) (sym e ∙ is)

  pub accepted : w ≡ (Ok tt) → (r : Result AvoidanceManoeuvre Refusal) → r ≡ avoided_computed own contact target desired c → r ≡ avoid_answer own contact target desired c
  accepted e r er = er ∙ same e ∙ of (Ok tt) e

  pub refused : (why : Refusal) → w ≡ Err why → Err why ≡ avoid_answer own contact target desired c
  refused why e = of (Err why) e
