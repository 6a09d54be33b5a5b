-- On accepted arguments the figures that two plots give are finite: the interval, where it is above 0, is at least 2 ^ -42 hours.
use Rattle.std.specs.Prelude.{Err, Ok}
use mathlib.Core.Path.{◌≡◌, refl, sym, ◌∙◌, subst}
use mathlib.Core.Bool.{Bool, true, false, not, cond, true≢false}
use mathlib.Core.List.{◌++◌}
use mathlib.Core.Logic.{◌⊎◌, inl, inr}
use Prim.Native.Nat.{ℕ, zero, suc, ◌+◌, ◌*◌, ◌^◌, ◌≤◌, ◌<◌}
use native.Mathlib.Nat.{le_trans, le_of_eq, le_of_lt, mul-le-mul_right, mul-one}
use native.Mathlib.Omega.{arith}
use lib.IntN.{pos}
use lib.Dec.{T, eqb, ltb, ltb→lt, nltb→le, eqb→eq, lit<, lit≤}
use lib.Pow.{pow_pos}
use lib.Ieee.{Float, binary64, fits, add, div, round, le, lt, eq, of_int, of_bits}
use lib.Ieee.Fits.{add-fits, and_i, and_l, and_r}
use lib.Ieee.Scale.{finite}
use Rattle.laws.specs.Ops.{◌⊕◌, ◌⊖◌}
use Rattle.laws.specs.Size.{Small, AtLeast}
use Rattle.laws.specs.Units.{Units, units_of}
use Rattle.laws.proofs.Error.{Rounded, rounded}
use Rattle.laws.proofs.Exact.{whole-value}
use Rattle.laws.proofs.Size.{weaken, round-small, round-least, add_small, sub_small, div-small}
use Rattle.laws.proofs.Units.{rescale, add-units, div-units, units_are}
use Rattle.math.specs.Clock.{billion, seconds_per_hour, hours_of, is_before, is_accepted}
use Rattle.math.specs.declared.duration.Duration.{Duration}
use Rattle.math.specs.Convert.{to_degrees}
use Rattle.math.specs.Fold.{half_turn, reciprocal, IsDirection}
use Rattle.math.proofs.Range.{whole_fold_range, whole_fold-fits, half_fold_range}
use Rattle.roots.proofs.HypotSize.{hypot-small}
use Rattle.inverse_trigonometry.specs.Atan2.{atan2}
use Rattle.inverse_trigonometry.proofs.Sizes.{atan2-small}
use Rattle.elementary.specs.declared.error.Refusal.TheVariants as Why
use Rattle.std.specs.declared.result.Result.{Result}
use Rattle.elementary.specs.declared.error.Refusal.{Refusal}
use Rattle.motion.specs.declared.vessel.Vessel.{Vessel}
use Rattle.motion.specs.declared.vessel.Contact.{Contact}
use Rattle.motion.specs.declared.vessel.Components.{Components}
use Rattle.motion.specs.Check.{verdict, vessel_checks, contact_checks, is_direction, is_speed, is_distance}
use Rattle.motion.specs.Check as Check
use Rattle.motion.specs.Vessel.{direction_of, velocity, from_velocity, offset, difference}
use Rattle.relative_motion.specs.Plot.{relative_motion, target_of, solution, solved, plot_checks, plot_verdict, plot_if_accepted, plot_answer}
use Rattle.relative_motion.specs.Sound.{HeldVessel, HeldContact, AllGood, FiniteSolution, FinitePlot}
use Rattle.relative_motion.proofs.Sizes.{all_good, direction_small, distance-small, degrees_small, half_turn-small, resolved-small, velocity-small}
use Rattle.relative_motion.proofs.Finite.{direction_finite}

-- ---- a time handed in
secs_few : (d : Duration) → T (is_accepted d) → (d.secs ≤ 2 ^ 53) × (d.nanos < 1000000000)
unfolding is_accepted is_before
secs_few d h = (go (eqb (2 ^ 53) d.secs) (eqb→eq (2 ^ 53) d.secs) (and_l (not (cond (eqb (2 ^ 53) d.secs) (ltb 0 d.nanos) (ltb (2 ^ 53) d.secs))) (ltb d.nanos 1000000000) h), ltb→lt d.nanos 1000000000 (and_r (not (cond (eqb (2 ^ 53) d.secs) (ltb 0 d.nanos) (ltb (2 ^ 53) d.secs))) (ltb d.nanos 1000000000) h))
  where
    go : (b : Bool) → (T b → 2 ^ 53 ≡ d.secs) → T (not (cond b (ltb 0 d.nanos) (ltb (2 ^ 53) d.secs))) → d.secs ≤ 2 ^ 53
    go true e t = le_of_eq (sym (e tt))
    go false e t = nltb→le (2 ^ 53) d.secs t

whole-units : (n : ℕ) → n ≤ 2 ^ 53 → Units (of_int binary64 (pos n)) false (n * 2 ^ 1074)
whole-units n h = rescale (of_int binary64 (pos n)) false n 1 (n * 2 ^ 1074) (2 ^ 1074) (lit< tt) (mul-one (n * 2 ^ 1074)) (whole-value n h)

module _ (s n : ℕ) (hs : s ≤ 2 ^ 53) (hn : n < 1000000000) where
  -- the nanoseconds in seconds
  part : Float
  part = div binary64 (of_int binary64 (pos n)) billion

  part-is : part ≡ round binary64 false (n * 2 ^ 1074) (1000000000 * 2 ^ 1074)
  unfolding part
  part-is = div-units (of_int binary64 (pos n)) billion false false (n * 2 ^ 1074) (1000000000 * 2 ^ 1074) (lit< tt) (whole-units n (le_trans (le_of_lt hn) (lit≤ tt))) (unfold of_bits in (refl, refl))

  part-range : n * 2 ^ 1074 ≤ 1000000000 * 2 ^ 1074 * 2 ^ 1023
  part-range = le_trans (mul-le-mul_right (2 ^ 1074) (le_of_lt hn)) (lit≤ tt)

  rounded_part : Rounded part false (n * 2 ^ 1074) (1000000000 * 2 ^ 1074)
  rounded_part = subst (λ y. Rounded y false (n * 2 ^ 1074) (1000000000 * 2 ^ 1074)) (sym part-is) (rounded false (n * 2 ^ 1074) (1000000000 * 2 ^ 1074) (lit< tt) part-range)

  part_small : Small 0 0 part
  part_small = subst (Small 0 0) (sym part-is) (round-small false (n * 2 ^ 1074) (1000000000 * 2 ^ 1074) 0 0 (lit< tt) (lit≤ tt) (lit< tt) (le_trans (le_of_eq (mul-one (n * 2 ^ 1074))) (le_trans (mul-le-mul_right (2 ^ 1074) (le_of_lt hn)) (lit≤ tt))))

  part-units : Units part false (units_of part)
  part-units = subst (λ u. Units part false u) (sym (units_are part false rounded_part.size rounded_part.value)) rounded_part.value

  part-least : 0 < n → 2 ^ 1074 ≤ units_of part * 2 ^ 30
  part-least h = le_trans (lit≤ tt) (subst (AtLeast 0 30) (sym part-is) (round-least false (n * 2 ^ 1074) (1000000000 * 2 ^ 1074) 0 30 (lit< tt) (lit≤ tt) (lit< tt) part-range (enough n (2 ^ 1074) h))).least
    where
      enough : (n L : ℕ) → 0 < n → 2 ^ 0 * (1000000000 * L) ≤ n * L * 2 ^ 30
      enough n L h = omega (arith, mul-le-mul_right L h)

  -- with the whole seconds
  total : Float
  total = add binary64 (of_int binary64 (pos s)) part

  abbrev sum : ℕ
  sum = s * 2 ^ 1074 + units_of part

  total_is : total ≡ round binary64 false sum (2 ^ 1074)
  unfolding total
  total_is = add-units (of_int binary64 (pos s)) part false (s * 2 ^ 1074) (units_of part) (whole-units s hs) part-units

  sum_most : sum ≤ 2 ^ 54 * 2 ^ 1074
  sum_most = go (units_of part) (2 ^ 1074) (le_trans (le_of_eq (sym (mul-one (units_of part)))) part_small.most) (mul-le-mul_right (2 ^ 1074) hs)
    where
      go : (p L : ℕ) → p ≤ 2 ^ 0 * L → s * L ≤ 2 ^ 53 * L → s * L + p ≤ 2 ^ 54 * L
      go p L a b = omega arith

  total_small : Small 54 0 total
  total_small = subst (Small 54 0) (sym total_is) (round-small false sum (2 ^ 1074) 54 0 (pow_pos 1074) (lit≤ tt) (lit< tt) (le_trans (le_of_eq (mul-one sum)) sum_most))

  total_units : Units total false (units_of total)
  total_units = subst (λ u. Units total false u) (sym (units_are total false r.size r.value)) r.value
    where
      r : Rounded total false sum (2 ^ 1074)
      r = subst (λ y. Rounded y false sum (2 ^ 1074)) (sym total_is) (rounded false sum (2 ^ 1074) (pow_pos 1074) (le_trans sum_most (lit≤ tt)))

  total_least : (0 < s) ⊎ (0 < n) → 2 ^ 1074 ≤ units_of total * 2 ^ 30
  total_least c = le_trans (lit≤ tt) (subst (AtLeast 0 30) (sym total_is) (round-least false sum (2 ^ 1074) 0 30 (pow_pos 1074) (lit≤ tt) (lit< tt) (le_trans sum_most (lit≤ tt)) (elim c [ inl h ↦ whole (units_of part) (2 ^ 1074) h | inr h ↦ below (units_of part) (2 ^ 1074) (part-least h) ]))).least
    where
      whole : (p L : ℕ) → 0 < s → 2 ^ 0 * L ≤ (s * L + p) * 2 ^ 30
      whole p L h = omega (arith, mul-le-mul_right L h)

      below : (p L : ℕ) → L ≤ p * 2 ^ 30 → 2 ^ 0 * L ≤ (s * L + p) * 2 ^ 30
      below p L h = omega arith

  -- in hours
  interval_is : div binary64 total seconds_per_hour ≡ round binary64 false (units_of total) (3600 * 2 ^ 1074)
  interval_is = div-units total seconds_per_hour false false (units_of total) (3600 * 2 ^ 1074) (lit< tt) total_units (unfold of_bits in (refl, refl))

  interval_least : (0 < s) ⊎ (0 < n) → AtLeast 0 42 (div binary64 total seconds_per_hour)
  interval_least c = subst (AtLeast 0 42) (sym interval_is) (round-least false (units_of total) (3600 * 2 ^ 1074) 0 42 (lit< tt) (lit≤ tt) (lit< tt) (le_trans (le_of_eq (sym (mul-one (units_of total)))) (le_trans total_small.most (lit≤ tt))) (enough (units_of total) (2 ^ 1074) (total_least c)))
    where
      enough : (u L : ℕ) → L ≤ u * 2 ^ 30 → 2 ^ 0 * (3600 * L) ≤ u * 2 ^ 42
      enough u L h = omega arith

no_time : le (hours_of (record { secs = 0; nanos = 0 })) Check.zero ≡ true
unfolding hours_of
no_time = unfold of_int of_bits add div round le lt eq in refl

pub hours_least : (d : Duration) → T (is_accepted d) → le (hours_of d) Check.zero ≡ false → AtLeast 0 42 (hours_of d)
unfolding hours_of total part
hours_least d h later = go d.secs d.nanos (secs_few d h).0 (secs_few d h).1 later
  where
    positive : (n : ℕ) → 0 < suc n
    positive n = omega arith

    go : (s n : ℕ) → s ≤ 2 ^ 53 → n < 1000000000 → le (hours_of (record { secs = s; nanos = n })) Check.zero ≡ false → AtLeast 0 42 (hours_of (record { secs = s; nanos = n }))
    go zero zero a b later = absurd (true≢false (sym no_time ∙ later))
    go zero (suc n) a b later = interval_least 0 (suc n) a b (inr (positive n))
    go (suc s) n a b later = interval_least (suc s) n a b (inl (positive s))

-- ---- directions
is_direction_lem : {x : Float} → IsDirection x → T (is_direction (record { 0 = x }))
unfolding is_direction
is_direction_lem {x} d = and_i (le Check.zero x) (lt x Check.full_turn) d.at_least d.below

direction_fits : (c : Components) → T (finite c.north) → T (finite c.east) → T (fits binary64 (direction_of c).0)
unfolding direction_of
direction_fits c n e = whole_fold-fits (to_degrees (atan2 c.east c.north)) (degrees_small (atan2-small c.east c.north e n)).held

reciprocal_range : (x : Float) → T (finite (x ⊕ half_turn)) → IsDirection (reciprocal x)
unfolding reciprocal
reciprocal_range x f = whole_fold_range (x ⊕ half_turn) f

reciprocal-fits : (x : Float) → T (fits binary64 (reciprocal x))
unfolding reciprocal
reciprocal-fits x = whole_fold-fits (x ⊕ half_turn) (add-fits binary64 x half_turn)

-- ---- the figures
module _ (own : Vessel) (second : Contact) (relative : Components) (ho : HeldVessel own) (hs : HeldContact second) (oc : T (is_direction own.course)) (os : T (is_speed own.speed)) (sb : T (is_direction second.bearing)) (north : Small 57 0 relative.north) (east : Small 57 0 relative.east) where
  course_direction : IsDirection (target_of own relative).course.0 × T (fits binary64 (target_of own relative).course.0) × T (finite (target_of own relative).speed.0)
  unfolding target_of from_velocity
  course_direction =
      let v = velocity-small own ho oc os in
      let n = add_small {p = 57} {q = 0} (lit≤ tt) (lit< tt) north (weaken 57 0 (lit≤ tt) v.0) in
      let e = add_small {p = 57} {q = 0} (lit≤ tt) (lit< tt) east (weaken 57 0 (lit≤ tt) v.1) in
      let c : Components = record { north = relative.north ⊕ (velocity own).north; east = relative.east ⊕ (velocity own).east } in
      (direction_finite c n.number e.number, direction_fits c n.number e.number, (hypot-small {p = 58} {q = 0} (lit≤ tt) n e).number)

  solution-finite : FiniteSolution (solution own second relative)
  unfolding solution
  solution-finite =
      let d = course_direction in
      let b = direction_small second.bearing hs.bearing sb in
      let half = add_small {p = 9} {q = 0} (lit≤ tt) (lit< tt) b half_turn-small in
      let r = direction_small (record { 0 = reciprocal second.bearing.0 }) (reciprocal-fits second.bearing.0) (is_direction_lem (reciprocal_range second.bearing.0 half.number)) in
      let t = direction_small (target_of own relative).course d.1 (is_direction_lem d.0) in
      let a = sub_small {p = 9} {q = 0} (lit≤ tt) (lit< tt) r t in
      record {
        course = d.0;
        speed = d.2;
        relative_course = direction_finite relative north.number east.number;
        relative_speed = (hypot-small {p = 57} {q = 0} (lit≤ tt) north east).number;
        aspect = half_fold_range (reciprocal second.bearing.0 ⊖ (target_of own relative).course.0) a.held a.number;
      }

moved_small : (first second : Contact) → HeldContact first → HeldContact second → T (is_direction first.bearing) → T (is_distance first.range) → T (is_direction second.bearing) → T (is_distance second.range) → (interval : Float) → AtLeast 0 42 interval
    → Small 57 0 (relative_motion first second interval).north × Small 57 0 (relative_motion first second interval).east
unfolding relative_motion difference offset
moved_small first second hf hs fb fr sb sr interval i =
    let a = resolved-small first.bearing hf.bearing fb first.range.0 (lit< tt) (distance-small first.range hf.range fr) in
    let b = resolved-small second.bearing hs.bearing sb second.range.0 (lit< tt) (distance-small second.range hs.range sr) in
    (div-small {p = 15} {q = 0} {r = 0} {t = 42} (lit≤ tt) (lit< tt) (sub_small {p = 14} {q = 0} (lit≤ tt) (lit< tt) b.0 a.0) i, div-small {p = 15} {q = 0} {r = 0} {t = 42} (lit≤ tt) (lit< tt) (sub_small {p = 14} {q = 0} (lit≤ tt) (lit< tt) b.1 a.1) i)

pub plot_finite : (own : Vessel) (first second : Contact) (elapsed : Duration) → HeldVessel own → HeldContact first → HeldContact second → FinitePlot (plot_answer own first second elapsed)
unfolding plot_answer plot_verdict plot_checks solved
plot_finite own first second elapsed ho hf hs = go (verdict (plot_checks own first second elapsed) (Ok tt)) refl
  where
    done : T (is_accepted elapsed) → AllGood (vessel_checks own ++ contact_checks first ++ contact_checks second) → (b : Bool) → le (hours_of elapsed) Check.zero ≡ b → FinitePlot (cond b (Err Why.Time) (Ok (solution own second (relative_motion first second (hours_of elapsed)))))
    done t g true e = tt
    done t g false e =
        let m = moved_small first second hf hs g.1.1.0 g.1.1.1.0 g.1.1.1.1.0 g.1.1.1.1.1.0 (hours_of elapsed) (hours_least elapsed t e) in
        solution-finite own second (relative_motion first second (hours_of elapsed)) ho hs g.0 g.1.0 g.1.1.1.1.0 m.0 m.1

    go : (v : Result (Unit {0}) Refusal) → verdict (plot_checks own first second elapsed) (Ok tt) ≡ v → FinitePlot (plot_if_accepted v (cond (le (hours_of elapsed) Check.zero) (Err Why.Time) (Ok (solution own second (relative_motion first second (hours_of elapsed))))))
    go (Ok tt) e = let g = all_good (plot_checks own first second elapsed) e in done g.1.1.1.1.1.1.0 (g.0, (g.1.0, (g.1.1.0, (g.1.1.1.0, (g.1.1.1.1.0, (g.1.1.1.1.1.0, tt)))))) (le (hours_of elapsed) Check.zero) refl
    go (Err why) e = tt
