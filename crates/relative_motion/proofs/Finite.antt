-- On accepted arguments nothing on the way to a closest point of approach is NaN or infinite, each elementary function is called inside its domain, and the time fits.
use Rattle.std.specs.Prelude.{Err, Ok}
use mathlib.Core.Path.{◌≡◌, refl, sym, ap, ◌∙◌, subst}
use mathlib.Core.Bool.{Bool, true, false, not, ◌||◌, cond, true≢false}
use Prim.Native.Nat.{ℕ, zero, suc, ◌+◌, ◌*◌, ◌^◌, ◌≤◌, ◌<◌}
use native.Mathlib.Nat.{le_trans, le_of_eq, lt_of_lt_of_le, lt_of_le_of_lt, mul-le-mul, mul-le-mul_left, le_of_mul-le-mul_right, mul-pos, mul-one, zero-mul, le_refl}
use native.Mathlib.Omega.{arith}
use lib.Dec.{T, ltb, eqb, lt→ltb, eqb→eq, lit<, lit≤}
use lib.Pow.{pow_pos, pow_mono}
use lib.Ieee.{Float, binary64, fits, mul, neg, lt, le, unlike, below, level, of_bits}
use lib.Ieee.Bits.{is_true}
use lib.Ieee.Fits.{and_l, and_i}
use lib.Ieee.Scale.{finite}
use Rattle.laws.specs.Ops.{◌⊕◌, ◌⊖◌, ◌⊗◌, ◌⊘◌}
use Rattle.laws.specs.Size.{Small, AtLeast, Times}
use Rattle.laws.specs.Units.{Units, sign, units_of}
use Rattle.laws.proofs.Bools.{holds, test_of_le}
use Rattle.laws.proofs.Compare.{lt-units, le-units, le-values}
use Rattle.laws.proofs.Error.{Product, product, Rounded, quotient}
use Rattle.laws.proofs.Ratio.{mul_times, add_times, neg_times}
use Rattle.laws.proofs.Size.{units_small, weaken, round-small, mul_small, mul-least, add_small, sub_small, neg_small, div-small, least_of_test, small_of_value}
use Rattle.laws.proofs.Units.{Form, form, own_units, div-units, neg-units, finite_of_units}
use Rattle.math.specs.Fold.{whole_fold, IsDirection}
use Rattle.math.proofs.Range.{whole_fold_range}
use Rattle.math.specs.Clock.{seconds_per_hour, clock, nanos_in, from_seconds, from_hours}
use Rattle.math.specs.Clock as Clock
use Rattle.std.specs.declared.result.Result.{Result}
use Rattle.elementary.specs.declared.error.Refusal.{Refusal}
use Rattle.relative_motion.specs.declared.approach.Cpa.{Cpa}
use Rattle.relative_motion.specs.declared.approach.Track.{Track}
use Rattle.roots.specs.Hypot.{hypot}
use Rattle.roots.specs.Hypot as Hypot
use Rattle.roots.proofs.HypotSize.{in-hypot-domain, hypotenuse, hypot-small, hypot_sides}
use mathlib.Core.List.{◌++◌}
use Rattle.math.specs.Convert.{to_degrees}
use Rattle.math.specs.Sign.{abs}
use Rattle.math.specs.Test.{larger}
use Rattle.math.proofs.Sign.{abs-fits, abs-units, units_of-abs}
use Rattle.elementary.specs.declared.error.Refusal.TheVariants as Why
use Rattle.relative_motion.specs.Bow.{parallel, tolerance, not_negative, determinant, crossing, bow_if_accepted, bow_answer}
use Rattle.inverse_trigonometry.specs.Atan2.{atan2}
use Rattle.inverse_trigonometry.proofs.Sizes.{atan2-small}
use Rattle.motion.specs.declared.units.Distance.{Distance}
use Rattle.motion.specs.declared.vessel.Vessel.{Vessel}
use Rattle.motion.specs.declared.vessel.Contact.{Contact}
use Rattle.motion.specs.declared.vessel.Components.{Components}
use Rattle.relative_motion.specs.declared.approach.Track.TheVariants.{Closing, Opening, Stationary}
use Rattle.motion.specs.Check.{verdict, vessel_checks, contact_checks, encounter_checks}
use Rattle.motion.specs.Vessel.{unit, direction_of, offset, relative_velocity}
use Rattle.relative_motion.specs.Sound.{HeldVessel, HeldContact, AllGood, FiniteApproach, FiniteCpa, FinitePass, FiniteBearing, FiniteBow, Way, CpaWay}
use Rattle.motion.specs.Check as Check
use Rattle.relative_motion.specs.Approach.{stationary_knots, time_to_go, relative_speed, closing_rate, time_of, closest, approach_from, approach, cpa_if_accepted, cpa_answer, distance_alone_answer, approach_distance_answer, bearing_if_accepted, bearing_answer}
use Rattle.relative_motion.proofs.Sizes.{Sized, all_good, direction_small, distance-small, degrees_small, direction_domain, unit-small, sized}

-- what has its sign set is at most 0
at_most : (n : ℕ) → below true (n * 1) false (0 * 2 ^ 1074) || level true (n * 1) false (0 * 2 ^ 1074) ≡ true
at_most zero = refl
at_most (suc n) = ap (λ b. b || level true (suc n * 1) false (0 * 2 ^ 1074)) (is_true (ltb 0 (suc n * 1 + 0)) (lt→ltb 0 (suc n * 1 + 0) (positive n)))
  where
    positive : (n : ℕ) → 0 < suc n * 1 + 0
    positive n = omega arith

negative : (x : Float) (n : ℕ) → Units x true n → le x Check.zero ≡ true
negative x n u = le-values x Check.zero true false n (2 ^ 1074) 0 1 (pow_pos 1074) (lit< tt) u (unfold of_bits in (refl, refl)) ∙ at_most n

-- what is not at most 0 has its sign clear
pub clear : (x : Float) → T (fits binary64 x) → T (finite x) → le x Check.zero ≡ false → sign x ≡ false
clear x t f h = go (sign x) refl
  where
    go : (s : Bool) → sign x ≡ s → s ≡ false
    go false e = refl
    go true e = absurd (true≢false (sym (negative x (units_of x) (subst (λ s. Units x s (units_of x)) e (own_units x t f))) ∙ h))

-- a set sign and at least 0: it is 0
minus_zero : (x : Float) (n : ℕ) → Units x true n → le Check.zero x ≡ true → n ≡ 0
minus_zero x n u h = none n (sym (le-values Check.zero x false true 0 1 n (2 ^ 1074) (lit< tt) (pow_pos 1074) (unfold of_bits in (refl, refl)) u) ∙ h)
  where
    none : (n : ℕ) → below false (0 * 2 ^ 1074) true (n * 1) || level false (0 * 2 ^ 1074) true (n * 1) ≡ true → n ≡ 0
    none n k = sym (mul-one n) ∙ sym (eqb→eq (0 * 2 ^ 1074) (n * 1) (and_l (eqb (0 * 2 ^ 1074) (n * 1)) _ (holds k))) ∙ zero-mul (2 ^ 1074)

module _ (position relative : Components) (a : Sized position relative) where
  abbrev speed : Float
  speed = relative_speed relative

  abbrev units : ℕ
  units = units_of (relative_speed relative)

  pub speed_small : Small 12 0 speed
  unfolding relative_speed
  speed_small = hypot-small {p = 11} {q = 0} (lit≤ tt) a.relative_north a.relative_east

  speed_clear : sign speed ≡ false
  unfolding relative_speed
  speed_clear = (hypotenuse 11 0 (lit≤ tt) a.relative_north a.relative_east).positive

  speed_units : Units speed false units
  speed_units = subst (λ s. Units speed s units) speed_clear (units_small speed_small)

  rate_small : Small 26 0 (closing_rate position relative)
  unfolding closing_rate
  rate_small = add_small {p = 25} {q = 0} (lit≤ tt) (lit< tt) (mul_small {p = 14} {q = 0} {r = 11} {t = 0} (lit≤ tt) (lit< tt) a.position_north a.relative_north) (mul_small {p = 14} {q = 0} {r = 11} {t = 0} (lit≤ tt) (lit< tt) a.position_east a.relative_east)

  -- where the contact is not stationary
  module _ (moving : lt speed stationary_knots ≡ false) where
    speed_least : AtLeast 0 30 speed
    speed_least = least_of_test speed stationary_knots units (4835703278458517 * 2 ^ 992) 30 speed_small.held speed_units (unfold of_bits in (refl, refl)) (lit≤ tt) moving

    square-least : AtLeast 0 60 (mul binary64 speed speed)
    square-least = mul-least {p = 0} {q = 30} {r = 0} {t = 30} {i = 12} {j = 0} {k = 12} {l = 0} (lit≤ tt) (lit< tt) (lit< tt) speed_least speed_least speed_small speed_small

    pub time-small : Small 86 0 (time_of position relative)
    unfolding time_of
    time-small = div-small {p = 26} {q = 0} {r = 0} {t = 60} (lit≤ tt) (lit< tt) (neg_small rate_small) square-least

    -- a rate that is not closing gives a time of at most 0
    pub not-closing : le Check.zero (closing_rate position relative) ≡ true → le (time_of position relative) Check.zero ≡ true
    unfolding time_of
    not-closing h = go (sign rate) refl
      where
        rate : Float
        rate = closing_rate position relative

        square : Float
        square = mul binary64 speed speed

        square-units : Units square false (units_of square)
        square-units =
            let p = product speed speed false false units units speed_units speed_units (le_trans (mul-le-mul (le_trans (le_of_eq (sym (mul-one units))) speed_small.most) (le_trans (le_of_eq (sym (mul-one units))) speed_small.most)) (lit≤ tt)) in
            subst (λ s. Units square s (units_of square)) (finite_of_units square false p.size p.value).1 (own_units square square-least.held square-least.number)

        some : (b U : ℕ) → 0 < U → 2 ^ 0 * U ≤ b * 2 ^ 60 → 0 < b
        some zero U P k = absurd (never U P k)
          where
            never : (U : ℕ) → 0 < U → 2 ^ 0 * U ≤ 0 * 2 ^ 60 → ⊥
            never U P k = omega arith
        some (suc b) U P k = omega arith

        room : (a b U w : ℕ) → 2 ^ 86 ≤ w → a * 2 ^ 0 ≤ 2 ^ 26 * U → 2 ^ 0 * U ≤ b * 2 ^ 60 → a ≤ b * w
        room a b U w v p q = le_trans (narrow p q) (mul-le-mul_left b v)
          where
            narrow : a * 2 ^ 0 ≤ 2 ^ 26 * U → 2 ^ 0 * U ≤ b * 2 ^ 60 → a ≤ b * 2 ^ 86
            narrow p q = omega arith

        divided : (s : Bool) → Units rate s (units_of rate) → Rounded (neg rate ⊘ square) (unlike (not s) false) (units_of rate) (units_of square)
        divided s u = quotient (neg rate) square (not s) false (units_of rate) (units_of square) (some (units_of square) (2 ^ 1074) (pow_pos 1074) square-least.least) (neg-units rate s (units_of rate) u) square-units (room (units_of rate) (units_of square) (2 ^ 1074) (2 ^ 1023) (lit≤ tt) rate_small.most square-least.least)

        nothing : (g c : ℕ) → 0 < c → 2 * (2 ^ 53 * (g * c)) ≤ 2 * (2 ^ 53 + 1) * (0 * 2 ^ 1074) + 2 ^ 53 * c → g ≡ 0
        nothing zero c C k = refl
        nothing (suc g) c C k = absurd (never (g * c) c C (subst (λ z. 2 * (2 ^ 53 * (suc g * c)) ≤ 2 * (2 ^ 53 + 1) * z + 2 ^ 53 * c) (zero-mul (2 ^ 1074)) k))
          where
            never : (q c : ℕ) → 0 < c → 2 * (2 ^ 53 * (suc g * c)) ≤ 2 * (2 ^ 53 + 1) * 0 + 2 ^ 53 * c → ⊥
            never q c C k = omega arith

        go : (s : Bool) → sign rate ≡ s → le (neg rate ⊘ square) Check.zero ≡ true
        go false e = let o = divided false (subst (λ s. Units rate s (units_of rate)) e (units_small rate_small)) in negative (neg rate ⊘ square) o.size o.value
        go true e =
            let u = subst (λ s. Units rate s (units_of rate)) e (units_small rate_small) in
            let o = divided true u in
            let z = nothing o.size (units_of square) (some (units_of square) (2 ^ 1074) (pow_pos 1074) square-least.least) (subst (λ a. 2 * (2 ^ 53 * (o.size * units_of square)) ≤ 2 * (2 ^ 53 + 1) * (a * 2 ^ 1074) + 2 ^ 53 * units_of square) (minus_zero rate (units_of rate) u h) o.close.over) in
            le-units (neg rate ⊘ square) Check.zero o.size 0 o.value (unfold of_bits in (refl, refl)) ∙ ap (λ n. ltb n 0 || eqb n 0) z

    pub closest-small : Small 98 0 (closest position relative).north × Small 98 0 (closest position relative).east
    unfolding closest
    closest-small = (
      add_small {p = 97} {q = 0} (lit≤ tt) (lit< tt) (weaken 97 0 (lit≤ tt) a.position_north) (mul_small {p = 11} {q = 0} {r = 86} {t = 0} (lit≤ tt) (lit< tt) a.relative_north time-small),
      add_small {p = 97} {q = 0} (lit≤ tt) (lit< tt) (weaken 97 0 (lit≤ tt) a.position_east) (mul_small {p = 11} {q = 0} {r = 86} {t = 0} (lit≤ tt) (lit< tt) a.relative_east time-small),
    )

    -- the rate is at most 2 ^ 16 times the speed, and the speed's rounded square at least half its square, so that the time is at most 2 ^ 47 hours
    the_form : Form speed
    the_form = form speed speed_small.held speed_small.number

    speed_top : units ≤ 2 ^ 12 * 2 ^ 1074
    speed_top = le_trans (le_of_eq (sym (mul-one units))) speed_small.most

    room : (k : ℕ) → k ≤ 1000 → 2 ^ k * units ≤ 2 ^ 1023 * 2 ^ 1074
    room k h = le_trans (mul-le-mul (pow_mono h) speed_top) (lit≤ tt)

    sides : Times 1 relative.north speed × Times 1 relative.east speed
    unfolding relative_speed
    sides = hypot_sides {p = 11} {q = 0} (lit≤ tt) a.relative_north a.relative_east

    rate_times : Times 16 (closing_rate position relative) speed
    unfolding closing_rate
    rate_times = add_times {k = 15} the_form (room 16 (lit≤ tt)) (mul_times {p = 14} {k = 1} the_form (room 15 (lit≤ tt)) a.position_north sides.0) (mul_times {p = 14} {k = 1} the_form (room 15 (lit≤ tt)) a.position_east sides.1)

    pub time_bound : Small 47 0 (time_of position relative)
    unfolding time_of
    time_bound =
        let p = product speed speed false false units units speed_units speed_units (le_trans (mul-le-mul speed_top speed_top) (lit≤ tt)) in
        let n = p.near (le_trans (lit≤ tt) (mul-le-mul low low)) in
        let m = neg_times rate_times in
        let r = neg (closing_rate position relative) in
        let B : 0 < p.size = some units p.size (2 ^ 1074) low n.under in
        subst (Small 47 0) (sym (div-units r (mul binary64 speed speed) (sign r) false (units_of r) p.size B (own_units r m.held m.number) p.value))
        (round-small (unlike (sign r) false) (units_of r) p.size 47 0 B (lit≤ tt) (lit< tt)
        (le_trans (le_of_eq (mul-one (units_of r))) (le_of_mul-le-mul_right {k = 2 ^ 1074} (go (units_of r) p.size units (2 ^ 1074) m.most speed_least.least n.under) (pow_pos 1074))))
      where
        low : 2 ^ 1044 ≤ units
        low = le_of_mul-le-mul_right {k = 2 ^ 30} (le_trans (lit≤ tt) speed_least.least) (pow_pos 30)

        some : (s g L : ℕ) → 2 ^ 1044 ≤ s → 2 ^ 53 * (s * s) ≤ 2 ^ 53 * (g * L) + s * s → 0 < g
        some s zero L h k = absurd (never (s * s) (mul-pos S S) k)
          where
            S : 0 < s
            S = lt_of_lt_of_le (lit< tt) h

            never : (q : ℕ) → 0 < q → 2 ^ 53 * q ≤ 2 ^ 53 * (0 * L) + q → ⊥
            never q h k = omega arith
        some s (suc g) L h k = omega arith

        go : (u g s L : ℕ) → u ≤ 2 ^ 16 * s → 2 ^ 0 * L ≤ s * 2 ^ 30 → 2 ^ 53 * (s * s) ≤ 2 ^ 53 * (g * L) + s * s → u * L ≤ 2 ^ 47 * g * L
        go u g s L h k n = last (twice (s * s) (g * L) n) (mul-le-mul h k)
          where
            twice : (q w : ℕ) → 2 ^ 53 * q ≤ 2 ^ 53 * w + q → q ≤ 2 * w
            twice q w n = omega arith

            last : s * s ≤ 2 * (g * L) → u * (2 ^ 0 * L) ≤ 2 ^ 16 * s * (s * 2 ^ 30) → u * L ≤ 2 ^ 47 * g * L
            last a b = omega (arith, a, b)

    -- 3600 is below 2 ^ 12, so that the seconds are at most 2 ^ 59
    hour_units : Units seconds_per_hour false (3600 * 2 ^ 1074)
    hour_units = unfold of_bits in (refl, refl)

    hour_small : Small 12 0 seconds_per_hour
    hour_small = small_of_value seconds_per_hour false (3600 * 2 ^ 1074) (2 ^ 1074) 12 0 (unfold of_bits fits in tt) (pow_pos 1074) hour_units (lit≤ tt)

    seconds_small : Small 59 0 (time_of position relative ⊗ seconds_per_hour)
    seconds_small = mul_small {p = 47} {q = 0} {r = 12} {t = 0} (lit≤ tt) (lit< tt) time_bound hour_small

    pub time_fits : le (time_of position relative) Check.zero ≡ false → from_hours (time_of position relative) ≡ Ok (clock (nanos_in (time_of position relative ⊗ seconds_per_hour)))
    unfolding from_hours from_seconds
    time_fits later = rw (not_below, not_long) refl
      where
        hours : ℕ
        hours = units_of (time_of position relative)

        time_clear : sign (time_of position relative) ≡ false
        time_clear = clear (time_of position relative) time_bound.held time_bound.number later

        seconds_clear : sign (time_of position relative ⊗ seconds_per_hour) ≡ false
        seconds_clear = (finite_of_units (time_of position relative ⊗ seconds_per_hour) false p.size p.value).1
          where
            p : Product (time_of position relative ⊗ seconds_per_hour) false hours (3600 * 2 ^ 1074)
            p = product (time_of position relative) seconds_per_hour false false hours (3600 * 2 ^ 1074) (subst (λ s. Units (time_of position relative) s hours) time_clear (units_small time_bound)) hour_units (le_trans (mul-le-mul (le_trans (le_of_eq (sym (mul-one hours))) time_bound.most) (le_refl (3600 * 2 ^ 1074))) (lit≤ tt))

        seconds_units : Units (time_of position relative ⊗ seconds_per_hour) false (units_of (time_of position relative ⊗ seconds_per_hour))
        seconds_units = subst (λ s. Units (time_of position relative ⊗ seconds_per_hour) s (units_of (time_of position relative ⊗ seconds_per_hour))) seconds_clear (units_small seconds_small)

        not_below : le Clock.zero (time_of position relative ⊗ seconds_per_hour) ≡ true
        not_below = le-units Clock.zero (time_of position relative ⊗ seconds_per_hour) 0 (units_of (time_of position relative ⊗ seconds_per_hour)) (unfold of_bits in (refl, refl)) seconds_units ∙ is_true _ (test_of_le 0 (units_of (time_of position relative ⊗ seconds_per_hour)) (from_zero (units_of (time_of position relative ⊗ seconds_per_hour))))
          where
            from_zero : (n : ℕ) → 0 ≤ n
            from_zero n = omega arith

        not_long : lt (time_of position relative ⊗ seconds_per_hour) Clock.too_long ≡ true
        not_long = lt-units (time_of position relative ⊗ seconds_per_hour) Clock.too_long (units_of (time_of position relative ⊗ seconds_per_hour)) (2 ^ 64 * 2 ^ 1074) seconds_units (unfold of_bits in (refl, refl)) ∙ is_true (ltb (units_of (time_of position relative ⊗ seconds_per_hour)) (2 ^ 64 * 2 ^ 1074)) (lt→ltb (units_of (time_of position relative ⊗ seconds_per_hour)) (2 ^ 64 * 2 ^ 1074) (lt_of_le_of_lt (le_trans (le_of_eq (sym (mul-one (units_of (time_of position relative ⊗ seconds_per_hour))))) seconds_small.most) (lit< tt)))

-- ---- the direction of a finite point
pub direction_finite : (c : Components) → T (finite c.north) → T (finite c.east) → IsDirection (direction_of c).0
unfolding direction_of
direction_finite c n e = let d = degrees_small (atan2-small c.east c.north e n) in whole_fold_range (to_degrees (atan2 c.east c.north)) d.number

-- ---- the theorems
pub the_way : (position relative : Components) → Sized position relative → Way position relative
the_way position relative a =
    record {
      speed_domain = and_i (Hypot.in_domain relative.north) (Hypot.in_domain relative.east) (in-hypot-domain 11 0 (lit≤ tt) a.relative_north) (in-hypot-domain 11 0 (lit≤ tt) a.relative_east);
      speed_finite = (speed_small position relative a).number;
      time_finite = λ m. (time_bound position relative a m).number;
      distance_domain = λ m. let c = closest-small position relative a m in and_i (Hypot.in_domain (closest position relative).north) (Hypot.in_domain (closest position relative).east) (in-hypot-domain 98 0 (lit≤ tt) c.0) (in-hypot-domain 98 0 (lit≤ tt) c.1);
      bearing_domain = λ m. let c = closest-small position relative a m in (c.0.number, c.1.number);
      time_fits = λ m l. time_fits position relative a m l;
    }

approach-finite : (range : Distance) (position relative : Components) → T (finite range.0) → Sized position relative → FiniteApproach (approach_from range position relative)
unfolding approach_from
approach-finite range position relative r a = go (lt (relative_speed relative) stationary_knots) refl (le (time_of position relative) Check.zero)
  where
    go : (b : Bool) → lt (relative_speed relative) stationary_knots ≡ b → (c : Bool) → FiniteApproach (cond b (Stationary range) (cond c (Opening range) (Closing (record { distance = record { 0 = hypot (closest position relative).north (closest position relative).east }; time_to_go = time_to_go (time_of position relative); bearing = direction_of (closest position relative) }))))
    go true m c = r
    go false m true = r
    go false m false = let c = closest-small position relative a m in ((hypot-small {p = 98} {q = 0} (lit≤ tt) c.0 c.1).number, direction_finite (closest position relative) c.0.number c.1.number)

module _ (own : Vessel) (contact : Contact) (target : Vessel) (ho : HeldVessel own) (hc : HeldContact contact) (ht : HeldVessel target) where
  accepted : verdict (encounter_checks own contact target) (Ok tt) ≡ (Ok tt) → AllGood (encounter_checks own contact target)
  accepted e = all_good (encounter_checks own contact target) e

  pub cpa_way : verdict (encounter_checks own contact target) (Ok tt) ≡ (Ok tt) → CpaWay own contact target
  unfolding encounter_checks
  cpa_way e =
      let g = accepted e in
      record {
        own_domain = direction_domain own.course ho.course g.0;
        contact_domain = direction_domain contact.bearing hc.bearing g.1.1.0;
        target_domain = direction_domain target.course ht.course g.1.1.1.1.0;
        way = the_way (offset contact) (relative_velocity own target) (sized own contact target ho hc ht g.0 g.1.0 g.1.1.0 g.1.1.1.0 g.1.1.1.1.0 g.1.1.1.1.1.0);
      }

  pub cpa_finite : FiniteCpa (cpa_answer own contact target)
  unfolding cpa_answer approach encounter_checks
  cpa_finite = go (verdict (encounter_checks own contact target) (Ok tt)) refl
    where
      go : (v : Result (Unit {0}) Refusal) → verdict (encounter_checks own contact target) (Ok tt) ≡ v → FiniteCpa (cpa_if_accepted v (approach_from contact.range (offset contact) (relative_velocity own target)))
      go (Ok tt) e = let g = accepted e in approach-finite contact.range (offset contact) (relative_velocity own target) (distance-small contact.range hc.range g.1.1.1.0).number (sized own contact target ho hc ht g.0 g.1.0 g.1.1.0 g.1.1.1.0 g.1.1.1.1.0 g.1.1.1.1.1.0)
      go (Err why) e = tt

  pub passing_finite : FinitePass (approach_distance_answer own contact target)
  unfolding approach_distance_answer
  passing_finite = go (cpa_answer own contact target) cpa_finite
    where
      go : (a : Result (Track Cpa) Refusal) → FiniteCpa a → FinitePass (distance_alone_answer a)
      go (Ok (Closing cpa)) f = f.0
      go (Ok (Opening range)) f = f
      go (Ok (Stationary range)) f = f
      go (Err why) f = tt

-- ---- the relative bearing
pub bearing_finite : (own : Vessel) (contact : Contact) → HeldVessel own → HeldContact contact → FiniteBearing (bearing_answer own contact)
unfolding bearing_answer
bearing_finite own contact ho hc = go (verdict (vessel_checks own ++ contact_checks contact) (Ok tt)) refl
  where
    go : (v : Result (Unit {0}) Refusal) → verdict (vessel_checks own ++ contact_checks contact) (Ok tt) ≡ v → FiniteBearing (bearing_if_accepted v (whole_fold (contact.bearing.0 ⊖ own.course.0)))
    go (Ok tt) e = let g = all_good (vessel_checks own ++ contact_checks contact) e in whole_fold_range (contact.bearing.0 ⊖ own.course.0) (sub_small {p = 9} {q = 0} (lit≤ tt) (lit< tt) (direction_small contact.bearing hc.bearing g.1.1.0) (direction_small own.course ho.course g.0)).number
    go (Err why) e = tt

-- ---- the bow crossing
cleared : (x : Float) → T (finite x) → T (finite (not_negative x))
unfolding larger
cleared x f = go (lt Check.zero x)
  where
    go : (b : Bool) → T (finite (cond b x Check.zero))
    go true = f
    go false = unfold of_bits in tt

module _ (range : Float) (position relative ahead : Components) (a : Sized position relative) (north : Small 0 0 ahead.north) (east : Small 0 0 ahead.east) where
  determinant-small : Small 12 0 (determinant relative ahead)
  unfolding determinant
  determinant-small = sub_small {p = 11} {q = 0} (lit≤ tt) (lit< tt) (mul_small {p = 11} {q = 0} {r = 0} {t = 0} (lit≤ tt) (lit< tt) a.relative_north (neg_small east)) (mul_small {p = 11} {q = 0} {r = 0} {t = 0} (lit≤ tt) (lit< tt) a.relative_east (neg_small north))

  -- 1e-12 is above 2 ^ -40
  determinant-least : lt (abs (determinant relative ahead)) parallel ≡ false → AtLeast 0 40 (determinant relative ahead)
  determinant-least h =
      let d = determinant relative ahead in
      let w = least_of_test (abs d) parallel (units_of d) (4951760157141521 * 2 ^ 982) 40 (abs-fits d determinant-small.held) (abs-units d (sign d) (units_of d) (units_small determinant-small)) (unfold of_bits in (refl, refl)) (lit≤ tt) h in
      record { held = determinant-small.held; number = determinant-small.number; least = subst (λ n. 2 ^ 0 * 2 ^ 1074 ≤ n * 2 ^ 40) (units_of-abs d) w.least }

  crossing-finite : FiniteBow (crossing range position relative ahead)
  unfolding crossing
  crossing-finite = go (lt (abs (determinant relative ahead)) parallel) refl (le ((neg position.north ⊗ neg ahead.east ⊕ position.east ⊗ neg ahead.north) ⊘ determinant relative ahead) Check.zero || lt ((relative.east ⊗ position.north ⊖ relative.north ⊗ position.east) ⊘ determinant relative ahead) (neg (range ⊗ tolerance)))
    where
      go : (b : Bool) → lt (abs (determinant relative ahead)) parallel ≡ b → (c : Bool) → FiniteBow (cond b (Err Why.AlongOwnTrack) (cond c (Err Why.NotAhead) (Ok (record { 0 = not_negative ((relative.east ⊗ position.north ⊖ relative.north ⊗ position.east) ⊘ determinant relative ahead) }))))
      go true h c = tt
      go false h true = tt
      go false h false = cleared ((relative.east ⊗ position.north ⊖ relative.north ⊗ position.east) ⊘ determinant relative ahead) (div-small {p = 26} {q = 0} {r = 0} {t = 40} (lit≤ tt) (lit< tt) (sub_small {p = 25} {q = 0} (lit≤ tt) (lit< tt) (mul_small {p = 11} {q = 0} {r = 14} {t = 0} (lit≤ tt) (lit< tt) a.relative_east a.position_north) (mul_small {p = 11} {q = 0} {r = 14} {t = 0} (lit≤ tt) (lit< tt) a.relative_north a.position_east)) (determinant-least h)).number

pub bow_finite : (own : Vessel) (contact : Contact) (target : Vessel) → HeldVessel own → HeldContact contact → HeldVessel target → FiniteBow (bow_answer own contact target)
unfolding bow_answer encounter_checks
bow_finite own contact target ho hc ht = go (verdict (encounter_checks own contact target) (Ok tt)) refl
  where
    go : (v : Result (Unit {0}) Refusal) → verdict (encounter_checks own contact target) (Ok tt) ≡ v → FiniteBow (bow_if_accepted v (crossing contact.range.0 (offset contact) (relative_velocity own target) (unit own.course.0)))
    go (Ok tt) e =
        let g = all_good (encounter_checks own contact target) e in
        let u = unit-small own.course ho.course g.0 in
        crossing-finite contact.range.0 (offset contact) (relative_velocity own target) (unit own.course.0) (sized own contact target ho hc ht g.0 g.1.0 g.1.1.0 g.1.1.1.0 g.1.1.1.1.0 g.1.1.1.1.1.0) u.0 u.1
    go (Err why) e = tt
