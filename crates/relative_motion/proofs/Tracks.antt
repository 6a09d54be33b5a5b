-- On accepted arguments the courses that `course_for_cpa` gives are directions: the relative tracks are within 668 degrees,
-- and so within 16 radians.
use Rattle.std.specs.Prelude.{Err, Ok, None, Some}
use mathlib.Core.Path.{◌≡◌, refl, sym, ap, ◌∙◌, subst}
use mathlib.Core.Bool.{Bool, true, false, ◌&&◌, ◌||◌, cond, true≢false}
use mathlib.Core.Logic.{◌⊎◌, inl, inr}
use mathlib.Core.List.{◌++◌}
use Prim.Native.Nat.{ℕ, ◌+◌, ◌*◌, ◌^◌, ◌≤◌, ◌<◌}
use native.Mathlib.Nat.{add-le-add, le_trans, le_of_eq, le_of_lt, lt_of_le_of_lt, mul-le-mul_left, mul-le-mul_right, mul-one}
use native.Mathlib.Omega.{arith}
use lib.Dec.{T, ltb→lt, lit<, lit≤}
use lib.Pow.{pow_pos}
use lib.Ieee.{Float, binary64, fits, sub, neg, round, lt, le, eq, below, level, is_nan, unlike, of_bits}
use lib.Ieee.Fits.{and_i, and_l, and_r}
use lib.Ieee.Bits.{is_true}
use lib.Ieee.Scale.{grid, overflow, finite}
use Rattle.laws.specs.Ops.{◌⊕◌, ◌⊖◌, ◌⊗◌, ◌⊘◌}
use Rattle.laws.specs.Size.{Small}
use Rattle.laws.specs.Units.{Units, sign, units_of}
use Rattle.laws.proofs.Error.{under_float, in-range, round-value, round-at_most}
use Rattle.laws.proofs.Size.{weaken, round-small, add_small, sub_small, mul_small, neg_small, at_most-units}
use Rattle.laws.proofs.Units.{own_units, units_are, finite_of_units, add_rounding, div-units}
use Rattle.laws.proofs.Bools.{holds, fails, test_of_le}
use Rattle.laws.proofs.Compare.{lt-units, lt-units-signed, le-units, le-values}
use Rattle.laws.proofs.Order.{le_lt_trans, le_trans_float, le_of_lt_float, le_not_lt, le-or-lt}
use Rattle.math.specs.Convert.{degrees_per_radian, to_radians, to_degrees}
use Rattle.math.specs.Fold.{half_turn, half_fold}
use Rattle.inverse_trigonometry.specs.Asin as asin
use Rattle.inverse_trigonometry.specs.Atan2.{atan2}
use Rattle.inverse_trigonometry.proofs.Arctangents.{not-nan}
use Rattle.inverse_trigonometry.proofs.Sizes.{asin-small, atan2-small}
use Rattle.elementary.specs.Range.{in_range}
use Rattle.motion.specs.declared.vessel.Contact.{Contact}
use Rattle.motion.specs.Check.{verdict, encounter_checks, distance_checks, is_direction, is_distance}
use Rattle.motion.specs.Check as Check
use Rattle.motion.specs.declared.vessel.Vessel.{Vessel}
use Rattle.motion.specs.declared.vessel.Components.{Components}
use Rattle.relative_motion.specs.declared.best_course.Best.{Best}
use Rattle.motion.specs.declared.side.BySide.{BySide}
use Rattle.motion.specs.Vessel.{unit, velocity}
use Rattle.std.specs.declared.result.Result.{Result}
use Rattle.elementary.specs.declared.error.Refusal.{Refusal}
use Rattle.motion.specs.declared.units.Distance.{Distance}
use Rattle.elementary.specs.declared.error.Refusal.TheVariants as Why
use Rattle.math.proofs.Range.{whole_fold_range}
use Rattle.roots.specs.Sqrt.{sqrt}
use Rattle.roots.proofs.SqrtSize.{sqrt-small}
use Rattle.trigonometry.proofs.Sizes.{sin-small, cos-small}
use Rattle.relative_motion.specs.Course.{one, clamped, grazing, offered, at_speed, along}
use Rattle.relative_motion.specs.Course.{choice_of, alteration_to, is_nothing, avoidance_of, course_for, course_if_accepted, course_answer}
use Rattle.std.specs.declared.option.Option.{Option}
use Rattle.relative_motion.specs.Offers.{best as offer}
use Rattle.relative_motion.specs.Course.{smaller as smaller-of, larger as larger-of}
use Rattle.relative_motion.specs.Sound.{HeldVessel, HeldContact, AllGood, FiniteAlteration, FiniteCourse}
use Rattle.relative_motion.proofs.Sizes.{all_good, constant, constant_small, degrees_small, direction_small}
use Rattle.relative_motion.proofs.Sizes.{distance-small, speed_small, half_turn-small, in-sine-domain, velocity-small}
use Rattle.relative_motion.proofs.Finite.{clear}

-- ---- a sum whose sizes add up to at most q * 2 ^ i units is at most that
sum_most : (x y : Float) (q i : ℕ) → T (fits binary64 x) → T (finite x) → T (fits binary64 y) → T (finite y) → q < 2 ^ 53
    → q * 2 ^ i ≤ 2 ^ 1023 * 2 ^ 1074 → units_of x + units_of y ≤ q * 2 ^ i → units_of (x ⊕ y) ≤ q * 2 ^ i
sum_most x y q i tx fx ty fy few top most =
    let o = add_rounding x y (sign x) (sign y) (units_of x) (units_of y) (own_units x tx fx) (own_units y ty fy) in
    let h : o.n * 2 ^ 1074 ≤ q * 2 ^ i * 2 ^ 1074 = mul-le-mul_right (2 ^ 1074) (le_trans o.few most) in
    let r = in-range o.n (2 ^ 1074) (pow_pos 1074) (under_float o.n (2 ^ 1074) (q * 2 ^ i) top h) in
    subst (λ z. units_of z ≤ q * 2 ^ i) (sym o.is)
    (subst (λ u. u ≤ q * 2 ^ i)
    (sym (units_are (round binary64 o.s o.n (2 ^ 1074)) o.s (grid binary64 o.n (2 ^ 1074)) (round-value o.s o.n (2 ^ 1074) r)))
    (round-at_most o.n (2 ^ 1074) (pow_pos 1074) q i few (lt_of_le_of_lt top (lit< tt)) r h))

-- ---- degrees: 668 of them are less than 16 radians
pub wide_radians : (x : Float) → T (fits binary64 x) → T (finite x) → units_of x ≤ 668 * 2 ^ 1074 → Small 9 5 (to_radians x)
unfolding to_radians
wide_radians x t f h = subst (Small 9 5)
    (sym (div-units x degrees_per_radian (sign x) false (units_of x) (1007958012753983 * 2 ^ 1030) (lit< tt)
    (own_units x t f) constant_units))
    (round-small (unlike (sign x) false) (units_of x) (1007958012753983 * 2 ^ 1030) 9 5 (lit< tt) (lit≤ tt) (lit< tt)
    (le_trans (mul-le-mul_right (2 ^ 5) h) (lit≤ tt)))
  where
    constant_units : Units degrees_per_radian false (1007958012753983 * 2 ^ 1030)
    constant_units = subst (λ c. Units c false (1007958012753983 * 2 ^ 1030)) (sym constant) (refl, refl)

not_below : (q : Float) (s : Bool) (n : ℕ) → Units q s n → (s ≡ false) ⊎ (n ≡ 0) → T (le Check.zero q)
not_below q s n v (inl e) = subst T (sym (le-units Check.zero q 0 n (unfold of_bits in (refl, refl)) (subst (λ s. Units q s n) e v)))
    (test_of_le 0 n (from_zero n))
  where
    from_zero : (n : ℕ) → 0 ≤ n
    from_zero n = omega arith
not_below q s n v (inr e) = subst T
    (sym (le-values Check.zero q false s 0 1 0 (2 ^ 1074) (lit< tt) (pow_pos 1074) (unfold of_bits in (refl, refl))
    (subst (λ n. Units q s n) e v))) (either-sign s)
  where
    either-sign : (s : Bool) → T (below false (0 * 2 ^ 1074) s (0 * 1) || level false (0 * 2 ^ 1074) s (0 * 1))
    either-sign true = tt
    either-sign false = tt

-- ---- the arcsine's argument: a number that is not below 0, over a larger one
module _ (x y : Float) (tx : T (fits binary64 x)) (ty : T (fits binary64 y)) (fx : T (finite x)) (fy : T (finite y))
    (nx : T (le Check.zero x)) (less : T (lt x y)) where
  positive : sign y ≡ false
  positive = go (sign y) refl
    where
      go : (s : Bool) → sign y ≡ s → s ≡ false
      go false e = refl
      go true e = absurd
          (true≢false (sym (is_true (lt Check.zero y) (le_lt_trans Check.zero x y nx less))
          ∙ lt-units-signed Check.zero y false true 0 (units_of y) (unfold of_bits in (refl, refl))
          (subst (λ s. Units y s (units_of y)) e (own_units y ty fy))))

  y_units : Units y false (units_of y)
  y_units = subst (λ s. Units y s (units_of y)) positive (own_units y ty fy)

  -- only a zero can have its sign set
  clear_or_none : (sign x ≡ false) ⊎ (units_of x ≡ 0)
  clear_or_none = go (le x Check.zero) refl
    where
      none : (n : ℕ) → n ≤ 0 → n ≡ 0
      none n h = omega arith

      go : (b : Bool) → le x Check.zero ≡ b → (sign x ≡ false) ⊎ (units_of x ≡ 0)
      go true e = inr
          (none (units_of x) (at_most-units x Check.zero 0 tx (unfold of_bits in (refl, refl)) (unfold of_bits in nx) (holds e)).1)
      go false e = inl (clear x tx fx e)

  smaller : units_of x < units_of y
  smaller = elim clear_or_none [
    | inl e ↦ ltb→lt (units_of x) (units_of y)
        (subst T (lt-units x y (units_of x) (units_of y) (subst (λ s. Units x s (units_of x)) e (own_units x tx fx)) y_units) less)
    | inr e ↦ subst (λ n. n < units_of y) (sym e)
        (ltb→lt 0 (units_of y)
        (subst T (lt-units Check.zero y 0 (units_of y) (unfold of_bits in (refl, refl)) y_units) (le_lt_trans Check.zero x y nx less)))
  ]

  ratio_is : x ⊘ y ≡ round binary64 (unlike (sign x) false) (units_of x) (units_of y)
  ratio_is = div-units x y (sign x) false (units_of x) (units_of y) some (own_units x tx fx) y_units
    where
      some : 0 < units_of y
      some = go (units_of x) (units_of y) smaller
        where
          go : (a b : ℕ) → a < b → 0 < b
          go a b h = omega arith

  pub ratio_small : Small 0 0 (x ⊘ y)
  ratio_small = subst (Small 0 0) (sym ratio_is)
      (round-small (unlike (sign x) false) (units_of x) (units_of y) 0 0 (go (units_of x) (units_of y) smaller) (lit≤ tt) (lit< tt)
      (over (units_of x) (units_of y) smaller))
    where
      go : (a b : ℕ) → a < b → 0 < b
      go a b h = omega arith

      over : (a b : ℕ) → a < b → a * 2 ^ 0 ≤ 2 ^ 0 * b
      over a b h = omega arith

  -- not below 0
  pub ratio_least : T (le Check.zero (x ⊘ y))
  ratio_least = subst (λ q. T (le Check.zero q)) (sym ratio_is)
      (not_below (round binary64 (unlike (sign x) false) (units_of x) (units_of y)) (unlike (sign x) false)
      (grid binary64 (units_of x) (units_of y)) (round-value (unlike (sign x) false) (units_of x) (units_of y) fits_in)
      (elim clear_or_none [ inl e ↦ inl (ap (λ s. unlike s false) e) | inr e ↦ inr (nothing e) ]))
    where
      some : (a b : ℕ) → a < b → 0 < b
      some a b h = omega arith

      few : (a b : ℕ) → a < b → a ≤ b * 2 ^ 1023
      few a b h = le_trans (le_of_lt h) (le_trans (le_of_eq (sym (mul-one b))) (mul-le-mul_left b (lit≤ tt)))

      fits_in : grid binary64 (units_of x) (units_of y) < overflow binary64
      fits_in = in-range (units_of x) (units_of y) (some (units_of x) (units_of y) smaller) (few (units_of x) (units_of y) smaller)

      none : (n : ℕ) → n ≤ 0 → n ≡ 0
      none n h = omega arith

      nothing : units_of x ≡ 0 → grid binary64 (units_of x) (units_of y) ≡ 0
      nothing e = none (grid binary64 (units_of x) (units_of y))
          (round-at_most (units_of x) (units_of y) (some (units_of x) (units_of y) smaller) 0 0 (lit< tt) (lit< tt) fits_in
          (subst (λ n. n * 2 ^ 1074 ≤ 0 * 2 ^ 0 * units_of y) (sym e) (zeros (units_of y) (2 ^ 1074))))
        where
          zeros : (b L : ℕ) → 0 * L ≤ 0 * 2 ^ 0 * b
          zeros b L = omega arith

-- within -1 and 1 nothing is clamped, and what is clamped is not above 1
clamped_domain : (q : Float) → Small 0 0 q → T (le Check.zero q) → T (asin.in_domain (clamped q)) × T (fits binary64 (clamped q))
unfolding clamped asin.in_domain
clamped_domain q a h = go (lt q (neg one)) refl (lt one q) refl
  where
    go : (b : Bool) → lt q (neg one) ≡ b → (c : Bool) → lt one q ≡ c → T
        (le asin.zero (cond b (neg one) (cond c one q)) && le (cond b (neg one) (cond c one q)) asin.one) × T
        (fits binary64 (cond b (neg one) (cond c one q)))
    go true e c f = absurd
        (le_not_lt Check.zero (neg one) (le_trans_float Check.zero q (neg one) h (le_of_lt_float q (neg one) (holds e)))
        (unfold lt neg of_bits in tt))
    go false e true f = (unfold le lt eq of_bits in tt, unfold fits of_bits in tt)
    go false e false f = (
      and_i (le Check.zero q) (le q one) h
          (elim (le-or-lt q one (not-nan q a.number) (unfold is_nan of_bits in tt)) [ inl l ↦ l | inr l ↦ absurd (fails f l) ]),
      a.held,
    )

-- ---- the tracks
module _ (contact : Contact) (wanted : Float) (hc : HeldContact contact) (tw : T (fits binary64 wanted))
    (cb : T (is_direction contact.bearing)) (cr : T (is_distance contact.range)) (w : T (is_distance (record { 0 = wanted })))
    (beyond : le contact.range.0 wanted ≡ false) where
  range_small : Small 14 0 contact.range.0
  range_small = distance-small contact.range hc.range cr

  wanted_small : Small 14 0 wanted
  wanted_small = distance-small (record { 0 = wanted }) tw w

  less : T (lt wanted contact.range.0)
  less = elim (le-or-lt contact.range.0 wanted (not-nan contact.range.0 range_small.number)
      (not-nan wanted wanted_small.number)) [ inl l ↦ absurd (fails beyond l) | inr l ↦ l ]

  not_negative : T (le Check.zero wanted)
  unfolding is_distance in_range
  not_negative = and_l (le Check.zero wanted) (le wanted Check.farthest) w

  -- the argument of the arcsine, and its angle in degrees
  pub grazing_domain : T (asin.in_domain (clamped (wanted ⊘ contact.range.0))) × T (fits binary64 (clamped (wanted ⊘ contact.range.0)))
  grazing_domain = clamped_domain (wanted ⊘ contact.range.0)
      (ratio_small wanted contact.range.0 tw hc.range wanted_small.number range_small.number not_negative less)
      (ratio_least wanted contact.range.0 tw hc.range wanted_small.number range_small.number not_negative less)

  aside_small : Small 7 0 (grazing wanted contact.range.0)
  unfolding grazing to_degrees
  aside_small = mul_small {p = 1} {q = 0} {r = 6} {t = 0} (lit≤ tt) (lit< tt)
      (asin-small (clamped (wanted ⊘ contact.range.0)) grazing_domain.1 grazing_domain.0) constant_small

  bearing_most : T (finite contact.bearing.0) × (units_of contact.bearing.0 ≤ 360 * 2 ^ 1074)
  unfolding is_direction
  bearing_most = at_most-units contact.bearing.0 Check.full_turn (360 * 2 ^ 1074) hc.bearing (unfold of_bits in (refl, refl))
      (unfold of_bits in and_l (le Check.zero contact.bearing.0) (lt contact.bearing.0 Check.full_turn) cb)
      (le_of_lt_float contact.bearing.0 Check.full_turn (and_r (le Check.zero contact.bearing.0) (lt contact.bearing.0 Check.full_turn) cb))

  half_units : Units half_turn false (180 * 2 ^ 1074)
  half_units = unfold of_bits in (refl, refl)

  half_most : units_of half_turn ≤ 180 * 2 ^ 1074
  half_most = le_of_eq (units_are half_turn false (180 * 2 ^ 1074) half_units)

  half_fits : T (fits binary64 half_turn)
  half_fits = unfold of_bits fits in tt

  half_finite : T (finite half_turn)
  half_finite = (finite_of_units half_turn false (180 * 2 ^ 1074) half_units).0

  abbrev away : Float
  away = contact.bearing.0 ⊕ half_turn

  away_most : units_of away ≤ 135 * 2 ^ 1076
  away_most = sum_most contact.bearing.0 half_turn 135 1076 hc.bearing bearing_most.0 half_fits half_finite (lit< tt) (lit≤ tt)
      (le_trans (add-le-add bearing_most.1 half_most) (lit≤ tt))

  away_small : Small 10 0 away
  away_small = add_small {p = 9} {q = 0} (lit≤ tt) (lit< tt) (direction_small contact.bearing hc.bearing cb) half_turn-small

  aside_most : units_of (grazing wanted contact.range.0) ≤ 128 * 2 ^ 1074
  aside_most = le_trans (le_of_eq (sym (mul-one (units_of (grazing wanted contact.range.0))))) aside_small.most

  -- either track is within 668 degrees
  pub tracks : (units_of (away ⊖ grazing wanted contact.range.0) ≤ 668 * 2 ^ 1074) ×
      (units_of (away ⊕ grazing wanted contact.range.0) ≤ 668 * 2 ^ 1074)
  unfolding sub
  tracks =
      let g = grazing wanted contact.range.0 in
      let m = neg_small aside_small in (
        le_trans (sum_most away (neg g) 167 1076 away_small.held away_small.number m.held m.number (lit< tt) (lit≤ tt)
            (le_trans (add-le-add away_most (le_trans (le_of_eq (sym (mul-one (units_of (neg g))))) m.most)) (lit≤ tt))) (lit≤ tt),
        le_trans (sum_most away g 167 1076 away_small.held away_small.number aside_small.held aside_small.number (lit< tt) (lit≤ tt)
            (le_trans (add-le-add away_most aside_most) (lit≤ tt))) (lit≤ tt),
      )

-- ---- every course that is kept is finite
abbrev FiniteBest : Option Best → Type 0
FiniteBest None = Unit {0}
FiniteBest (Some b) = T (finite b.course)

abbrev FiniteChoice : BySide (Option Best) → Type 0
FiniteChoice c = FiniteBest c.starboard × FiniteBest c.port

better : (b : Bool) (p q : Option Best) → FiniteBest p → FiniteBest q → FiniteBest (cond b p q)
better true p q f g = f
better false p q f g = g

smaller-finite : (best : Option Best) (a c : Float) → FiniteBest best → T (finite c) → FiniteBest (smaller-of best a c)
smaller-finite None a c f h = h
smaller-finite (Some b) a c f h = better (lt a b.alteration) (Some (offer a c)) (Some b) h f

larger-finite : (best : Option Best) (a c : Float) → FiniteBest best → T (finite c) → FiniteBest (larger-of best a c)
larger-finite None a c f h = h
larger-finite (Some b) a c f h = better (lt b.alteration a) (Some (offer a c)) (Some b) h f

offered-finite : (own course : Float) (choice : BySide (Option Best)) → T (finite course) → FiniteChoice choice
    → FiniteChoice (offered own course choice)
unfolding offered
offered-finite own course choice h f = go (lt Check.zero (half_fold (course ⊖ own))) (lt (half_fold (course ⊖ own)) Check.zero)
  where
    go : (b c : Bool) → FiniteChoice
        (cond b (record { starboard = smaller-of choice.starboard (half_fold (course ⊖ own)) course; port = choice.port })
        (cond c (record { starboard = choice.starboard; port = larger-of choice.port (half_fold (course ⊖ own)) course })
        (record { starboard = choice.starboard; port = choice.port })))
    go true c = (smaller-finite choice.starboard (half_fold (course ⊖ own)) course f.0 h, f.1)
    go false true = (f.0, larger-finite choice.port (half_fold (course ⊖ own)) course f.1 h)
    go false false = (f.0, f.1)

-- either of two choices
either : (b : Bool) (p q : BySide (Option Best)) → FiniteChoice p → FiniteChoice q → FiniteChoice (cond b p q)
either true p q f g = f
either false p q f g = g

-- one, along a track
track_small : (degrees : Float) → T (fits binary64 degrees) → T (finite degrees) → units_of degrees ≤ 668 * 2 ^ 1074
    → Small 0 0 (unit degrees).north × Small 0 0 (unit degrees).east
unfolding unit
track_small degrees t f h = let r = wide_radians degrees t f h in
    (cos-small (to_radians degrees) r.held (in-sine-domain r), sin-small (to_radians degrees) r.held (in-sine-domain r))

module _ (own : Vessel) (target : Components) (speed : Small 10 0 own.speed.0) (north : Small 10 0 target.north)
    (east : Small 10 0 target.east) where
  at_speed-finite : (track : Components) (v : Float) (choice : BySide (Option Best)) → Small 0 0 track.north → Small 0 0 track.east
      → Small 13 0 v → FiniteChoice choice → FiniteChoice (at_speed own.course.0 target track v choice)
  unfolding at_speed
  at_speed-finite track v choice tn te sv f =
      let n = sub_small {p = 13} {q = 0} (lit≤ tt) (lit< tt) (weaken 13 0 (lit≤ tt) north)
      (mul_small {p = 13} {q = 0} {r = 0} {t = 0} (lit≤ tt) (lit< tt) sv tn) in
      let e = sub_small {p = 13} {q = 0} (lit≤ tt) (lit< tt) (weaken 13 0 (lit≤ tt) east)
      (mul_small {p = 13} {q = 0} {r = 0} {t = 0} (lit≤ tt) (lit< tt) sv te) in
      let d = degrees_small (atan2-small (target.east ⊖ v ⊗ track.east) (target.north ⊖ v ⊗ track.north) e.number n.number) in
      either (le v Check.zero) choice
      (offered own.course.0 (to_degrees (atan2 (target.east ⊖ v ⊗ track.east) (target.north ⊖ v ⊗ track.north))) choice) f
      (offered-finite own.course.0
      (to_degrees (atan2 (target.east ⊖ v ⊗ track.east) (target.north ⊖ v ⊗ track.north))) choice d.number f)

  module _ (track : Components) (tn : Small 0 0 track.north) (te : Small 0 0 track.east) where
    abbrev projection : Float
    projection = target.north ⊗ track.north ⊕ target.east ⊗ track.east

    abbrev discriminant : Float
    discriminant = projection ⊗ projection ⊖ (target.north ⊗ target.north ⊕ target.east ⊗ target.east ⊖ own.speed.0 ⊗ own.speed.0)

    projection_small : Small 11 0 projection
    projection_small = add_small {p = 10} {q = 0} (lit≤ tt) (lit< tt)
        (mul_small {p = 10} {q = 0} {r = 0} {t = 0} (lit≤ tt) (lit< tt) north tn)
        (mul_small {p = 10} {q = 0} {r = 0} {t = 0} (lit≤ tt) (lit< tt) east te)

    discriminant_small : Small 24 0 discriminant
    discriminant_small =
        weaken 24 0 (lit≤ tt)
        (sub_small {p = 22} {q = 0} (lit≤ tt) (lit< tt)
        (mul_small {p = 11} {q = 0} {r = 11} {t = 0} (lit≤ tt) (lit< tt) projection_small projection_small)
        (sub_small {p = 21} {q = 0} (lit≤ tt) (lit< tt)
        (add_small {p = 20} {q = 0} (lit≤ tt) (lit< tt) (mul_small {p = 10} {q = 0} {r = 10} {t = 0} (lit≤ tt) (lit< tt) north north)
        (mul_small {p = 10} {q = 0} {r = 10} {t = 0} (lit≤ tt) (lit< tt) east east))
        (weaken 21 0 (lit≤ tt) (mul_small {p = 10} {q = 0} {r = 10} {t = 0} (lit≤ tt) (lit< tt) speed speed))))

    by_discriminant : (choice : BySide (Option Best)) → FiniteChoice choice → (b : Bool) → lt discriminant Check.zero ≡ b
        → FiniteChoice (cond b choice
        (at_speed own.course.0 target track (projection ⊖ sqrt discriminant)
        (at_speed own.course.0 target track (projection ⊕ sqrt discriminant) choice)))
    by_discriminant choice f true e = f
    by_discriminant choice f false e =
        let r = sqrt-small discriminant e discriminant_small in
        let p = weaken 12 0 (lit≤ tt) projection_small in
        at_speed-finite track (projection ⊖ sqrt discriminant)
        (at_speed own.course.0 target track (projection ⊕ sqrt discriminant) choice) tn te
        (sub_small {p = 12} {q = 0} (lit≤ tt) (lit< tt) p r)
        (at_speed-finite track (projection ⊕ sqrt discriminant) choice tn te (add_small {p = 12} {q = 0} (lit≤ tt) (lit< tt) p r) f)

  along-finite : (degrees : Float) (choice : BySide (Option Best)) → T (fits binary64 degrees) → T (finite degrees)
      → units_of degrees ≤ 668 * 2 ^ 1074 → FiniteChoice choice → FiniteChoice (along own target degrees choice)
  unfolding along
  along-finite degrees choice td fd most f = let u = track_small degrees td fd most in by_discriminant (unit degrees) u.0 u.1 choice f
      (lt (discriminant (unit degrees) u.0 u.1) Check.zero) refl

-- ---- the theorem
alteration_finite : (b : Option Best) → FiniteBest b → FiniteAlteration (alteration_to b)
alteration_finite None f = tt
alteration_finite (Some b) f = whole_fold_range b.course f

avoidance_finite : (choice : BySide (Option Best)) → FiniteChoice choice → FiniteCourse (avoidance_of choice)
unfolding avoidance_of
avoidance_finite choice f = go (is_nothing (alteration_to choice.starboard) && is_nothing (alteration_to choice.port))
  where
    go : (b : Bool) → FiniteCourse
        (cond b (Err Why.NoOtherCourse) (Ok (record { starboard = alteration_to choice.starboard; port = alteration_to choice.port })))
    go true = tt
    go false = (alteration_finite choice.starboard f.0, alteration_finite choice.port f.1)

module _ (own : Vessel) (contact : Contact) (target : Vessel) (desired : Distance) (ho : HeldVessel own) (hc : HeldContact contact)
    (ht : HeldVessel target) (hd : T (fits binary64 desired.0)) where
  for_finite : AllGood (encounter_checks own contact target ++ distance_checks desired)
      → FiniteCourse (course_for own contact target desired.0)
  unfolding encounter_checks course_for choice_of
  for_finite g = go (le contact.range.0 desired.0) refl (le own.speed.0 Check.zero)
    where
      kept : le contact.range.0 desired.0 ≡ false → FiniteChoice
          (along own (velocity target) (contact.bearing.0 ⊕ half_turn ⊕ grazing desired.0 contact.range.0)
          (along own (velocity target) (contact.bearing.0 ⊕ half_turn ⊖ grazing desired.0 contact.range.0)
          (record { starboard = None; port = None })))
      kept e =
          let cb = g.1.1.0 in
          let cr = g.1.1.1.0 in
          let w = g.1.1.1.1.1.1.0 in
          let v = velocity-small target ht g.1.1.1.1.0 g.1.1.1.1.1.0 in
          let o = speed_small own.speed ho.speed g.1.0 in
          let t = tracks contact desired.0 hc hd cb cr w e in
          let a = away_small contact desired.0 hc hd cb cr w e in
          let b = weaken 10 0 (lit≤ tt) (aside_small contact desired.0 hc hd cb cr w e) in
          let minus = sub_small {p = 10} {q = 0} (lit≤ tt) (lit< tt) a b in
          let plus = add_small {p = 10} {q = 0} (lit≤ tt) (lit< tt) a b in
          let first = contact.bearing.0 ⊕ half_turn ⊖ grazing desired.0 contact.range.0 in
          along-finite own (velocity target) o v.0 v.1 (contact.bearing.0 ⊕ half_turn ⊕ grazing desired.0 contact.range.0)
          (along own (velocity target) first (record { starboard = None; port = None })) plus.held plus.number t.1
          (along-finite own (velocity target) o v.0 v.1 first (record { starboard = None; port = None }) minus.held minus.number t.0
          (tt, tt))

      go : (b : Bool) → le contact.range.0 desired.0 ≡ b → (c : Bool) → FiniteCourse
          (cond b (Err Why.InsideDesired)
          (cond c (Err Why.NoOwnSpeed)
          (avoidance_of
          (along own (velocity target) (contact.bearing.0 ⊕ half_turn ⊕ grazing desired.0 contact.range.0)
          (along own (velocity target) (contact.bearing.0 ⊕ half_turn ⊖ grazing desired.0 contact.range.0)
          (record { starboard = None; port = None }))))))
      go true e c = tt
      go false e true = tt
      go false e false = avoidance_finite
          (along own (velocity target) (contact.bearing.0 ⊕ half_turn ⊕ grazing desired.0 contact.range.0)
          (along own (velocity target) (contact.bearing.0 ⊕ half_turn ⊖ grazing desired.0 contact.range.0)
          (record { starboard = None; port = None }))) (kept e)

  pub course-finite : FiniteCourse (course_answer own contact target desired)
  unfolding course_answer
  course-finite = go (verdict (encounter_checks own contact target ++ distance_checks desired) (Ok tt)) refl
    where
      go : (v : Result (Unit {0}) Refusal) → verdict (encounter_checks own contact target ++ distance_checks desired) (Ok tt) ≡ v
          → FiniteCourse (course_if_accepted v (course_for own contact target desired.0))
      go (Ok tt) e = for_finite (all_good (encounter_checks own contact target ++ distance_checks desired) e)
      go (Err why) e = tt
