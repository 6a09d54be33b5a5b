-- Sizes on accepted arguments: from directions, speeds and distances to offsets and velocities.
use Rattle.std.specs.Prelude.{Err, Ok}
use mathlib.Core.Path.{◌≡◌, refl, sym, ap, subst}
use mathlib.Core.Bool.{Bool, true, false, cond, true≢false}
use mathlib.Core.List.{List, [], ◌∷◌}
use Prim.Native.Nat.{ℕ, ◌+◌, ◌*◌, ◌^◌, ◌≤◌, ◌<◌}
use native.Mathlib.Nat.{le_trans, le_of_mul-le-mul_right}
use native.Mathlib.Omega.{arith}
use lib.IntN.{negsuc}
use lib.Dec.{T, lit<, lit≤}
use lib.Pow.{pow_pos}
use lib.Ieee.{Float, fin, binary64, fits, lt, le, div, round, of_bits}
use lib.Ieee.Fits.{and_l, and_r}
use Rattle.laws.specs.Size.{Small, AtLeast}
use Rattle.laws.specs.Units.{sign, units_of}
use Rattle.laws.proofs.Bools.{holds, test_of_le}
use Rattle.laws.proofs.Compare.{le-units}
use Rattle.laws.proofs.Order.{le_of_lt_float}
use Rattle.laws.proofs.Size.{units_small, mul_small, sub_small, div-small, small_of_tests, small_of_value, least_of_value}
use Rattle.math.specs.Sign.{abs}
use Rattle.math.specs.Convert.{degrees_per_radian, to_radians, to_degrees}
use Rattle.math.proofs.Sign.{abs-units}
use Rattle.math.specs.Fold.{half_turn}
use Rattle.trigonometry.specs.Sine as Sine
use Rattle.trigonometry.proofs.Sizes.{sin-small, cos-small}
use Rattle.elementary.specs.Range.{in_range}
use Rattle.std.specs.declared.result.Result.{Result}
use Rattle.elementary.specs.declared.error.Refusal.{Refusal}
use Rattle.motion.specs.declared.units.Direction.{Direction}
use Rattle.motion.specs.declared.units.Speed.{Speed}
use Rattle.motion.specs.declared.units.Distance.{Distance}
use Rattle.motion.specs.declared.vessel.Vessel.{Vessel}
use Rattle.motion.specs.declared.vessel.Contact.{Contact}
use Rattle.motion.specs.declared.vessel.Components.{Components}
use Rattle.motion.specs.Check.{zero, full_turn, fastest, farthest, Check, verdict, is_direction, is_speed, is_distance}
use Rattle.motion.specs.Vessel.{unit, resolved, velocity, offset, difference, relative_velocity}
use Rattle.relative_motion.specs.Sound.{HeldVessel, HeldContact, AllGood}

-- ---- what acceptance says
abbrev accepts : Result (Unit {0}) Refusal → Bool
accepts (Ok tt) = true
accepts (Err why) = false

pub all_good : (cs : List Check) → verdict cs (Ok tt) ≡ (Ok tt) → AllGood cs
unfolding verdict
all_good [] e = tt
all_good (c ∷ cs) e = go c.good refl (λ k. all_good cs k) e
  where
    go : (b : Bool) → c.good ≡ b → (verdict cs (Ok tt) ≡ (Ok tt) → AllGood cs) → cond b (verdict cs (Ok tt)) (Err c.why) ≡ (Ok tt) → T c.good × AllGood cs
    go true h rest k = (holds h, rest k)
    go false h rest k = absurd (true≢false (sym (ap accepts k)))

-- ---- the arguments
pub direction_small : (d : Direction) → T (fits binary64 d.0) → T (is_direction d) → Small 9 0 d.0
unfolding is_direction
direction_small d t h = small_of_tests d.0 full_turn (360 * 2 ^ 1074) 9 t (unfold of_bits in (refl, refl)) (lit≤ tt) (unfold of_bits in and_l (le zero d.0) (lt d.0 full_turn) h) (le_of_lt_float d.0 full_turn (and_r (le zero d.0) (lt d.0 full_turn) h))

pub speed_small : (s : Speed) → T (fits binary64 s.0) → T (is_speed s) → Small 10 0 s.0
unfolding is_speed in_range
speed_small s t h = small_of_tests s.0 fastest (1000 * 2 ^ 1074) 10 t (unfold of_bits in (refl, refl)) (lit≤ tt) (unfold of_bits in and_l (le zero s.0) (le s.0 fastest) h) (and_r (le zero s.0) (le s.0 fastest) h)

pub distance-small : (d : Distance) → T (fits binary64 d.0) → T (is_distance d) → Small 14 0 d.0
unfolding is_distance in_range
distance-small d t h = small_of_tests d.0 farthest (10000 * 2 ^ 1074) 14 t (unfold of_bits in (refl, refl)) (lit≤ tt) (unfold of_bits in and_l (le zero d.0) (le d.0 farthest) h) (and_r (le zero d.0) (le d.0 farthest) h)

pub half_turn-small : Small 9 0 half_turn
half_turn-small = small_of_value half_turn false (180 * 2 ^ 1074) (2 ^ 1074) 9 0 (unfold of_bits fits in tt) (pow_pos 1074) (unfold of_bits in (refl, refl)) (lit≤ tt)

-- ---- radians: a degree is less than 1 / 32 of one, and more than 1 / 64
pub constant : degrees_per_radian ≡ fin false 1007958012753983 (negsuc 43)
unfolding degrees_per_radian
constant = unfold div of_bits round in refl

constant_least : AtLeast 5 0 degrees_per_radian
constant_least = subst (AtLeast 5 0) (sym constant) (least_of_value (fin false 1007958012753983 (negsuc 43)) false 1007958012753983 (2 ^ 44) 5 0 (unfold fits in tt) (pow_pos (44)) (refl, refl) (lit≤ tt))

pub constant_small : Small 6 0 degrees_per_radian
constant_small = subst (Small 6 0) (sym constant) (small_of_value (fin false 1007958012753983 (negsuc 43)) false 1007958012753983 (2 ^ 44) 6 0 (unfold fits in tt) (pow_pos (44)) (refl, refl) (lit≤ tt))

pub radians_small : {x : Float} → Small 9 0 x → Small 9 5 (to_radians x)
unfolding to_radians
radians_small a = div-small {p = 9} {q = 0} {r = 5} {t = 0} (lit≤ tt) (lit< tt) a constant_least

pub degrees_small : {x : Float} → Small 4 0 x → Small 10 0 (to_degrees x)
unfolding to_degrees
degrees_small a = mul_small {p = 4} {q = 0} {r = 6} {t = 0} (lit≤ tt) (lit< tt) a constant_small

pub in-sine-domain : {x : Float} → Small 9 5 x → T (Sine.in_domain x)
unfolding Sine.in_domain
in-sine-domain {x} a = subst T (sym (le-units (abs x) Sine.largest (units_of x) (16 * 2 ^ 1074) (abs-units x (sign x) (units_of x) (units_small a)) (unfold of_bits in (refl, refl)))) (test_of_le (units_of x) (16 * 2 ^ 1074) (le_of_mul-le-mul_right {k = 2 ^ 5} (le_trans a.most (lit≤ tt)) (lit< tt)))

-- ---- offsets and velocities
module _ (d : Direction) (t : T (fits binary64 d.0)) (h : T (is_direction d)) where
  radians : Small 9 5 (to_radians d.0)
  radians = radians_small (direction_small d t h)

  pub direction_domain : T (Sine.in_domain (to_radians d.0))
  direction_domain = in-sine-domain radians

  pub unit-small : Small 0 0 (unit d.0).north × Small 0 0 (unit d.0).east
  unfolding unit
  unit-small = (cos-small (to_radians d.0) radians.held direction_domain, sin-small (to_radians d.0) radians.held direction_domain)

  pub resolved-small : {p : ℕ} (x : Float) → p < 1024 → Small p 0 x → Small p 0 (resolved x d).north × Small p 0 (resolved x d).east
  unfolding resolved
  resolved-small {p} x top a = (fit (mul_small {p = p} {q = 0} {r = 0} {t = 0} (low p) (high p top) a unit-small.0), fit (mul_small {p = p} {q = 0} {r = 0} {t = 0} (low p) (high p top) a unit-small.1))
    where
      low : (p : ℕ) → 0 ≤ p + 0 + 1074
      low p = omega arith

      high : (p : ℕ) → p < 1024 → p + 0 < 1024
      high p h = omega arith

      same : (p : ℕ) → p + 0 ≡ p
      same p = omega arith

      fit : {y : Float} → Small (p + 0) 0 y → Small p 0 y
      fit {y} a = subst (λ k. Small k 0 y) (same p) a

pub velocity-small : (v : Vessel) → HeldVessel v → T (is_direction v.course) → T (is_speed v.speed) → Small 10 0 (velocity v).north × Small 10 0 (velocity v).east
unfolding velocity
velocity-small v h c s = resolved-small v.course h.course c v.speed.0 (lit< tt) (speed_small v.speed h.speed s)

pub record Sized (position relative : Components) : Type 0 where
  pub position_north : Small 14 0 position.north
  pub position_east : Small 14 0 position.east
  pub relative_north : Small 11 0 relative.north
  pub relative_east : Small 11 0 relative.east

module _ (own : Vessel) (contact : Contact) (target : Vessel) (ho : HeldVessel own) (hc : HeldContact contact) (ht : HeldVessel target)
    (oc : T (is_direction own.course)) (os : T (is_speed own.speed)) (cb : T (is_direction contact.bearing)) (cr : T (is_distance contact.range)) (tc : T (is_direction target.course)) (ts : T (is_speed target.speed)) where
  pub sized : Sized (offset contact) (relative_velocity own target)
  unfolding offset relative_velocity difference
  sized =
      let o = resolved-small contact.bearing hc.bearing cb contact.range.0 (lit< tt) (distance-small contact.range hc.range cr) in
      let v = velocity-small own ho oc os in
      let w = velocity-small target ht tc ts in
      record { position_north = o.0; position_east = o.1; relative_north = sub_small {p = 10} {q = 0} (lit≤ tt) (lit< tt) w.0 v.0; relative_east = sub_small {p = 10} {q = 0} (lit≤ tt) (lit< tt) w.1 v.1 }
