-- Which values of 28 bits are accepted: a value is exactly so many 1/1024, and so compares with a limit as whole numbers do.
use mathlib.Core.Path.{◌≡◌, refl, ap, ◌∙◌}
use mathlib.Core.Bool.{true, false, ◌&&◌, ◌||◌}
use mathlib.Core.List.{[], ◌∷◌}
use Prim.Native.Nat.{ℕ, ◌*◌, ◌^◌, ◌<◌}
use native.Mathlib.Nat.{mul-one}
use native.Mathlib.Omega.{arith}
use lib.Dec.{ltb, leb, eqb, lit<, leb→le, le→leb}
use lib.Ieee.{Float, lt, le, of_bits}
use lib.Ieee.Exact.{HasValue}
use Rattle.laws.proofs.Bools.{same_test, and-true, le_of_test, test_of_le}
use Rattle.laws.proofs.Compare.{lt-values, le-values}
use Rattle.math.specs.Fold.{zero}
use Rattle.elementary.specs.Range.{in_range}
use Rattle.elementary.specs.declared.error.Refusal.TheVariants as Why
use Rattle.motion.specs.Check.{check, is_direction, is_speed, is_distance, full_turn, fastest, farthest}
use Rattle.sheet.specs.Values.{scaled}
use Rattle.sheet.proofs.Exactly.{exact}
use Rattle.sheet.specs.Accepted.{Accepted}

-- `<=` of floats that are whole numbers
as_leb : (a b : ℕ) → ltb a b || (eqb a b && true) ≡ leb a b
as_leb a b = ap (λ t. ltb a b || t) (and-true (eqb a b)) ∙ same_test (ltb a b || eqb a b) (leb a b) (λ t. le→leb a b (le_of_test a b t)) (λ t. test_of_le a b (leb→le a b t))

zero_is : HasValue zero false 0 1
unfolding of_bits
zero_is = (refl, refl)

turn_is : HasValue full_turn false 360 1
unfolding of_bits
turn_is = (refl, refl)

fastest_is : HasValue fastest false 1000 1
unfolding of_bits
fastest_is = (refl, refl)

farthest_is : HasValue farthest false 10000 1
unfolding of_bits
farthest_is = (refl, refl)

module _ (n : ℕ) (few : n < 2 ^ 28) where
  within : (limit : Float) (most : ℕ) → HasValue limit false most 1 → le (scaled n) limit ≡ leb n (most * 1024)
  within limit most is = le-values (scaled n) limit false false n 1024 most 1 (lit< tt) (lit< tt) (exact n few) is ∙ as_leb (n * 1) (most * 1024) ∙ ap (λ m. leb m (most * 1024)) (mul-one n)

  not_negative : le zero (scaled n) ≡ true
  not_negative = le-values zero (scaled n) false false 0 1 n 1024 (lit< tt) (lit< tt) zero_is (exact n few) ∙ as_leb (0 * 1024) (n * 1) ∙ same_test (leb (0 * 1024) (n * 1)) true (λ t. tt) (λ t. le→leb (0 * 1024) (n * 1) (omega arith))

  below_turn : lt (scaled n) full_turn ≡ ltb n (360 * 1024)
  below_turn = lt-values (scaled n) full_turn false false n 1024 360 1 (lit< tt) (lit< tt) (exact n few) turn_is ∙ ap (λ m. ltb m (360 * 1024)) (mul-one n)

  is_direction_lem : is_direction (record { 0 = scaled n }) ≡ ltb n (360 * 1024)
  unfolding is_direction
  is_direction_lem = ap (λ b. b && lt (scaled n) full_turn) not_negative ∙ below_turn

  is_within : (limit : Float) (most : ℕ) → HasValue limit false most 1 → in_range zero limit (scaled n) ≡ leb n (most * 1024)
  unfolding in_range
  is_within limit most is = ap (λ b. b && le (scaled n) limit) not_negative ∙ within limit most is

  is_speed_lem : is_speed (record { 0 = scaled n }) ≡ leb n (1000 * 1024)
  unfolding is_speed
  is_speed_lem = is_within fastest 1000 fastest_is

  is_distance_lem : is_distance (record { 0 = scaled n }) ≡ leb n (10000 * 1024)
  unfolding is_distance
  is_distance_lem = is_within farthest 10000 farthest_is

  pub accepted : Accepted n
  accepted = record { direction = is_direction_lem; speed = is_speed_lem; distance = is_distance_lem; wind = ap (λ b. check b Why.Angle ∷ []) is_direction_lem }
