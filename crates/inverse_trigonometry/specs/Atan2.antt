-- The arctangent of (y, x), both finite (01, "Arctangent"; docs/ELEMENTARY.md), and not a number
-- otherwise: the angle of the point (x, y), a multiple of 2 ^ -49 with the sign of y.
use Rattle.std.specs.Prelude.{◌≡◌, Bool, true, false, not, ◌&&◌, cond, ℕ, ◌*◌, ◌/◌, ◌^◌, ◌<◌, T, eqb, ltb, Float}
use Rattle.std.specs.Float.{nan, binary64}
use Rattle.std.specs.Float.Ieee.{fits, round, lt, size}
use Rattle.std.specs.Float.Ieee.Scale.{finite}
use Rattle.laws.specs.Units.{sign, units_of}
use Rattle.trigonometry.specs.Angle.{half_pi, whole}
use Rattle.grid.specs.Arcsine.{half_pi_steps}
use Rattle.grid.specs.Arctangent.{arctangent_steps, placed}
use Rattle.grid.specs.Enclosure.{IsArctangent}
use Rattle.inverse_trigonometry.specs.Asin.{zero}

-- a, scaled by the power of two that gives `larger` 58 digits, and cut
unfoldable pub scaled_by : ℕ → ℕ → ℕ
scaled_by larger a = a * 2 ^ 58 / 2 ^ size larger

-- the arctangent of smaller / larger, in steps
unfoldable pub octant : ℕ → ℕ → ℕ
octant larger smaller = arctangent_steps (scaled_by larger larger) (scaled_by larger smaller)

-- the angle of (± x, y), in steps: on an axis, or by the octant; `left` says that x is below 0
unfoldable pub angle_steps : Bool → ℕ → ℕ → ℕ
angle_steps left x y =
    cond (eqb y 0) (cond left (2 * half_pi_steps) 0)
    (cond (eqb x 0) half_pi_steps (cond (ltb x y) (placed true left (octant y x)) (placed false left (octant x y))))

unfoldable pub both_finite : Float → Float → Bool
both_finite y x = finite y && finite x

unfoldable pub atan2 : Float → Float → Float
unfolding both_finite angle_steps
atan2 y x = cond (both_finite y x) (round binary64 (lt y zero) (angle_steps (lt x zero) (units_of x) (units_of y)) (2 ^ 49)) nan

-- ---- what document 01 asks: a finite x is units_of x / 2 ^ 1074 in size, exactly
-- r is a finite f64; on an axis the one nearest to the angle, elsewhere one in the quadrant of the
-- signs between two angles at which y × cosine - x × sine changes its sign
pub record IsAngle (y x r : Float) : Type 0 where
  pub held : T (fits binary64 r)
  pub number : T (finite r)
  pub zeros : units_of y ≡ 0 → units_of x ≡ 0 → units_of r ≡ 0
  pub ahead : units_of y ≡ 0 → lt x zero ≡ false → units_of r ≡ 0
  pub behind : units_of y ≡ 0 → lt x zero ≡ true → r ≡ round binary64 false (2 * half_pi) whole
  pub up : units_of x ≡ 0 → lt zero y ≡ true → r ≡ round binary64 false half_pi whole
  pub down : units_of x ≡ 0 → lt y zero ≡ true → r ≡ round binary64 true half_pi whole
  pub sign_of_y : 0 < units_of x → 0 < units_of y → sign r ≡ sign y
  pub enclosed : 0 < units_of x → 0 < units_of y → IsArctangent (sign y) (sign x) (units_of x) (units_of y) (units_of r) (2 ^ 1074)

pub record IsAtan2 (y x r : Float) : Type 0 where
  pub inside : T (both_finite y x) → IsAngle y x r
  pub outside : T (not (both_finite y x)) → r ≡ nan
