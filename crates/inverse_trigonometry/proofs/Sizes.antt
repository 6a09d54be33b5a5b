-- Sizes of the answers: an arcsine is at most 2, and an arctangent at most 16 in size.
use mathlib.Core.Bool.{Bool, ◌&&◌}
use Prim.Native.Nat.{ℕ, ◌*◌, ◌^◌, ◌≤◌, ◌<◌}
use native.Mathlib.Nat.{le_of_mul-le-mul_right, mul-le-mul_right}
use native.Mathlib.Omega.{arith}
use lib.Dec.{T, lit<, lit≤}
use lib.Ieee.{Float, binary64, fits, round, lt}
use lib.Ieee.Bits.{is_true}
use lib.Ieee.Fits.{round-fits, and_i}
use lib.Ieee.Scale.{finite}
use Rattle.laws.specs.Size.{Small}
use Rattle.laws.specs.Units.{units_of}
use Rattle.laws.proofs.Exact.{round_power}
use Rattle.laws.proofs.Size.{small_of_value}
use Rattle.trigonometry.specs.Angle.{half_pi, whole}
use Rattle.inverse_trigonometry.specs.Asin as Asin
use Rattle.inverse_trigonometry.specs.Atan2.{angle_steps, both_finite, atan2}
use Rattle.inverse_trigonometry.proofs.Arcsines.{arcsine_is}
use Rattle.inverse_trigonometry.proofs.Arctangents.{angle_few}

pub asin-small : (x : Float) → T (fits binary64 x) → T (Asin.in_domain x) → Small 1 0 (Asin.asin x)
asin-small x t d = let w = (arcsine_is x t).inside d in record { held = w.held; number = w.number; most = go (units_of (Asin.asin x)) (2 ^ 1074) whole half_pi w.most (lit≤ tt) (lit< tt) }
  where
    go : (u L w p : ℕ) → u * w ≤ p * L → p ≤ 2 * w → 0 < w → u * 1 ≤ 2 * L
    go u L w p h k pos = le_of_mul-le-mul_right {k = w} (last (mul-le-mul_right L k)) pos
      where
        last : p * L ≤ 2 * w * L → u * 1 * w ≤ 2 * L * w
        last m = omega arith

pub atan2-small : (y x : Float) → T (finite y) → T (finite x) → Small 4 0 (atan2 y x)
unfolding atan2 both_finite
atan2-small y x fy fx = rw (is_true (finite y && finite x) (and_i (finite y) (finite x) fy fx)) (made (lt y Asin.zero) (angle_steps (lt x Asin.zero) (units_of x) (units_of y)) (angle_few (lt x Asin.zero) (units_of x) (units_of y)))
  where
    made : (s : Bool) (n : ℕ) → n < 2 ^ 53 → Small 4 0 (round binary64 s n (2 ^ 49))
    made s n h = small_of_value (round binary64 s n (2 ^ 49)) s n (2 ^ 49) 4 0 (round-fits binary64 s n (2 ^ 49)) (lit< tt) (round_power s n 49 h (lit≤ tt)) (few n h)
      where
        few : (n : ℕ) → n < 2 ^ 53 → n * 2 ^ 0 ≤ 2 ^ 4 * 2 ^ 49
        few n h = omega arith
