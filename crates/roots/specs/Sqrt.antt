-- The square root of an f64, rounded to the nearest (document 01, 'Elementary functions'): the
-- method, by whole numbers, and what it is to be the nearest.
use Rattle.std.specs.Prelude.{◌≡◌, true, false, ℕ, zero, suc, ◌+◌, ◌*◌, ◌-◌, ◌^◌, ◌/◌, ◌%◌, ◌<◌, T, Float}
use Rattle.std.specs.Float.{nan, inf, fin, binary64}
use Rattle.std.specs.Float.Ieee.{fits, size, units}
use Rattle.std.specs.Float.Ieee.Scale.{finite}
use Rattle.laws.specs.Units.{sign, units_of}
use Rattle.roots.specs.Root.{isqrt}

-- ---- the method. x is n units of 2 ^ -1074, so its root is the root of n * 2 ^ 1074, in units.
-- That number is M * 4 ^ k, with k taken so that M has 105 or 106 digits; then the nearest whole
-- number to the root of M has 53, and k more places are zero.
unfoldable pub places : ℕ → ℕ
unfolding size
places n = (size (n * 2 ^ 1074) - 105) / 2

-- the nearest whole number to the root of M is the whole part of (2 √M + 1) / 2
unfoldable pub digits : ℕ → ℕ
unfolding places isqrt
digits n = (isqrt (4 * (n * 2 ^ 1074 / (2 ^ places n * 2 ^ places n))) + 1) / 2

-- -0 and plus infinity stay, negative numbers and NaN give NaN
unfoldable pub sqrt : Float → Float
unfolding units_of units places digits
sqrt nan = nan
sqrt (inf true) = nan
sqrt (inf false) = inf false
sqrt (fin s zero e) = fin s zero e
sqrt (fin true (suc m) e) = nan
sqrt (fin false (suc m) e) = let n = units_of (fin false (suc m) e) in units binary64 false (digits n) (places n)

-- ---- the nearest f64 to the root of x, in units: x is n of them, r is a, y is b, and the root's
-- square is n * 2 ^ 1074.
-- For any other f64 y, the root lies on r's side of the middle between r and y. So no f64 is as
-- near as r, and there is no tie.
pub record Nearest (x r : Float) : Type 0 where
  pub held : T (fits binary64 r)
  pub number : T (finite r)
  pub positive : sign r ≡ false
  pub above : (y : Float) → T (fits binary64 y) → T (finite y) → units_of r < units_of y
      → 4 * (units_of x * 2 ^ 1074) < (units_of r + units_of y) * (units_of r + units_of y)
  pub below : (y : Float) → T (fits binary64 y) → T (finite y) → units_of y < units_of r
      → (units_of r + units_of y) * (units_of r + units_of y) < 4 * (units_of x * 2 ^ 1074)

-- r is the square root of x, rounded
abbrev pub IsSqrt : Float → Float → Type 0
IsSqrt nan r = r ≡ nan
IsSqrt (inf true) r = r ≡ nan
IsSqrt (inf false) r = r ≡ inf false
IsSqrt (fin s zero e) r = r ≡ fin s zero e
IsSqrt (fin true (suc m) e) r = r ≡ nan
IsSqrt (fin false (suc m) e) r = Nearest (fin false (suc m) e) r

-- ---- the root of m * 2 ^ j / 2 ^ 2148, for an m of 53 digits, as the code finds it: its digits
-- and its bit pattern
unfoldable pub root_digits : ℕ → ℕ → ℕ
unfolding isqrt
root_digits m j = (isqrt (m * (1 + j % 2) * 2 ^ 54) + 1) / 2

unfoldable pub root_pattern : ℕ → ℕ → ℕ
unfolding root_digits
root_pattern m j = (j - 52) / 2 * 2 ^ 52 + root_digits m j
