-- Sine and cosine (01, "Sine, cosine"; docs/ELEMENTARY.md): up to 16 radians either sign, by
-- whole numbers of 2 ^ -58, and not a number outside. The answer is a multiple of 2 ^ -53; the sine
-- of an angle below 2 ^ -17 is the angle.
use Rattle.std.specs.Prelude.{◌≡◌, ℕ, ◌+◌, ◌*◌, ◌/◌, ◌^◌, ◌≤◌, Bool, cond, not, T, from_bits, Float}
use Rattle.std.specs.Float.{nan, binary64}
use Rattle.std.specs.Float.Ieee.{fits, round, lt, le, unlike}
use Rattle.std.specs.Float.Ieee.Scale.{finite}
use Rattle.laws.specs.Units.{sign, units_of}
use Rattle.math.specs.Sign.{abs}
use Rattle.trigonometry.specs.Angle.{Signed, sine_sum, cosine_sum, Close}
use Rattle.trigonometry.specs.Units.{turned_minus, turned_units}

-- 16 and 2 ^ -17
abbrev pub largest : Float
largest = from_bits binary64 0x4030_0000_0000_0000

abbrev pub tiny : Float
tiny = from_bits binary64 0x3ee0_0000_0000_0000

unfoldable pub in_domain : Float → Bool
unfolding abs
in_domain x = le (abs x) largest

-- the size of x in units of 2 ^ -58, cut to a whole number
unfoldable pub scaled : Float → ℕ
unfolding units_of
scaled x = units_of x * 2 ^ 58 / 2 ^ 1074

-- ± v units as an f64, to the nearest multiple of 2 ^ -53
unfoldable pub from_units : Bool → ℕ → Float
from_units s v = round binary64 s ((v + 16) / 32) (2 ^ 53)

unfoldable pub sin : Float → Float
unfolding abs in_domain scaled from_units turned_minus turned_units
sin x = cond (lt (abs x) tiny) x (cond (in_domain x) (from_units (unlike (sign x) (turned_minus 0 (scaled x))) (turned_units 0 (scaled x))) nan)

unfoldable pub cos : Float → Float
unfolding in_domain scaled from_units turned_minus turned_units
cos x = cond (in_domain x) (from_units (turned_minus 1 (scaled x)) (turned_units 1 (scaled x))) nan

-- ---- what document 01 asks: a finite x is units_of x / 2 ^ 1074 in size, exactly
unfoldable pub sine_of : Float → Signed
unfolding units_of sine_sum
sine_of x = sine_sum (sign x) (units_of x) (2 ^ 1074)

unfoldable pub cosine_of : Float → Signed
unfolding units_of cosine_sum
cosine_of x = cosine_sum (sign x) (units_of x) (2 ^ 1074)

-- y is a finite f64 from -1 to 1, within 2 ^ -48 = 2 ^ 1026 / 2 ^ 1074 of the fraction
pub record Value (f : Signed) (y : Float) : Type 0 where
  pub held : T (fits binary64 y)
  pub number : T (finite y)
  pub most : units_of y ≤ 2 ^ 1074
  pub within : Close (2 ^ 1074) (sign y) (units_of y) f (2 ^ 1026)

pub record IsSine (x y : Float) : Type 0 where
  pub inside : T (in_domain x) → Value (sine_of x) y
  pub outside : T (not (in_domain x)) → y ≡ nan

pub record IsCosine (x y : Float) : Type 0 where
  pub inside : T (in_domain x) → Value (cosine_of x) y
  pub outside : T (not (in_domain x)) → y ≡ nan
