-- The arcsine on 0 to 1 (01, "Arcsine"; docs/ELEMENTARY.md), and not a number outside. The answer is
-- a multiple of 2 ^ -52; the arcsine of a number below 2 ^ -17 is the number.
use Rattle.std.specs.Prelude.{◌≡◌, ◌*◌, ◌^◌, ◌≤◌, Bool, false, cond, not, ◌&&◌, T, from_bits, Float}
use Rattle.std.specs.Float.{nan, binary64}
use Rattle.std.specs.Float.Ieee.{fits, round, lt, le}
use Rattle.std.specs.Float.Ieee.Scale.{finite}
use Rattle.laws.specs.Units.{units_of}
use Rattle.trigonometry.specs.Angle.{half_pi, whole}
use Rattle.trigonometry.specs.Sine.{tiny, scaled}
use Rattle.grid.specs.Arcsine.{arcsine_units}
use Rattle.grid.specs.Enclosure.{IsArcsine}

abbrev pub zero : Float
zero = from_bits binary64 0

abbrev pub one : Float
one = from_bits binary64 0x3ff0_0000_0000_0000

unfoldable pub in_domain : Float → Bool
in_domain x = le zero x && le x one

unfoldable pub asin : Float → Float
unfolding in_domain scaled arcsine_units
asin x = cond (in_domain x) (cond (lt x tiny) x (round binary64 false (arcsine_units (scaled x)) (2 ^ 52))) nan

-- ---- what document 01 asks: a finite x is units_of x / 2 ^ 1074 in size, exactly
-- y is a finite f64 from 0 to half pi, between two angles whose sines enclose x
pub record Encloses (x y : Float) : Type 0 where
  pub held : T (fits binary64 y)
  pub number : T (finite y)
  pub least : T (le zero y)
  pub most : units_of y * whole ≤ half_pi * 2 ^ 1074
  pub enclosed : IsArcsine (units_of y) (2 ^ 1074) (units_of x) (2 ^ 1074)

pub record IsAsin (x y : Float) : Type 0 where
  pub inside : T (in_domain x) → Encloses x y
  pub outside : T (not (in_domain x)) → y ≡ nan
