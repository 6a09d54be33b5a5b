-- Bounds on the size of a float at powers of two. Such a bound is itself a float, so that a
-- rounding keeps it with no error term.
use Rattle.std.specs.Prelude.{ℕ, ◌*◌, ◌^◌, ◌≤◌, T, Float}
use Rattle.std.specs.Float.{binary64}
use Rattle.std.specs.Float.Ieee.{fits}
use Rattle.std.specs.Float.Ieee.Scale.{finite}
use Rattle.laws.specs.Units.{units_of}

-- x is a finite f64 of at most 2 ^ p / 2 ^ q in size
pub record Small (p q : ℕ) (x : Float) : Type 0 where
  pub held : T (fits binary64 x)
  pub number : T (finite x)
  pub most : units_of x * 2 ^ q ≤ 2 ^ p * 2 ^ 1074

-- x is a finite f64 of at least 2 ^ p / 2 ^ q in size
pub record AtLeast (p q : ℕ) (x : Float) : Type 0 where
  pub held : T (fits binary64 x)
  pub number : T (finite x)
  pub least : 2 ^ p * 2 ^ 1074 ≤ units_of x * 2 ^ q

-- x is a finite f64 of at most 2 ^ k times y in size
pub record Times (k : ℕ) (x y : Float) : Type 0 where
  pub held : T (fits binary64 x)
  pub number : T (finite x)
  pub most : units_of x ≤ 2 ^ k * units_of y
