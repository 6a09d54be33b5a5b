-- The hypotenuse (document 01, 'Elementary functions'), for finite sides of at most 2 ^ 500: the
-- larger magnitude if a side is 0 or the larger magnitude is below 2 ^ -500, and else the root of
-- the sum of the squares.
use Rattle.std.specs.Prelude.{◌≡◌, Bool, false, not, ◌&&◌, ◌||◌, cond, ◌⊎◌, ℕ, ◌+◌, ◌*◌, ◌^◌, ◌≤◌, ◌<◌, T, ltb, Float}
use Rattle.std.specs.Float.{nan, binary64}
use Rattle.std.specs.Float.Ieee.{fits, add, mul, lt, le, eq, of_bits}
use Rattle.std.specs.Float.Ieee.Scale.{finite}
use Rattle.laws.specs.Units.{sign, units_of}
use Rattle.math.specs.Sign.{abs}
use Rattle.roots.specs.Sqrt.{sqrt}

-- 2 ^ 500 and 2 ^ -500
abbrev pub largest : Float
largest = of_bits binary64 0x5f30_0000_0000_0000

abbrev pub small : Float
small = of_bits binary64 0x20b0_0000_0000_0000

-- finite, and at most 2 ^ 500 in size
unfoldable pub in_domain : Float → Bool
unfolding abs
in_domain x = le (abs x) largest

-- u is the larger
unfoldable pub hypot_ordered : Float → Float → Float
unfolding sqrt
hypot_ordered u v = cond (eq v (of_bits binary64 0) || lt u small) u (sqrt (add binary64 (mul binary64 u u) (mul binary64 v v)))

unfoldable pub hypot : Float → Float → Float
unfolding in_domain hypot_ordered abs
hypot x y = let a = abs x in let b = abs y in cond (in_domain x && in_domain y) (cond (lt a b) (hypot_ordered b a) (hypot_ordered a b)) nan

-- ---- what document 01 asks of r, in units of 2 ^ -1074: 2 ^ 574 of them are 2 ^ -500
abbrev pub larger : ℕ → ℕ → ℕ
larger a b = cond (ltb a b) b a

pub record Hypotenuse (x y r : Float) : Type 0 where
  pub held : T (fits binary64 r)
  pub number : T (finite r)
  pub positive : sign r ≡ false
  pub plain : (units_of x ≡ 0) ⊎ (units_of y ≡ 0) ⊎ (larger (units_of x) (units_of y) < 2 ^ 574) → units_of r ≡ larger (units_of x) (units_of y)
  pub over : 0 < units_of x → 0 < units_of y → 2 ^ 574 ≤ larger (units_of x) (units_of y)
      → 2 ^ 50 * (units_of r * units_of r) ≤ (2 ^ 50 + 1) * (units_of x * units_of x + units_of y * units_of y)
  pub under : 0 < units_of x → 0 < units_of y → 2 ^ 574 ≤ larger (units_of x) (units_of y)
      → 2 ^ 50 * (units_of x * units_of x + units_of y * units_of y) ≤ 2 ^ 50 * (units_of r * units_of r) + (units_of x * units_of x + units_of y * units_of y)

-- inside the domain as above, and NaN outside it
pub record IsHypot (x y r : Float) : Type 0 where
  pub inside : T (in_domain x && in_domain y) → Hypotenuse x y r
  pub outside : T (not (in_domain x && in_domain y)) → r ≡ nan
