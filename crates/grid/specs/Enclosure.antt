-- What document 01 asks of the arcsine: the answer lies between two angles at most 2 ^ -46 apart
-- whose sines, by the sum of the reduced angle, enclose the argument. And of the arctangent:
-- between two such angles y × cosine - x × sine changes its sign.
use Rattle.std.specs.Prelude.{◌≡◌, Bool, true, false, ℕ, ◌+◌, ◌*◌, ◌^◌, ◌≤◌, ◌<◌}
use Rattle.std.specs.Float.Ieee.{unlike}
use Rattle.trigonometry.specs.Angle.{half_pi, whole, Signed, sine_sum, cosine_sum}

-- the angle top / bottom
pub record Angle : Type 0 where
  pub top : ℕ
  pub bottom : ℕ

-- a fraction is at most a / b, or at least, and it is a fraction indeed
pub record IsAtMost (f : Signed) (a b : ℕ) : Type 0 where
  pub proper : 0 < f.bottom
  pub most : f.minus ≡ false → f.top * b ≤ a * f.bottom

pub record IsAtLeast (f : Signed) (a b : ℕ) : Type 0 where
  pub proper : 0 < f.bottom
  pub positive : f.minus ≡ false
  pub least : a * f.bottom ≤ f.top * b

-- t / s is an arcsine of a / b
pub record IsArcsine (t s a b : ℕ) : Type 0 where
  pub lo : Angle
  pub hi : Angle
  pub lo_proper : 0 < lo.bottom
  pub hi_proper : 0 < hi.bottom
  pub before : lo.top * s ≤ t * lo.bottom
  pub after : t * hi.bottom ≤ hi.top * s
  pub close : 2 ^ 46 * (hi.top * lo.bottom) ≤ 2 ^ 46 * (lo.top * hi.bottom) + lo.bottom * hi.bottom
  pub low : IsAtMost (sine_sum false lo.top lo.bottom) a b
  pub high : IsAtLeast (sine_sum false hi.top hi.bottom) a b

-- ---- the arctangent
-- ± p is at most ± q
abbrev pub Leq : Bool → ℕ → Bool → ℕ → Type 0
Leq false p false q = p ≤ q
Leq true p true q = q ≤ p
Leq true p false q = Unit {0}
Leq false p true q = p + q ≤ 0

-- at the angle ± top / bottom x sin ≤ y cos, for an x and a y with their signs: `left` says that x
-- is negative, `minus` that y and the angle are
pub record NotPast (minus left : Bool) (x y : ℕ) (at : Angle) : Type 0 where
  pub sine_proper : 0 < (sine_sum minus at.top at.bottom).bottom
  pub cosine_proper : 0 < (cosine_sum minus at.top at.bottom).bottom
  pub holds :
      Leq
      (unlike left (sine_sum minus at.top at.bottom).minus)
      (x * (sine_sum minus at.top at.bottom).top * (cosine_sum minus at.top at.bottom).bottom)
      (unlike minus (cosine_sum minus at.top at.bottom).minus)
      (y * (cosine_sum minus at.top at.bottom).top * (sine_sum minus at.top at.bottom).bottom)

-- and y cos ≤ x sin
pub record NotShort (minus left : Bool) (x y : ℕ) (at : Angle) : Type 0 where
  pub sine_proper : 0 < (sine_sum minus at.top at.bottom).bottom
  pub cosine_proper : 0 < (cosine_sum minus at.top at.bottom).bottom
  pub holds :
      Leq
      (unlike minus (cosine_sum minus at.top at.bottom).minus)
      (y * (cosine_sum minus at.top at.bottom).top * (sine_sum minus at.top at.bottom).bottom)
      (unlike left (sine_sum minus at.top at.bottom).minus)
      (x * (sine_sum minus at.top at.bottom).top * (cosine_sum minus at.top at.bottom).bottom)

-- the sign of y cos - x sin at the end nearer to 0, and at the other: it falls from 0 on and, to
-- the other side, it rises
abbrev pub Nearer : (minus left : Bool) (x y : ℕ) → Angle → Type 0
Nearer false left x y at = NotPast false left x y at
Nearer true left x y at = NotShort true left x y at

abbrev pub Farther : (minus left : Bool) (x y : ℕ) → Angle → Type 0
Farther false left x y at = NotShort false left x y at
Farther true left x y at = NotPast true left x y at

-- t / s lies in the quadrant of the signs: up to half pi, or from half pi to pi
abbrev pub Quadrant : Bool → ℕ → ℕ → Type 0
Quadrant false t s = t * whole ≤ half_pi * s
Quadrant true t s = (half_pi * s ≤ t * whole) × (t * whole ≤ 2 * (half_pi * s))

-- ± t / s, with the sign of y, is an angle of the point (± x, ± y), up to a common scale of x and y
pub record IsArctangent (minus left : Bool) (x y t s : ℕ) : Type 0 where
  pub quadrant : Quadrant left t s
  pub lo : Angle
  pub hi : Angle
  pub lo_proper : 0 < lo.bottom
  pub hi_proper : 0 < hi.bottom
  pub before : lo.top * s ≤ t * lo.bottom
  pub after : t * hi.bottom ≤ hi.top * s
  pub close : 2 ^ 46 * (hi.top * lo.bottom) ≤ 2 ^ 46 * (lo.top * hi.bottom) + lo.bottom * hi.bottom
  pub low : Nearer minus left x y lo
  pub high : Farther minus left x y hi
