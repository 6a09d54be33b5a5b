-- The sine and the cosine of any rational angle (01, "Sine, cosine"): the nearest multiple of half
-- pi is removed, exactly, and Taylor's sum of what is left is taken with the sign of its quarter.
use Rattle.std.specs.Prelude.{Bool, ◌&&◌, cond, ℕ, ◌+◌, ◌*◌, ◌-◌, ◌/◌, ◌%◌, ◌≤◌, ◌<◌, leb, ltb, eqb}
use Rattle.std.specs.Float.Ieee.{unlike}
use Rattle.trigonometry.specs.Taylor.{sine_num, sine_den, cosine_num, cosine_den}

-- half pi is half_pi / whole: 1.57079632679489661923
abbrev pub half_pi : ℕ
half_pi = 157079632679489661923

abbrev pub whole : ℕ
whole = 100000000000000000000

unfoldable pub distance : ℕ → ℕ → ℕ
distance a b = (a - b) + (b - a)

-- how many times half pi is nearest to a / b
unfoldable pub quarters : ℕ → ℕ → ℕ
quarters a b = (2 * (whole * a) + half_pi * b) / (2 * (half_pi * b))

-- k half pis are as near to a / b as any other number of them
pub record NearestMultiple (a b k : ℕ) : Type 0 where
  pub nearest : (j : ℕ) → distance (a * whole) (k * half_pi * b) ≤ distance (a * whole) (j * half_pi * b)
  pub half : 2 * distance (a * whole) (k * half_pi * b) ≤ half_pi * b

-- a fraction with its sign
pub record Signed : Type 0 where
  pub minus : Bool
  pub top : ℕ
  pub bottom : ℕ

-- an angle of q half pis and a rest: by the sine of the rest where q is even, by its cosine where q
-- is odd
unfoldable pub even : ℕ → Bool
even q = eqb (q % 2) 0

-- whether its sine is negative; `below` says that the rest is taken away
unfoldable pub negative : ℕ → Bool → Bool
negative q below = unlike (leb 2 (q % 4)) (even q && below)

-- the sine of q half pis and ± n / d
unfoldable pub turned : ℕ → Bool → ℕ → ℕ → Signed
turned q below n d =
    record {
      minus = negative q below;
      top = cond (even q) (sine_num n d) (cosine_num n d);
      bottom = cond (even q) (sine_den d) (cosine_den d);
    }

-- the sine of a / b and `more` half pis
unfoldable pub reduced : ℕ → ℕ → ℕ → Signed
reduced more a b = let k = quarters a b in turned (k + more) (ltb (a * whole) (k * half_pi * b)) (distance (a * whole) (k * half_pi * b)) (b * whole)

unfoldable pub negated : Bool → Signed → Signed
negated s f = record { minus = unlike s f.minus; top = f.top; bottom = f.bottom }

-- the sine and the cosine of a / b, or of - a / b where s is true
unfoldable pub sine_sum : Bool → ℕ → ℕ → Signed
sine_sum s a b = negated s (reduced 0 a b)

unfoldable pub cosine_sum : Bool → ℕ → ℕ → Signed
cosine_sum s a b = reduced 1 a b

-- how far ± a and ± b are apart
unfoldable pub gap : Bool → ℕ → Bool → ℕ → ℕ
gap s a t b = cond (unlike s t) (a + b) (distance a b)

-- ± p / S is within e / S of a fraction, and that is a fraction indeed
pub record Close (S : ℕ) (s : Bool) (p : ℕ) (f : Signed) (e : ℕ) : Type 0 where
  pub proper : 0 < f.bottom
  pub close : gap s (p * f.bottom) f.minus (f.top * S) ≤ e * f.bottom
