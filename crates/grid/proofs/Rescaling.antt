-- The answer and the argument of an enclosure in other units.
use mathlib.Core.Path.{◌≡◌, ap}
use mathlib.Core.Bool.{Bool, true, false}
use Prim.Native.Nat.{ℕ, ◌*◌, ◌≤◌, ◌<◌}
use native.Mathlib.Nat.{le_of_mul-le-mul_right, mul-le-mul_right}
use native.Mathlib.Omega.{arith}
use lib.Ieee.{unlike}
use Rattle.trigonometry.specs.Angle.{half_pi, whole, sine_sum, cosine_sum}
use Rattle.grid.specs.Enclosure.{Angle, IsArcsine, Leq, NotPast, NotShort, Nearer, Farther, Quadrant, IsArctangent}

-- ---- t / s is t' / s'
module _ (t s t' s' : ℕ) (S : 0 < s) (e : t' * s ≡ t * s') where
  below : (a b : ℕ) → a * s ≤ t * b → a * s' ≤ t' * b
  below a b h = le_of_mul-le-mul_right {k = s} (go (mul-le-mul_right s' h) (ap (λ z. z * b) e)) S
    where
      go : a * s * s' ≤ t * b * s' → t' * s * b ≡ t * s' * b → a * s' * s ≤ t' * b * s
      go i j = omega arith

  above : (a b : ℕ) → t * b ≤ a * s → t' * b ≤ a * s'
  above a b h = le_of_mul-le-mul_right {k = s} (go (mul-le-mul_right s' h) (ap (λ z. z * b) e)) S
    where
      go : t * b * s' ≤ a * s * s' → t' * s * b ≡ t * s' * b → t' * b * s ≤ a * s' * s
      go i j = omega arith

  pub same_arcsine : (a b : ℕ) → IsArcsine t s a b → IsArcsine t' s' a b
  same_arcsine a b r =
      record {
        lo = r.lo;
        hi = r.hi;
        lo_proper = r.lo_proper;
        hi_proper = r.hi_proper;
        before = below r.lo.top r.lo.bottom r.before;
        after = above r.hi.top r.hi.bottom r.after;
        close = r.close;
        low = r.low;
        high = r.high;
      }

  same_quadrant : (left : Bool) → Quadrant left t s → Quadrant left t' s'
  same_quadrant false h = above half_pi whole h
  same_quadrant true h = (below half_pi whole h.0, twice half_pi whole h.1)
    where
      twice : (p w : ℕ) → t * w ≤ 2 * (p * s) → t' * w ≤ 2 * (p * s')
      twice p w h = le_of_mul-le-mul_right {k = s} (go (mul-le-mul_right s' h) (ap (λ z. z * w) e)) S
        where
          go : t * w * s' ≤ 2 * (p * s) * s' → t' * s * w ≡ t * s' * w → t' * w * s ≤ 2 * (p * s') * s
          go i j = omega arith

  pub same_arctangent : (minus left : Bool) (x y : ℕ) → IsArctangent minus left x y t s → IsArctangent minus left x y t' s'
  same_arctangent minus left x y r =
      record {
        quadrant = same_quadrant left r.quadrant;
        lo = r.lo;
        hi = r.hi;
        lo_proper = r.lo_proper;
        hi_proper = r.hi_proper;
        before = below r.lo.top r.lo.bottom r.before;
        after = above r.hi.top r.hi.bottom r.after;
        close = r.close;
        low = r.low;
        high = r.high;
      }

-- ---- x and y over a common scale k
module _ (k : ℕ) (K : 0 < k) where
  fewer : (a b : Bool) (x s c y d e : ℕ) → Leq a (x * k * s * c) b (y * k * d * e) → Leq a (x * s * c) b (y * d * e)
  fewer false false x s c y d e h = le_of_mul-le-mul_right {k = k} (omega arith) K
  fewer true true x s c y d e h = le_of_mul-le-mul_right {k = k} (omega arith) K
  fewer true false x s c y d e h = tt
  fewer false true x s c y d e h = le_of_mul-le-mul_right {k = k} (omega arith) K

  less_past : (minus left : Bool) (x y : ℕ) (at : Angle) → NotPast minus left (x * k) (y * k) at → NotPast minus left x y at
  less_past minus left x y at r = let s = sine_sum minus at.top at.bottom in let c = cosine_sum minus at.top at.bottom in record { sine_proper = r.sine_proper; cosine_proper = r.cosine_proper; holds = fewer (unlike left s.minus) (unlike minus c.minus) x s.top c.bottom y c.top s.bottom r.holds }

  less_short : (minus left : Bool) (x y : ℕ) (at : Angle) → NotShort minus left (x * k) (y * k) at → NotShort minus left x y at
  less_short minus left x y at r = let s = sine_sum minus at.top at.bottom in let c = cosine_sum minus at.top at.bottom in record { sine_proper = r.sine_proper; cosine_proper = r.cosine_proper; holds = fewer (unlike minus c.minus) (unlike left s.minus) y c.top s.bottom x s.top c.bottom r.holds }

  nearer : (minus left : Bool) (x y : ℕ) (at : Angle) → Nearer minus left (x * k) (y * k) at → Nearer minus left x y at
  nearer false left x y at r = less_past false left x y at r
  nearer true left x y at r = less_short true left x y at r

  farther : (minus left : Bool) (x y : ℕ) (at : Angle) → Farther minus left (x * k) (y * k) at → Farther minus left x y at
  farther false left x y at r = less_short false left x y at r
  farther true left x y at r = less_past true left x y at r

  pub same_point : (minus left : Bool) (x y t s : ℕ) → IsArctangent minus left (x * k) (y * k) t s → IsArctangent minus left x y t s
  same_point minus left x y t s r =
      record {
        quadrant = r.quadrant;
        lo = r.lo;
        hi = r.hi;
        lo_proper = r.lo_proper;
        hi_proper = r.hi_proper;
        before = r.before;
        after = r.after;
        close = r.close;
        low = nearer minus left x y r.lo r.low;
        high = farther minus left x y r.hi r.high;
      }
