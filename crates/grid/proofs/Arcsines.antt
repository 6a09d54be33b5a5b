-- The arcsine's two angles as document 01 asks for them: a place n / d, or half pi less n / d, is a rational angle, and the sum of the reduced angle is what the place's own sine or cosine is.
use mathlib.Core.Path.{◌≡◌, sym, ap}
use Prim.Native.Nat.{ℕ, ◌+◌, ◌*◌, ◌-◌, ◌^◌, ◌≤◌, ◌<◌}
use native.Mathlib.Nat.{mul-pos, mul-le-mul_left}
use native.Mathlib.Omega.{arith}
use lib.Dec.{lit<}
use mathlib.Core.Bool.{false}
use Rattle.laws.proofs.Numbers.{sub-add}
use Rattle.trigonometry.specs.Angle.{half_pi, whole, sine_sum}
use Rattle.grid.specs.Enclosure.{Angle, IsAtMost, IsAtLeast, IsArcsine}
use Rattle.grid.proofs.Enclosing.{up_at_most, up_at_least, down_at_most, down_at_least}
use Rattle.grid.proofs.Surrounding.{Place, up, down, Proper, SineAtMost, SineAtLeast, Before, After, Close, Surrounded}

abbrev angle : Place → Angle
angle (up n d) = record { top = whole * n; bottom = whole * d }
angle (down n d) = record { top = half_pi * d - n * whole; bottom = whole * d }

-- half pi less n / d has n / d left to half pi
left_over : (n d : ℕ) → 2 * n * whole < half_pi * d → half_pi * d - n * whole + n * whole ≡ half_pi * d
left_over n d h = sym (sub-add (half_pi * d) (n * whole) (less whole half_pi h))
  where
    less : (w p : ℕ) → 2 * n * w < p * d → n * w ≤ p * d
    less w p l = omega arith

proper : (l : Place) → Proper l → 0 < (angle l).bottom
proper (up n d) h = mul-pos (lit< tt) h.0
proper (down n d) h = mul-pos (lit< tt) h.0

low : (l : Place) (a b : ℕ) → Proper l → SineAtMost l a b → IsAtMost (sine_sum false (angle l).top (angle l).bottom) a b
low (up n d) a b h k = up_at_most n d h.0 h.1 a b k
low (down n d) a b h k = down_at_most n d h.0 h.1 a b (half_pi * d - n * whole) (left_over n d h.1) k

high : (l : Place) (a b : ℕ) → Proper l → SineAtLeast l a b → IsAtLeast (sine_sum false (angle l).top (angle l).bottom) a b
high (up n d) a b h k = up_at_least n d h.0 h.1 a b k
high (down n d) a b h k = down_at_least n d h.0 h.1 a b (half_pi * d - n * whole) (left_over n d h.1) k

before : (l : Place) (t s : ℕ) → Proper l → Before l t s → (angle l).top * s ≤ t * (angle l).bottom
before (up n d) t s h k = go whole
  where
    go : (w : ℕ) → w * n * s ≤ t * (w * d)
    go w = omega (arith, mul-le-mul_left w k)
before (down n d) t s h k = go whole half_pi (half_pi * d - n * whole) (left_over n d h.1) k
  where
    go : (w p x : ℕ) → x + n * w ≡ p * d → p * d * s ≤ t * w * d + n * w * s → x * s ≤ t * (w * d)
    go w p x e k = omega (arith, ap (λ z. z * s) e)

after : (l : Place) (t s : ℕ) → Proper l → After l t s → t * (angle l).bottom ≤ (angle l).top * s
after (up n d) t s h k = go whole
  where
    go : (w : ℕ) → t * (w * d) ≤ w * n * s
    go w = omega (arith, mul-le-mul_left w k)
after (down n d) t s h k = go whole half_pi (half_pi * d - n * whole) (left_over n d h.1) k
  where
    go : (w p x : ℕ) → x + n * w ≡ p * d → t * w * d + n * w * s ≤ p * d * s → t * (w * d) ≤ x * s
    go w p x e k = omega (arith, ap (λ z. z * s) e)

close : (W : ℕ) (l m : Place) → Proper l → Proper m → Close W l m → W * ((angle m).top * (angle l).bottom) ≤ W * ((angle l).top * (angle m).bottom) + (angle l).bottom * (angle m).bottom
close W (up n d) (up m e) g h k = go whole (mul-le-mul_left (whole * whole) k)
  where
    go : (w : ℕ) → w * w * (W * (m * d)) ≤ w * w * (W * (n * e) + d * e) → W * (w * m * (w * d)) ≤ W * (w * n * (w * e)) + w * d * (w * e)
    go w k = omega (arith, k)
close W (down n d) (down m e) g h k = go whole half_pi (half_pi * d - n * whole) (half_pi * e - m * whole) (left_over n d g.1) (left_over m e h.1) (mul-le-mul_left (whole * whole) k)
  where
    go : (w p x y : ℕ) → x + n * w ≡ p * d → y + m * w ≡ p * e → w * w * (W * (n * e)) ≤ w * w * (W * (m * d) + d * e) → W * (y * (w * d)) ≤ W * (x * (w * e)) + w * d * (w * e)
    go w p x y i j k = omega (arith, ap (λ z. W * (w * d) * z) j, ap (λ z. W * (w * e) * z) i)
close W (up n d) (down m e) g h k = go whole half_pi (half_pi * e - m * whole) (left_over m e h.1) (mul-le-mul_left whole k)
  where
    go : (w p y : ℕ) → y + m * w ≡ p * e → w * (W * (p * (d * e))) ≤ w * (W * (w * (m * d + n * e)) + w * (d * e)) → W * (y * (w * d)) ≤ W * (w * n * (w * e)) + w * d * (w * e)
    go w p y j k = omega (arith, ap (λ z. W * (w * d) * z) j)
close W (down n d) (up m e) g h k = go whole half_pi (half_pi * d - n * whole) (left_over n d g.1) (mul-le-mul_left whole k)
  where
    go : (w p x : ℕ) → x + n * w ≡ p * d → w * (W * (w * (m * d + n * e))) ≤ w * (W * (p * (d * e)) + w * (d * e)) → W * (w * m * (w * d)) ≤ W * (x * (w * e)) + w * d * (w * e)
    go w p x i k = omega (arith, ap (λ z. W * (w * e) * z) i)

pub is_arcsine : (t s a b : ℕ) → Surrounded t s a b → IsArcsine t s a b
is_arcsine t s a b r =
    record {
      lo = angle r.lo;
      hi = angle r.hi;
      lo_proper = proper r.lo r.lo_proper;
      hi_proper = proper r.hi r.hi_proper;
      before = before r.lo t s r.lo_proper r.before;
      after = after r.hi t s r.hi_proper r.after;
      close = close (2 ^ 46) r.lo r.hi r.lo_proper r.hi_proper r.close;
      low = low r.lo a b r.lo_proper r.at_most;
      high = high r.hi a b r.hi_proper r.at_least;
    }
