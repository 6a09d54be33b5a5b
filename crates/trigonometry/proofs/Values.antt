-- The sine and the cosine of an angle of R units against the exact sums at n / d, both at most 4 / 5.
--
-- The square of the angle is off by 8 / 5 of the angle's error and one cut, the series by at most e (proofs/Horner), the sine by the angle's error, 4 / 5 of e and one cut, the cosine by half of the square's error, a third of e and one cut.
use Prim.Native.Nat.{ℕ, ◌+◌, ◌*◌, ◌/◌, ◌≤◌, ◌<◌}
use native.Mathlib.Nat.{le_trans, mul-one, one-mul, mul-le-mul, div-mul-le_self, le_of_mul-le-mul_right, div-le_of_le-mul}
use native.Mathlib.Omega.{arith}
use Rattle.trigonometry.specs.Taylor.{num, den, sine_divisors, cosine_divisors, sine_num, sine_den, cosine_num, cosine_den}
use Rattle.trigonometry.specs.Units.{horner, square, sine_units, cosine_units}
use Rattle.trigonometry.proofs.Near.{Near, near_weaken, near_mul, near_minus}
use Rattle.trigonometry.proofs.Horner.{AtLeast, num-le-den, horner-le, horner_near, exact_le}

pub sine_at_least : AtLeast 6 sine_divisors
unfolding AtLeast sine_divisors
sine_at_least = omega arith

pub cosine_at_least : AtLeast 6 cosine_divisors
unfolding AtLeast cosine_divisors
cosine_at_least = omega arith

pub square-small : (S R : ℕ) → 0 < S → 5 * R ≤ 4 * S → 3 * (R * R / S) ≤ 2 * S
square-small S R hS h = le_of_mul-le-mul_right {k = S} (go (R * R / S) (div-mul-le_self (R * R) S) (mul-le-mul h h)) hS
  where
    go : (Z : ℕ) → Z * S ≤ R * R → 5 * R * (5 * R) ≤ 4 * S * (4 * S) → 3 * Z * S ≤ 2 * S * S
    go Z k l = omega arith

one : (S K : ℕ) → Near S S K K 0 0
one S K = record { over = omega arith; under = omega arith }

-- the errors o, u of the angle, oz, uz of its square, and e of the series
module _ (S R n d o u oz uz e : ℕ) (hS : 0 < S) (hR : 5 * R ≤ 4 * S) (hn : 5 * n ≤ 4 * d) (f : Near S R n d o u)
    (hoz : 8 * o ≤ 5 * oz) (huz : 8 * u + 5 ≤ 5 * uz) (ho : oz + 6 ≤ 2 * e) (hu : uz + 6 ≤ 2 * e) where
  near_square : Near S (R * R / S) (n * n) (d * d) oz uz
  near_square = simp (mul-one, one-mul) at (near_mul S 1 5 4 4 {o = oz} {u = uz} hS (omega arith) (omega arith) hR hn (omega arith) (omega arith) f f)

  square_le : n * n ≤ d * d
  square_le = mul-le-mul {n₁ = n} {m₁ = n} (omega arith) (omega arith)

  pub sine_near : (o' u' : ℕ) → 5 * o + 4 * e ≤ 5 * o' → 5 * u + 4 * e + 5 ≤ 5 * u' → Near S (sine_units S R) (sine_num n d) (sine_den d) o' u'
  unfolding sine_units square sine_num sine_den
  sine_near o' u' ko ku =
      simp (mul-one, one-mul) at
      (near_mul S 1 5 4 5 {o = o'} {u = u'} hS (omega arith) (omega arith) hR (weak (num (n * n) (d * d) sine_divisors) (den (d * d) sine_divisors) (num-le-den (n * n) (d * d) sine_divisors)) (omega arith) (omega arith) f
      (horner_near S (R * R / S) (n * n) (d * d) oz uz e 1 sine_divisors hS (square-small S R hS hR) square_le sine_at_least ho hu (omega arith) near_square))
    where
      weak : (N D : ℕ) → N ≤ D → 5 * N ≤ 5 * (1 * D)
      weak N D h = omega arith

  pub cosine_near : (o' u' : ℕ) → 3 * uz + 2 * e + 6 ≤ 6 * o' → 3 * oz + 2 * e ≤ 6 * u' → Near S (cosine_units S R) (cosine_num n d) (cosine_den d) o' u'
  unfolding cosine_units square cosine_num cosine_den num den
  cosine_near o' u' ko ku =
      near_weaken (omega arith) (omega arith)
      (near_minus (div-le_of_le-mul (S * 2) (half (R * R / S) (horner S (R * R / S) 1 cosine_divisors) (square-small S R hS hR) (le_trans (horner-le S (R * R / S) 1 cosine_divisors) (div-le_of_le-mul 1 (omega arith)))))
      (exact_le 2 (n * n) (d * d) (num (n * n) (d * d) cosine_divisors) (den (d * d) cosine_divisors) (omega arith) square_le (num-le-den (n * n) (d * d) cosine_divisors))
      (one S (2 * (d * d * den (d * d) cosine_divisors)))
      (simp one-mul at
      (near_mul S 2 3 2 3 {o = u'} {u = o'} hS (omega arith) (omega arith) (square-small S R hS hR) (weak (num (n * n) (d * d) cosine_divisors) (den (d * d) cosine_divisors) (num-le-den (n * n) (d * d) cosine_divisors)) (omega arith) (omega arith) near_square
      (horner_near S (R * R / S) (n * n) (d * d) oz uz e 1 cosine_divisors hS (square-small S R hS hR) square_le cosine_at_least ho hu (omega arith) near_square))))
    where
      weak : (N D : ℕ) → N ≤ D → 3 * N ≤ 3 * (1 * D)
      weak N D h = omega arith

      half : (Z P : ℕ) → 3 * Z ≤ 2 * S → P ≤ S → Z * P ≤ S * 2 * S
      half Z P h k = omega (arith, mul-le-mul h k)

-- an angle that is 11 units off, as the removal of up to ten cut half pis leaves it: its square is 19 units off, the series 13, and the value at most 23
pub sine_close : (S R n d : ℕ) → 0 < S → 5 * R ≤ 4 * S → 5 * n ≤ 4 * d → Near S R n d 11 11 → Near S (sine_units S R) (sine_num n d) (sine_den d) 22 23
sine_close S R n d hS hR hn f = sine_near S R n d 11 11 18 19 13 hS hR hn f (omega arith) (omega arith) (omega arith) (omega arith) 22 23 (omega arith) (omega arith)

pub cosine_close : (S R n d : ℕ) → 0 < S → 5 * R ≤ 4 * S → 5 * n ≤ 4 * d → Near S R n d 11 11 → Near S (cosine_units S R) (cosine_num n d) (cosine_den d) 15 14
cosine_close S R n d hS hR hn f = cosine_near S R n d 11 11 18 19 13 hS hR hn f (omega arith) (omega arith) (omega arith) (omega arith) 15 14 (omega arith) (omega arith)
