-- The slopes of the two sums, up to 1: the sine rises by at least half of the angle's difference, and by at least the difference times 1 - n² / 2; the cosine falls, and by at least 5 / 12 of the difference of the squares.
use mathlib.Core.Path.{◌≡◌, ap}
use mathlib.Core.List.{[], ◌∷◌}
use Prim.Native.Nat.{ℕ, ◌+◌, ◌*◌, ◌-◌, ◌≤◌}
use native.Mathlib.Nat.{mul-le-mul_left, le_trans, mul-le-mul}
use native.Mathlib.Omega.{arith}
use Rattle.trigonometry.specs.Taylor.{num, den, sine_divisors, cosine_divisors, sine_num, sine_den, cosine_num, cosine_den}
use Rattle.trigonometry.proofs.Horner.{AtLeast, num-le-den, exact_le}
use Rattle.trigonometry.proofs.Slope.{rises_to, sine_slope, sine_sharp, climb_12_to}

-- ---- from m / d to n / d, up to 1, the sine rises by at least half of the difference, and the cosine falls
sine_tail : AtLeast 2 (20 ∷ 42 ∷ 72 ∷ 110 ∷ 156 ∷ 210 ∷ 272 ∷ 342 ∷ 420 ∷ [])
unfolding AtLeast
sine_tail = omega arith

cosine_least : AtLeast 2 cosine_divisors
unfolding AtLeast cosine_divisors
cosine_least = omega arith

pub sine_rises : (m n d : ℕ) → m ≤ n → n ≤ d → 2 * (d * sine_num m d) + n * sine_den d ≤ 2 * (d * sine_num n d) + m * sine_den d
unfolding sine_num sine_den sine_divisors
sine_rises m n d h k = times d (m * num (m * m) (d * d) sine_divisors) n _ (n * num (n * n) (d * d) sine_divisors) m (sine_slope m n d (20 ∷ 42 ∷ 72 ∷ 110 ∷ 156 ∷ 210 ∷ 272 ∷ 342 ∷ 420 ∷ []) h k sine_tail)
  where
    times : (d a n D b m : ℕ) → 2 * a + n * D ≤ 2 * b + m * D → 2 * (d * a) + n * (d * D) ≤ 2 * (d * b) + m * (d * D)
    times d a n D b m h = omega (arith, mul-le-mul_left d h)

pub cosine_falls : (m n d : ℕ) → m ≤ n → n ≤ d → cosine_num n d ≤ cosine_num m d
unfolding cosine_num num den
cosine_falls m n d h k = less (2 * (d * d * den (d * d) cosine_divisors)) _ _ (rises_to (d * d) (m * m) (n * n) cosine_divisors (mul-le-mul h h) (mul-le-mul k k) cosine_least).0
  where
    less : (c x y : ℕ) → x ≤ y → c - y ≤ c - x
    less c x y h = omega arith

-- sharper: the difference times 1 - n² / 2, for n = m + w
pub sine_rises_sharp : (m w d : ℕ) → m + w ≤ d → let n = m + w in
    2 * (d * d) * (d * sine_num m d) + 2 * (d * d) * (w * sine_den d) ≤ 2 * (d * d) * (d * sine_num n d) + w * (n * n) * sine_den d
unfolding sine_num sine_den sine_divisors
sine_rises_sharp m w d h = times d (2 * (d * d)) (m * num (m * m) (d * d) sine_divisors) w (den (d * d) sine_divisors) _ ((m + w) * (m + w)) (sine_sharp m w d (20 ∷ 42 ∷ 72 ∷ 110 ∷ 156 ∷ 210 ∷ 272 ∷ 342 ∷ 420 ∷ []) sine_tail h)
  where
    times : (d z a w D b y : ℕ) → z * a + z * (w * D) ≤ z * b + w * y * D → z * (d * a) + z * (w * (d * D)) ≤ z * (d * b) + w * y * (d * D)
    times d z a w D b y h = omega (arith, mul-le-mul_left d h)

-- the cosine falls by at least 5 / 12 of the difference of the squares
cosine_tail : AtLeast 2 (30 ∷ 56 ∷ 90 ∷ 132 ∷ 182 ∷ 240 ∷ 306 ∷ 380 ∷ [])
unfolding AtLeast
cosine_tail = omega arith

cosine_climbs : (z x y : ℕ) → x ≤ y → y ≤ z → 6 * (x * num x z cosine_divisors) + 5 * (y * den z cosine_divisors) ≤ 6 * (y * num y z cosine_divisors) + 5 * (x * den z cosine_divisors)
unfolding cosine_divisors
cosine_climbs z x y h k = climb_12_to z x y (30 ∷ 56 ∷ 90 ∷ 132 ∷ 182 ∷ 240 ∷ 306 ∷ 380 ∷ []) h k cosine_tail

pub cosine_falls_by : (m n d : ℕ) → m ≤ n → n ≤ d → 12 * (d * d) * cosine_num n d + 5 * (n * n * cosine_den d) ≤ 12 * (d * d) * cosine_num m d + 5 * (m * m * cosine_den d)
unfolding cosine_num cosine_den num den
cosine_falls_by m n d h k =
    go (d * d) (m * m) (n * n) (den (d * d) cosine_divisors) (m * m * num (m * m) (d * d) cosine_divisors) (n * n * num (n * n) (d * d) cosine_divisors) _ _ (less (le m (le_trans h k))) (less (le n k)) (climbs (mul-le-mul h h) (mul-le-mul k k))
  where
    le : (x : ℕ) → x ≤ d → x * x * num (x * x) (d * d) cosine_divisors ≤ 2 * (d * d * den (d * d) cosine_divisors)
    le x l = exact_le 2 (x * x) (d * d) (num (x * x) (d * d) cosine_divisors) (den (d * d) cosine_divisors) (omega arith) (mul-le-mul l l) (num-le-den (x * x) (d * d) cosine_divisors)

    less : {a b : ℕ} → b ≤ a → a - b + b ≡ a
    less {a} {b} h = omega arith

    climbs : m * m ≤ n * n → n * n ≤ d * d → 6 * (m * m * num (m * m) (d * d) cosine_divisors) + 5 * (n * n * den (d * d) cosine_divisors) ≤ 6 * (n * n * num (n * n) (d * d) cosine_divisors) + 5 * (m * m * den (d * d) cosine_divisors)
    climbs h k = cosine_climbs (d * d) (m * m) (n * n) h k

    go : (z x y D p q c c' : ℕ) → c + p ≡ 2 * (z * D) → c' + q ≡ 2 * (z * D) → 6 * p + 5 * (y * D) ≤ 6 * q + 5 * (x * D) → 12 * z * c' + 5 * (y * (2 * (z * D))) ≤ 12 * z * c + 5 * (x * (2 * (z * D)))
    go z x y D p q c c' e f g = omega (arith, ap (λ t. 12 * z * t) e, ap (λ t. 12 * z * t) f, mul-le-mul_left (2 * z) g)

-- the cosine of 0 is 1
pub cosine_at_zero : (d : ℕ) → cosine_num 0 d ≡ cosine_den d
unfolding cosine_num cosine_den num den
cosine_at_zero d = go (2 * (d * d * den (d * d) cosine_divisors)) (num (0 * 0) (d * d) cosine_divisors)
  where
    go : (C N : ℕ) → C - 0 * 0 * N ≡ C
    go C N = omega arith
