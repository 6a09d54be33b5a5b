-- How the exact sums rise and fall. With u(z) for num / den, z u(z) rises with z, and by no more than z does: one induction over the divisors, which are at least 2, for a z of at most 1. The slopes of the sine and of the cosine follow.
use mathlib.Core.Path.{◌≡◌, ap, subst}
use mathlib.Core.List.{List, [], ◌∷◌}
use Prim.Native.Nat.{ℕ, ◌+◌, ◌*◌, ◌-◌, ◌≤◌}
use native.Mathlib.Nat.{mul-le-mul_left, mul-le-mul_right, le_trans, mul-le-mul, add-sub_of_le}
use native.Mathlib.Omega.{arith}
use Rattle.trigonometry.specs.Taylor.{num, den}
use Rattle.trigonometry.proofs.Horner.{AtLeast, num-le-den, exact_le}

-- x * u(x) for x from z to z + w: it rises, and by no more than w
pub record Rises (zd z w : ℕ) (cs : List ℕ) : Type 0 where
  pub up : z * num z zd cs ≤ (z + w) * num (z + w) zd cs
  pub most : (z + w) * num (z + w) zd cs ≤ z * num z zd cs + w * den zd cs

-- X = z * u(z), Y = (z + w) * u(z + w) for the tail; the head's are kx = c * E - X and ky = c * E - Y, with E = zd * D
most_step : (z w cE X Y kx ky : ℕ) → kx + X ≡ cE → ky + Y ≡ cE → X ≤ Y → (z + w) * ky ≤ z * kx + w * cE
most_step z w cE X Y kx ky hx hy h = omega (arith, ap (λ t. z * t) hx, ap (λ t. (z + w) * t) hy, mul-le-mul_left z h)

up_step : (z w cE X Y B kx ky : ℕ) → kx + X ≡ cE → ky + Y ≡ cE → Y ≤ X + w * B → z * w * B + w * Y ≤ w * cE → z * kx ≤ (z + w) * ky
up_step z w cE X Y B kx ky hx hy h k = omega (arith, ap (λ t. z * t) hx, ap (λ t. (z + w) * t) hy, mul-le-mul_left z h)

-- (z + (z + w)) * D ≤ c * (zd * D), for c of at least 2
room : (z w zd c D N : ℕ) → z + w ≤ zd → 2 ≤ c → N ≤ D → z * w * D + w * ((z + w) * N) ≤ w * (c * (zd * D))
room z w zd c D N h hc hN =
    go (mul-le-mul_right (w * D) (le_trans (omega arith) h)) (mul-le-mul_right (w * D) h) (mul-le-mul_left (w * (z + w)) hN) (mul-le-mul_right (w * (zd * D)) hc)
  where
    go : z * (w * D) ≤ zd * (w * D) → (z + w) * (w * D) ≤ zd * (w * D) → w * (z + w) * N ≤ w * (z + w) * D → 2 * (w * (zd * D)) ≤ c * (w * (zd * D)) → z * w * D + w * ((z + w) * N) ≤ w * (c * (zd * D))
    go a b d e = omega arith

pub rises : (zd z w : ℕ) (cs : List ℕ) → z + w ≤ zd → AtLeast 2 cs → Rises zd z w cs
unfolding num den AtLeast
rises zd z w [] h a = record { up = omega arith; most = omega arith }
rises zd z w (c ∷ cs) h a =
    let r = rises zd z w cs h a.1 in
    let lx = exact_le c z zd (num z zd cs) (den zd cs) (omega (arith, a.0)) (omega arith) (num-le-den z zd cs) in
    let ly = exact_le c (z + w) zd (num (z + w) zd cs) (den zd cs) (omega (arith, a.0)) h (num-le-den (z + w) zd cs) in
    record {
      up = up_step z w (c * (zd * den zd cs)) (z * num z zd cs) ((z + w) * num (z + w) zd cs) (den zd cs) _ _ (omega (arith, lx)) (omega (arith, ly)) r.most (room z w zd c (den zd cs) (num (z + w) zd cs) h a.0 (num-le-den (z + w) zd cs));
      most = most_step z w (c * (zd * den zd cs)) (z * num z zd cs) ((z + w) * num (z + w) zd cs) _ _ (omega (arith, lx)) (omega (arith, ly)) r.up;
    }

-- the same from x to y
pub rises_to : (zd x y : ℕ) (cs : List ℕ) → x ≤ y → y ≤ zd → AtLeast 2 cs → (x * num x zd cs ≤ y * num y zd cs) × (y * num y zd cs + x * den zd cs ≤ x * num x zd cs + y * den zd cs)
rises_to zd x y cs h k a = subst (λ t. (x * num x zd cs ≤ t * num t zd cs) × (t * num t zd cs + x * den zd cs ≤ x * num x zd cs + t * den zd cs)) (add-sub_of_le h) (let r = rises zd x (y - x) cs (omega arith) a in (r.up, omega (arith, r.most)))

-- the sine's: n * ky - m * kx for kx = c * E - X, ky = c * E - Y
sine_step : (m w cE X Y D kx ky : ℕ) → kx + X ≡ cE → ky + Y ≡ cE → let n = m + w in
    Y + m * m * D ≤ X + n * n * D → Y ≤ n * n * D → m * kx + w * cE ≤ n * ky + w * ((n * n + m * (m + n)) * D)
sine_step m w cE X Y D kx ky hx hy h k = omega (arith, ap (λ t. m * t) hx, ap (λ t. (m + w) * t) hy, mul-le-mul_left m h, mul-le-mul_left w k)

-- three squares
third : (m n d D : ℕ) → m ≤ n → n ≤ d → (n * n + m * (m + n)) * D ≤ 3 * (d * d * D)
third m n d D h k = omega (arith, mul-le-mul_right D (mul-le-mul k k), mul-le-mul_right D (mul-le-mul (le_trans h k) k), mul-le-mul_right D (mul-le-mul (le_trans h k) (le_trans h k)))

-- the sine's sum over any tail: from m / d to n / d with n = m + w
slope_by : (m w d : ℕ) (cs : List ℕ) → AtLeast 2 cs → m + w ≤ d → let n = m + w in
    m * num (m * m) (d * d) (6 ∷ cs) + w * (6 * (d * d * den (d * d) cs)) ≤ n * num (n * n) (d * d) (6 ∷ cs) + w * ((n * n + m * (m + n)) * den (d * d) cs)
unfolding num den
slope_by m w d cs a l =
    let t = m + w in
    let D = den (d * d) cs in
    let hm : m * m ≤ d * d = mul-le-mul {n₁ = m} {m₁ = m} (omega arith) (omega arith) in
    let ht : (m + w) * (m + w) ≤ d * d = mul-le-mul l l in
    let lx = exact_le 6 (m * m) (d * d) (num (m * m) (d * d) cs) D (omega arith) hm (num-le-den (m * m) (d * d) cs) in
    let ly = exact_le 6 (t * t) (d * d) (num (t * t) (d * d) cs) D (omega arith) ht (num-le-den (t * t) (d * d) cs) in
    sine_step m w (6 * (d * d * D)) (m * m * num (m * m) (d * d) cs) (t * t * num (t * t) (d * d) cs) D _ _ (less lx) (less ly)
    (rises_to (d * d) (m * m) (t * t) cs (mul-le-mul {n₁ = m} {m₁ = m} (omega arith) (omega arith)) ht a).1 (mul-le-mul_left (t * t) (num-le-den (t * t) (d * d) cs))
  where
    less : {a b : ℕ} → b ≤ a → a - b + b ≡ a
    less {a} {b} h = omega arith

-- up to 1 it rises by at least half of the difference
pub sine_slope : (m n d : ℕ) (cs : List ℕ) → m ≤ n → n ≤ d → AtLeast 2 cs
    → 2 * (m * num (m * m) (d * d) (6 ∷ cs)) + n * den (d * d) (6 ∷ cs) ≤ 2 * (n * num (n * n) (d * d) (6 ∷ cs)) + m * den (d * d) (6 ∷ cs)
unfolding den
sine_slope m n d cs h k a =
    subst (λ t. 2 * (m * num (m * m) (d * d) (6 ∷ cs)) + t * den (d * d) (6 ∷ cs) ≤ 2 * (t * num (t * t) (d * d) (6 ∷ cs)) + m * den (d * d) (6 ∷ cs)) (add-sub_of_le h)
    (half m (n - m) (d * d * den (d * d) cs) _ _ _ (slope_by m (n - m) d cs a (omega arith)) (third m (m + (n - m)) d (den (d * d) cs) (omega arith) (omega arith)))
  where
    half : (m w E B x y : ℕ) → x + w * (6 * E) ≤ y + w * B → B ≤ 3 * E → 2 * x + (m + w) * (6 * E) ≤ 2 * y + m * (6 * E)
    half m w E B x y h k = omega (arith, mul-le-mul_left w k)

-- and by at least the difference times 1 - n² / 2
pub sine_sharp : (m w d : ℕ) (cs : List ℕ) → AtLeast 2 cs → m + w ≤ d → let n = m + w in
    2 * (d * d) * (m * num (m * m) (d * d) (6 ∷ cs)) + 2 * (d * d) * (w * den (d * d) (6 ∷ cs)) ≤ 2 * (d * d) * (n * num (n * n) (d * d) (6 ∷ cs)) + w * (n * n) * den (d * d) (6 ∷ cs)
unfolding den
sine_sharp m w d cs a l = sharp w (d * d) ((m + w) * (m + w)) (den (d * d) cs) _ _ _ (slope_by m w d cs a l) (third m (m + w) (m + w) (den (d * d) cs) (omega arith) (omega arith))
  where
    sharp : (w z y D B p q : ℕ) → p + w * (6 * (z * D)) ≤ q + w * B → B ≤ 3 * (y * D) → 2 * z * p + 2 * z * (w * (6 * (z * D))) ≤ 2 * z * q + w * y * (6 * (z * D))
    sharp w z y D B p q h k = omega (arith, mul-le-mul_left (2 * z) h, mul-le-mul_left (2 * z * w) k)

-- ---- z * u(z), from z to z + w, for any head c: it rises by at least w * (1 - (z + (z + w)) / c)
climb_step : (z w cE X Y B kx ky : ℕ) → kx + X ≡ cE → ky + Y ≡ cE → Y ≤ X + w * B → z * kx + w * cE ≤ (z + w) * ky + (z * w * B + w * Y)
climb_step z w cE X Y B kx ky hx hy h = omega (arith, ap (λ t. z * t) hx, ap (λ t. (z + w) * t) hy, mul-le-mul_left z h)

pub climb : (zd z w c : ℕ) (cs : List ℕ) → z + w ≤ zd → 1 ≤ c → AtLeast 2 cs
    → z * num z zd (c ∷ cs) + w * den zd (c ∷ cs) ≤ (z + w) * num (z + w) zd (c ∷ cs) + w * ((z + (z + w)) * den zd cs)
unfolding num den
climb zd z w c cs h hc a =
    let r = rises zd z w cs h a in
    let lx = exact_le c z zd (num z zd cs) (den zd cs) hc (omega arith) (num-le-den z zd cs) in
    let ly = exact_le c (z + w) zd (num (z + w) zd cs) (den zd cs) hc h (num-le-den (z + w) zd cs) in
    le_trans (climb_step z w (c * (zd * den zd cs)) (z * num z zd cs) ((z + w) * num (z + w) zd cs) (den zd cs) _ _ (omega (arith, lx)) (omega (arith, ly)) r.most)
    (more ((z + w) * (c * (zd * den zd cs) - (z + w) * num (z + w) zd cs)) (den zd cs) (num (z + w) zd cs) (num-le-den (z + w) zd cs))
  where
    more : (L D N : ℕ) → N ≤ D → L + (z * w * D + w * ((z + w) * N)) ≤ L + w * ((z + (z + w)) * D)
    more L D N h = omega (arith, mul-le-mul_left (w * (z + w)) h)

-- with the head 12, up to 1: by at least 5 / 6
pub climb_12 : (zd z w : ℕ) (cs : List ℕ) → z + w ≤ zd → AtLeast 2 cs → 6 * (z * num z zd (12 ∷ cs)) + 5 * (w * den zd (12 ∷ cs)) ≤ 6 * ((z + w) * num (z + w) zd (12 ∷ cs))
unfolding den
climb_12 zd z w cs h a = go (den zd cs) _ _ (climb zd z w 12 cs h (omega arith) a) (mul-le-mul_right (w * den zd cs) h)
  where
    go : (D p q : ℕ) → p + w * (12 * (zd * D)) ≤ q + w * ((z + (z + w)) * D) → (z + w) * (w * D) ≤ zd * (w * D) → 6 * p + 5 * (w * (12 * (zd * D))) ≤ 6 * q
    go D p q f g = omega arith

-- the same from x to y
pub climb_12_to : (zd x y : ℕ) (cs : List ℕ) → x ≤ y → y ≤ zd → AtLeast 2 cs → 6 * (x * num x zd (12 ∷ cs)) + 5 * (y * den zd (12 ∷ cs)) ≤ 6 * (y * num y zd (12 ∷ cs)) + 5 * (x * den zd (12 ∷ cs))
climb_12_to zd x y cs h k a =
    subst (λ t. 6 * (x * num x zd (12 ∷ cs)) + 5 * (t * den zd (12 ∷ cs)) ≤ 6 * (t * num t zd (12 ∷ cs)) + 5 * (x * den zd (12 ∷ cs))) (add-sub_of_le h)
    (go (den zd (12 ∷ cs)) _ _ (climb_12 zd x (y - x) cs (omega arith) a))
  where
    go : (D p q : ℕ) → 6 * p + 5 * ((y - x) * D) ≤ 6 * q → 6 * p + 5 * ((x + (y - x)) * D) ≤ 6 * q + 5 * (x * D)
    go D p q f = sums (y - x) f
      where
        sums : (w : ℕ) → 6 * p + 5 * (w * D) ≤ 6 * q → 6 * p + 5 * ((x + w) * D) ≤ 6 * q + 5 * (x * D)
        sums w f = omega arith

-- with the head 12: 1 - (x + y) / (12 zd), the difference written as y - x
pub climb_sharp : (zd x y w : ℕ) (cs : List ℕ) → x + w ≡ y → y ≤ zd → AtLeast 2 cs
    → 12 * zd * (x * num x zd (12 ∷ cs)) + 12 * zd * (w * den zd (12 ∷ cs)) ≤ 12 * zd * (y * num y zd (12 ∷ cs)) + w * (x + y) * den zd (12 ∷ cs)
unfolding den
climb_sharp zd x y w cs e k a =
    subst (λ t. 12 * zd * (x * num x zd (12 ∷ cs)) + 12 * zd * (w * (12 * (zd * den zd cs))) ≤ 12 * zd * (t * num t zd (12 ∷ cs)) + w * (x + t) * (12 * (zd * den zd cs))) e
    (go (den zd cs) _ _ (climb zd x w 12 cs (omega arith) (omega arith) a))
  where
    go : (D p q : ℕ) → p + w * (12 * (zd * D)) ≤ q + w * ((x + (x + w)) * D) → 12 * zd * p + 12 * zd * (w * (12 * (zd * D))) ≤ 12 * zd * q + w * (x + (x + w)) * (12 * (zd * D))
    go D p q f = omega (arith, mul-le-mul_left (12 * zd) f)
