-- Taylor's sums for the sine and the cosine, through power 21, as exact fractions of naturals (01,
-- "Sine, cosine").
--
-- Over the divisors c₀, c₁, ..., with z = zn / zd, the sum 1 - z / c₀ + z² / (c₀ c₁) - ... is
-- written 1 - z / c₀ * (1 - z / c₁ * (1 - ...)), which is num / den. The subtraction is one of
-- naturals: for a z of at most 1 it never cuts, and the law `alternating` in proofs/Sums says that
-- num / den is the plain alternating sum.
use Rattle.std.specs.Prelude.{List, [], ◌∷◌, ℕ, ◌*◌, ◌-◌}

unfoldable pub den : ℕ → List ℕ → ℕ
den zd [] = 1
den zd (c ∷ cs) = c * (zd * den zd cs)

unfoldable pub num : ℕ → ℕ → List ℕ → ℕ
num zn zd [] = 1
num zn zd (c ∷ cs) = c * (zd * den zd cs) - zn * num zn zd cs

-- 2 · 3, 4 · 5, ..., 20 · 21: the sine of r is r * (1 - r² / 3! + r⁴ / 5! - ... + r²⁰ / 21!)
unfoldable pub sine_divisors : List ℕ
sine_divisors = 6 ∷ 20 ∷ 42 ∷ 72 ∷ 110 ∷ 156 ∷ 210 ∷ 272 ∷ 342 ∷ 420 ∷ []

-- 3 · 4, 5 · 6, ..., 19 · 20, after 1 · 2: the cosine of r is 1 - r² / 2! + r⁴ / 4! - ... + r²⁰ /
-- 20!
unfoldable pub cosine_divisors : List ℕ
cosine_divisors = 12 ∷ 30 ∷ 56 ∷ 90 ∷ 132 ∷ 182 ∷ 240 ∷ 306 ∷ 380 ∷ []

-- the sums at the angle n / d
unfoldable pub sine_num : ℕ → ℕ → ℕ
sine_num n d = n * num (n * n) (d * d) sine_divisors

unfoldable pub sine_den : ℕ → ℕ
sine_den d = d * den (d * d) sine_divisors

unfoldable pub cosine_num : ℕ → ℕ → ℕ
cosine_num n d = num (n * n) (d * d) (2 ∷ cosine_divisors)

unfoldable pub cosine_den : ℕ → ℕ
cosine_den d = den (d * d) (2 ∷ cosine_divisors)
