-- The sine and the cosine in whole units of 1 / S: each product and each coefficient cut to a whole
-- number (docs/ELEMENTARY.md). The code has S = 2 ^ 58.
use Rattle.std.specs.Prelude.{Bool, cond, List, [], ◌∷◌, ℕ, ◌+◌, ◌*◌, ◌-◌, ◌/◌, ◌^◌, ltb}
use Rattle.trigonometry.specs.Taylor.{sine_divisors, cosine_divisors}
use Rattle.trigonometry.specs.Angle.{half_pi, whole, distance, quarters, even, negative}

-- Horner's rule: the coefficients are S / p, for the products p of the divisors so far
unfoldable pub horner : ℕ → ℕ → ℕ → List ℕ → ℕ
horner S Z p [] = S / p
horner S Z p (c ∷ cs) = S / p - Z * horner S Z (p * c) cs / S

unfoldable pub square : ℕ → ℕ → ℕ
square S R = R * R / S

-- the sine and the cosine of R units, for an angle of at most 4 / 5
unfoldable pub sine_units : ℕ → ℕ → ℕ
sine_units S R = R * horner S (square S R) 1 sine_divisors / S

unfoldable pub cosine_units : ℕ → ℕ → ℕ
cosine_units S R = S - square S R * horner S (square S R) 1 cosine_divisors / (S * 2)

-- ---- any angle, in units of 2 ^ -58
abbrev pub one : ℕ
one = 2 ^ 58

-- half pi, cut to whole units
abbrev pub half_pi_units : ℕ
half_pi_units = half_pi * one / whole

-- the multiple of half pi nearest to x units, and what is left of them
unfoldable pub removed : ℕ → ℕ
removed x = quarters x one * half_pi_units

unfoldable pub rest : ℕ → ℕ
rest x = distance x (removed x)

-- the sine of x units and `more` half pis: whether it is negative, and its size in units
unfoldable pub turned_minus : ℕ → ℕ → Bool
turned_minus more x = negative (quarters x one + more) (ltb x (removed x))

unfoldable pub turned_units : ℕ → ℕ → ℕ
turned_units more x = cond (even (quarters x one + more)) (sine_units one (rest x)) (cosine_units one (rest x))
