-- What the code owes: Horner's rule written out with its coefficients, and the two values.
use mathlib.Core.Path.{◌≡◌, ap, ◌∙◌}
use Prim.Native.Nat.{ℕ, ◌*◌, ◌-◌, ◌^◌, ◌/◌, ◌≤◌, ◌<◌}
use native.Mathlib.Nat.{div-div-eq-div-mul}
use native.Mathlib.Omega.{arith}
use Rattle.trigonometry.specs.Taylor.{sine_divisors, cosine_divisors}
use Rattle.trigonometry.specs.Units.{horner, square, sine_units, cosine_units}

-- ---- Horner's rule, without the coefficients that are 0
last : (c z : ℕ) → c - z * 0 / 2 ^ 58 ≡ c
last c z = omega arith

pub sine_series_is : (z q8 q7 q6 q5 q4 q3 q2 q1 q0 : ℕ) → q8 ≡ 810 - z * 2 / 2 ^ 58 → q7 ≡ 220414 - z * q8 / 2 ^ 58 → q6 ≡ 46287042 - z * q7 / 2 ^ 58 → q5 ≡ 7220778623 - z * q6 / 2 ^ 58 → q4 ≡ 794285648566 - z * q5 / 2 ^ 58
    → q3 ≡ 57188566696768 - z * q4 / 2 ^ 58 → q2 ≡ 2401919801264264 - z * q3 / 2 ^ 58 → q1 ≡ 48038396025285290 - z * q2 / 2 ^ 58 → q0 ≡ 2 ^ 58 - z * q1 / 2 ^ 58 → q0 ≡ horner (2 ^ 58) z 1 sine_divisors
unfolding horner sine_divisors
sine_series_is z q8 q7 q6 q5 q4 q3 q2 q1 q0 e8 e7 e6 e5 e4 e3 e2 e1 e0 = cc (last 2 z)

pub cosine_series_is : (z q7 q6 q5 q4 q3 q2 q1 q0 : ℕ) → q7 ≡ 27551 - z * 90 / 2 ^ 58 → q6 ≡ 6612434 - z * q7 / 2 ^ 58 → q5 ≡ 1203463103 - z * q6 / 2 ^ 58 → q4 ≡ 158857129713 - z * q5 / 2 ^ 58
    → q3 ≡ 14297141674192 - z * q4 / 2 ^ 58 → q2 ≡ 800639933754754 - z * q3 / 2 ^ 58 → q1 ≡ 24019198012642645 - z * q2 / 2 ^ 58 → q0 ≡ 2 ^ 58 - z * q1 / 2 ^ 58 → q0 ≡ horner (2 ^ 58) z 1 cosine_divisors
unfolding horner cosine_divisors
cosine_series_is z q7 q6 q5 q4 q3 q2 q1 q0 e7 e6 e5 e4 e3 e2 e1 e0 = cc (last 90 z)

-- ---- the two values
pub sine_is : (r z q s : ℕ) → z ≡ r * r / 2 ^ 58 → q ≡ horner (2 ^ 58) z 1 sine_divisors → s ≡ r * q / 2 ^ 58 → s ≡ sine_units (2 ^ 58) r
unfolding sine_units square
sine_is r z q s e f g = cc

pub cosine_is : (r z q p : ℕ) → z ≡ r * r / 2 ^ 58 → q ≡ horner (2 ^ 58) z 1 cosine_divisors → p ≡ z * q / 2 ^ 58 → 2 ^ 58 - p / 2 ≡ cosine_units (2 ^ 58) r
unfolding cosine_units square
cosine_is r z q p e f g = ap (λ t. 2 ^ 58 - t / 2) g ∙ ap (λ t. 2 ^ 58 - t) (div-div-eq-div-mul (z * q) (2 ^ 58) 2) ∙ cc

-- an angle that is at most one is not above it
pub above : {P : Type 0} (r : ℕ) → r ≤ 2 ^ 58 → 2 ^ 58 < r → P
above {P} r h k = absurd (no r h k)
  where
    no : (r : ℕ) → r ≤ 2 ^ 58 → 2 ^ 58 < r → ⊥
    no r h k = omega arith
