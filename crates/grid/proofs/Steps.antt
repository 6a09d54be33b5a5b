-- The sine and the cosine on the grid, and what their slopes say of neighbours. Exact angles are n / 2 ^ 51: a step of the grid is 4 of them, and one of them is 128 units.
use mathlib.Core.Path.{◌≡◌, refl, ap, subst}
use Prim.Native.Nat.{ℕ, suc, ◌+◌, ◌*◌, ◌-◌, ◌^◌, ◌/◌, ◌≤◌, ◌<◌}
use native.Mathlib.Nat.{mul-le-mul_left, mul-le-mul_right, le_trans, le_of_mul-le-mul_left, le_of_mul-le-mul_right}
use native.Mathlib.Omega.{arith}
use lib.Dec.{lit<}
use Rattle.trigonometry.specs.Taylor.{sine_divisors, sine_num, sine_den, cosine_num, cosine_den}
use Rattle.trigonometry.specs.Units.{horner, square, sine_units}
use Rattle.trigonometry.proofs.Near.{Near}
use Rattle.trigonometry.proofs.Values.{sine_near, cosine_near}
use Rattle.trigonometry.proofs.Rise.{sine_rises, sine_rises_sharp}
use Rattle.trigonometry.proofs.Reduced.{sine_proper}
use Rattle.grid.specs.Grid.{last_step, sine_step, cosine_step}

-- ---- over any scale S = k * d: the sine from m / d to n / d rises by at least k / 2 units for each step of 1 / d
abbrev pub Steep : (S k m n M N D : ℕ) → Type 0
Steep S k m n M N D = 2 * (S * M) + k * n * D ≤ 2 * (S * N) + k * m * D

pub steep : (S k d m n : ℕ) → S ≡ k * d → m ≤ n → n ≤ d → Steep S k m n (sine_num m d) (sine_num n d) (sine_den d)
steep S k d m n e h l = go (sine_num m d) (sine_num n d) (sine_den d) (sine_rises m n d h l)
  where
    go : (M N D : ℕ) → 2 * (d * M) + n * D ≤ 2 * (d * N) + m * D → 2 * (S * M) + k * n * D ≤ 2 * (S * N) + k * m * D
    go M N D f = omega (arith, mul-le-mul_left k f, ap (λ t. t * M) e, ap (λ t. t * N) e)

-- from one point to a higher one
pub climbs : (S k m n M N D P Q o u o' u' : ℕ) → 0 < D → Steep S k m n M N D → Near S P M D o u → Near S Q N D o' u' → 2 * P + k * n ≤ 2 * Q + k * m + 2 * (o + u')
climbs S k m n M N D P Q o u o' u' hD s f g = le_of_mul-le-mul_right {k = D} (go s f.over g.under) hD
  where
    go : 2 * (S * M) + k * n * D ≤ 2 * (S * N) + k * m * D → P * D ≤ M * S + o * D → N * S ≤ Q * D + u' * D → (2 * P + k * n) * D ≤ (2 * Q + k * m + 2 * (o + u')) * D
    go s f g = omega arith

-- a / b is X units, without the fraction. A lower point's exact sine is at most a / b where the point's sine is at most X ...
pub lower : (S k m n M N D P X a b o u : ℕ) → 0 < S → Steep S k m n M N D → Near S P N D o u → 2 * u + k * m ≤ k * n → P ≤ X → X * b ≤ a * S → M * b ≤ a * D
lower S k m n M N D P X a b o u hS s f h p q = le_of_mul-le-mul_left {k = S} (last (below s f.under (mul-le-mul_right D h)) (mul-le-mul_right (D * b) p) (mul-le-mul_right D q)) hS
  where
    below : 2 * (S * M) + k * n * D ≤ 2 * (S * N) + k * m * D → N * S ≤ P * D + u * D → (2 * u + k * m) * D ≤ k * n * D → S * M ≤ P * D
    below s f h = omega arith

    last : S * M ≤ P * D → P * (D * b) ≤ X * (D * b) → X * b * D ≤ a * S * D → S * (M * b) ≤ S * (a * D)
    last i j k = omega (arith, mul-le-mul_right b i)

-- ... and a higher point's is at least a / b where the point's sine is above X
pub upper : (S k m n M N D P X a b o u : ℕ) → 0 < S → Steep S k m n M N D → Near S P M D o u → 2 * o + k * m ≤ k * n → X < P → a * S ≤ X * b + b → a * D ≤ N * b
upper S k m n M N D P X a b o u hS s f h p q = le_of_mul-le-mul_left {k = S} (last (above s f.over (mul-le-mul_right D h)) (mul-le-mul_right (D * b) p) (mul-le-mul_right D q)) hS
  where
    above : 2 * (S * M) + k * n * D ≤ 2 * (S * N) + k * m * D → P * D ≤ M * S + o * D → (2 * o + k * m) * D ≤ k * n * D → P * D ≤ S * N
    above s f h = omega arith

    last : P * D ≤ S * N → suc X * (D * b) ≤ P * (D * b) → a * S * D ≤ (X * b + b) * D → S * (a * D) ≤ S * (N * b)
    last i j k = omega (arith, mul-le-mul_right b i)

pub on_grid : (A : ℕ) → Near (2 ^ 58) (512 * A) (4 * A) (2 ^ 51) 0 0
on_grid A = record { over = omega arith; under = omega arith }

pub sine_step_near : (A : ℕ) → A ≤ last_step + 1 → Near (2 ^ 58) (sine_step A) (sine_num (4 * A) (2 ^ 51)) (sine_den (2 ^ 51)) 4 5
unfolding sine_step
sine_step_near A h = sine_near (2 ^ 58) (512 * A) (4 * A) (2 ^ 51) 0 0 0 1 4 (lit< tt) (omega arith) (omega arith) (on_grid A) (omega arith) (omega arith) (omega arith) (omega arith) 4 5 (omega arith) (omega arith)

pub cosine_step_near : (A : ℕ) → A ≤ last_step + 1 → Near (2 ^ 58) (cosine_step A) (cosine_num (4 * A) (2 ^ 51)) (cosine_den (2 ^ 51)) 3 2
unfolding cosine_step
cosine_step_near A h = cosine_near (2 ^ 58) (512 * A) (4 * A) (2 ^ 51) 0 0 0 1 4 (lit< tt) (omega arith) (omega arith) (on_grid A) (omega arith) (omega arith) (omega arith) (omega arith) 3 2 (omega arith) (omega arith)

pub steep_at : (m n : ℕ) → m ≤ n → n ≤ 2 ^ 51 → Steep (2 ^ 58) 128 m n (sine_num m (2 ^ 51)) (sine_num n (2 ^ 51)) (sine_den (2 ^ 51))
steep_at m n h k = steep (2 ^ 58) 128 (2 ^ 51) m n refl h k

-- each step of the grid is at least 247 units
pub sine_step_climbs : (A : ℕ) → A ≤ last_step → sine_step A + 247 ≤ sine_step (A + 1)
sine_step_climbs A h = go (sine_step A) (sine_step (A + 1)) (climbs (2 ^ 58) 128 (4 * A) (4 * (A + 1)) _ _ _ _ _ 4 5 4 5 (sine_proper (2 ^ 51) (lit< tt)) (steep_at (4 * A) (4 * (A + 1)) (omega arith) (omega arith)) (sine_step_near A (omega arith)) (sine_step_near (A + 1) (omega arith)))
  where
    go : (P Q : ℕ) → 2 * P + 128 * (4 * (A + 1)) ≤ 2 * Q + 128 * (4 * A) + 2 * (4 + 5) → P + 247 ≤ Q
    go P Q k = omega arith

-- ---- the certificate by one evaluation
-- a step's sine, and the next one's, with errors o and u', at any scale S = k * d and a step of w / d
pub climbs_sharp : (S k d m w M N D P Q o u o' u' : ℕ) → 0 < D → S ≡ k * d → let n = m + w in
    2 * (d * d) * (d * M) + 2 * (d * d) * (w * D) ≤ 2 * (d * d) * (d * N) + w * (n * n) * D → Near S P M D o u → Near S Q N D o' u'
    → 2 * (d * d) * (P + k * w) ≤ 2 * (d * d) * (Q + o + u') + k * w * (n * n)
climbs_sharp S k d m w M N D P Q o u o' u' hD e s f g =
    le_of_mul-le-mul_right {k = D} (last (2 * (d * d)) ((m + w) * (m + w)) (S * M) (S * N) (P * D) (Q * D) (scaled (2 * (d * d)) ((m + w) * (m + w)) s) (le_trans f.over (omega arith)) (le_trans (omega arith) g.under) refl refl) hD
  where
    scaled : (z y : ℕ) → z * (d * M) + z * (w * D) ≤ z * (d * N) + w * y * D → z * (S * M) + z * (k * w * D) ≤ z * (S * N) + k * w * y * D
    scaled z y h = omega (arith, mul-le-mul_left k h, ap (λ t. z * (t * M)) e, ap (λ t. z * (t * N)) e)

    last : (z y m n p q : ℕ) → z * m + z * (k * w * D) ≤ z * n + k * w * y * D → p ≤ m + o * D → n ≤ q + u' * D → p ≡ P * D → q ≡ Q * D → z * (P + k * w) * D ≤ (z * (Q + o + u') + k * w * y) * D
    last z y m n p q h i j a b = omega (arith, mul-le-mul_left z i, mul-le-mul_left z j, ap (λ t. z * t) a, ap (λ t. z * t) b)

pub sine_step_sharp : (A : ℕ) → A ≤ last_step → 2 ^ 90 * (sine_step A + 512) ≤ 2 ^ 90 * (sine_step (A + 1) + 9) + (A + 1) * (A + 1)
sine_step_sharp A h =
    go (sine_step A) (sine_step (A + 1))
    (climbs_sharp (2 ^ 58) 128 (2 ^ 51) (4 * A) 4 (sine_num (4 * A) (2 ^ 51)) (sine_num (4 * A + 4) (2 ^ 51)) (sine_den (2 ^ 51)) (sine_step A) (sine_step (A + 1)) 4 5 4 5 (sine_proper (2 ^ 51) (lit< tt)) refl (sine_rises_sharp (4 * A) 4 (2 ^ 51) (omega arith)) (sine_step_near A (omega arith))
    (subst (λ t. Near (2 ^ 58) (sine_step (A + 1)) (sine_num t (2 ^ 51)) (sine_den (2 ^ 51)) 4 5) (omega arith) (sine_step_near (A + 1) (omega arith))))
  where
    go : (P Q : ℕ) → 2 * (2 ^ 51 * 2 ^ 51) * (P + 128 * 4) ≤ 2 * (2 ^ 51 * 2 ^ 51) * (Q + 4 + 5) + 128 * 4 * ((4 * A + 4) * (4 * A + 4)) → 2 ^ 90 * (P + 512) ≤ 2 ^ 90 * (Q + 9) + (A + 1) * (A + 1)
    go P Q k = omega arith

-- where X is not nearer to the next step's sine than 10 units by the slope at this one, it is below the next step's sine
pub certified : (A X Z : ℕ) → A ≤ last_step → Z ≡ 512 * A * (512 * A) / 2 ^ 58 → sine_step A ≤ X → X - sine_step A + 10 ≤ (2 ^ 58 - Z / 2) / 2 ^ 49 → X < sine_step (A + 1)
certified A X Z h e p q = go (sine_step A) (sine_step (A + 1)) ((2 ^ 58 - Z / 2) / 2 ^ 49) (square (A * A) Z (omega (arith, e))) (sine_step_sharp A h) (omega arith) (omega arith)
  where
    square : (s Z : ℕ) → Z ≡ 262144 * s / 2 ^ 58 → s ≤ 2 ^ 40 * Z + 2 ^ 40
    square s Z e = omega arith

    go : (P Q g : ℕ) → A * A ≤ 2 ^ 40 * Z + 2 ^ 40 → 2 ^ 90 * (P + 512) ≤ 2 ^ 90 * (Q + 9) + (A + 1) * (A + 1) → 2 ^ 50 * g + Z ≤ 2 ^ 59 + 1 → X + 10 ≤ P + g → X < Q
    go P Q g i j k l = omega arith

pub sine_at_zero : sine_step 0 ≡ 0
unfolding sine_step sine_units square horner sine_divisors
sine_at_zero = refl
