-- The enclosing angles in document 01's words. An angle n / d below a quarter pi is what is left of itself when the nearest multiple of half pi, 0, is removed, and half pi less n / d leaves n / d below the first multiple: the sums of the reduced angles are the sine and the cosine of n / d.
use mathlib.Core.Path.{◌≡◌, refl, sym, ap, ◌∙◌, subst}
use mathlib.Core.Bool.{false}
use Prim.Native.Nat.{ℕ, ◌+◌, ◌*◌, ◌≤◌, ◌<◌}
use native.Mathlib.Nat.{one-mul, mul-pos, mul-le-mul_right, le_of_mul-le-mul_right}
use native.Mathlib.Omega.{arith}
use lib.Dec.{lit<}
use Rattle.trigonometry.specs.Taylor.{sine_num, sine_den, cosine_num, cosine_den}
use Rattle.trigonometry.specs.Angle.{half_pi, whole, even, negative, turned, negated, sine_sum}
use Rattle.trigonometry.proofs.Reduced.{sine_proper, cosine_proper}
use Rattle.grid.proofs.Turning.{c, Sine, Cosine, same_sine, same_cosine, after-sum, before_sum}
use Rattle.grid.specs.Enclosure.{IsAtMost, IsAtLeast}

-- ---- comparisons of the sums: the same at any scale
at_most_same : (N D N' D' a b : ℕ) → 0 < D → N' * D ≡ N * D' → N * b ≤ a * D → N' * b ≤ a * D'
at_most_same N D N' D' a b hD e h = le_of_mul-le-mul_right {k = D} (go (mul-le-mul_right D' h) (ap (λ z. z * b) e)) hD
  where
    go : N * b * D' ≤ a * D * D' → N' * D * b ≡ N * D' * b → N' * b * D ≤ a * D' * D
    go f g = omega arith

at_least_same : (N D N' D' a b : ℕ) → 0 < D → N' * D ≡ N * D' → a * D ≤ N * b → a * D' ≤ N' * b
at_least_same N D N' D' a b hD e h = le_of_mul-le-mul_right {k = D} (go (mul-le-mul_right D' h) (ap (λ z. z * b) e)) hD
  where
    go : a * D * D' ≤ N * b * D' → N' * D * b ≡ N * D' * b → a * D' * D ≤ N' * b * D
    go f g = omega arith

module _ (n d : ℕ) (hd : 0 < d) (h : 2 * n * whole < half_pi * d) (a b : ℕ) where
  wider : 0 < d * c
  wider = mul-pos hd (lit< tt)

  -- ---- n / d
  up_sum : sine_sum false (whole * n) (whole * d) ≡ Sine false n d
  unfolding sine_sum negated turned negative even
  up_sum = ap (negated false) (after-sum 0 n d hd h (whole * n) (sum whole (half_pi * d)) 0)
    where
      sum : (w q : ℕ) → 0 * q + n * w ≡ w * n
      sum w q = omega arith

  pub up_at_most : sine_num n d * b ≤ a * sine_den d → IsAtMost (sine_sum false (whole * n) (whole * d)) a b
  up_at_most k = subst (λ f. IsAtMost f a b) (sym up_sum) (record { proper = sine_proper (d * c) wider; most = λ _. at_most_same (sine_num n d) (sine_den d) _ _ a b (sine_proper d hd) (same_sine n d) k })

  pub up_at_least : a * sine_den d ≤ sine_num n d * b → IsAtLeast (sine_sum false (whole * n) (whole * d)) a b
  up_at_least k = subst (λ f. IsAtLeast f a b) (sym up_sum) (record { proper = sine_proper (d * c) wider; positive = refl; least = at_least_same (sine_num n d) (sine_den d) _ _ a b (sine_proper d hd) (same_sine n d) k })

  -- ---- half pi less n / d
  module _ (x : ℕ) (e : x + n * whole ≡ half_pi * d) where
    down_sum : sine_sum false x (whole * d) ≡ Cosine false n d
    unfolding sine_sum negated turned negative even
    down_sum = ap (negated false) (before_sum 1 n d hd h x (e ∙ sym (one-mul (half_pi * d))) 0)

    pub down_at_most : cosine_num n d * b ≤ a * cosine_den d → IsAtMost (sine_sum false x (whole * d)) a b
    down_at_most k = subst (λ f. IsAtMost f a b) (sym down_sum) (record { proper = cosine_proper (d * c) wider; most = λ _. at_most_same (cosine_num n d) (cosine_den d) _ _ a b (cosine_proper d hd) (same_cosine n d) k })

    pub down_at_least : a * cosine_den d ≤ cosine_num n d * b → IsAtLeast (sine_sum false x (whole * d)) a b
    down_at_least k = subst (λ f. IsAtLeast f a b) (sym down_sum) (record { proper = cosine_proper (d * c) wider; positive = refl; least = at_least_same (cosine_num n d) (cosine_den d) _ _ a b (cosine_proper d hd) (same_cosine n d) k })
