-- The sums at k n / (k d) and at n / d are the same fraction.
use mathlib.Core.Path.{◌≡◌, refl, sym, ap, ◌∙◌, subst₂}
use mathlib.Core.List.{List, [], ◌∷◌}
use Prim.Native.Nat.{ℕ, ◌*◌, ◌-◌}
use native.Mathlib.Nat.{mul_comm, mul-sub}
use native.Mathlib.Omega.{arith}
use Rattle.trigonometry.specs.Taylor.{num, den, sine_divisors, cosine_divisors, sine_num, sine_den, cosine_num, cosine_den}

cross : (a b c x y z : ℕ) → c * a ≡ z * x → c * b ≡ z * y → (a - b) * c ≡ (x - y) * z
cross a b c x y z e f = mul_comm (a - b) c ∙ mul-sub c a b ∙ both e f ∙ sym (mul-sub z x y) ∙ mul_comm z (x - y)
  where
    both : {p q r s : ℕ} → p ≡ q → r ≡ s → p - r ≡ q - s
    both e f = cc

pub num-scale : (s zn zd : ℕ) (cs : List ℕ) → num (s * zn) (s * zd) cs * den zd cs ≡ num zn zd cs * den (s * zd) cs
unfolding num den
num-scale s zn zd [] = refl
num-scale s zn zd (c ∷ cs) =
    cross (c * (s * zd * den (s * zd) cs)) (s * zn * num (s * zn) (s * zd) cs) (c * (zd * den zd cs)) (c * (zd * den zd cs)) (zn * num zn zd cs) (c * (s * zd * den (s * zd) cs)) (mul_comm (c * (zd * den zd cs)) _)
    (go (num (s * zn) (s * zd) cs) (den zd cs) (num zn zd cs) (den (s * zd) cs) (num-scale s zn zd cs))
  where
    go : (N' D N D' : ℕ) → N' * D ≡ N * D' → c * (zd * D) * (s * zn * N') ≡ c * (s * zd * D') * (zn * N)
    go N' D N D' e = omega (arith, ap (λ t. c * zd * s * zn * t) e)

squares : (k n : ℕ) → k * k * (n * n) ≡ k * n * (k * n)
squares k n = omega arith

-- the sums at k * n / (k * d) and at n / d are the same
pub sine_same : (k n d : ℕ) → sine_num (k * n) (k * d) * sine_den d ≡ sine_num n d * sine_den (k * d)
unfolding sine_num sine_den
sine_same k n d =
    go _ _ _ _ (subst₂ (λ x y. num x y sine_divisors * den (d * d) sine_divisors ≡ num (n * n) (d * d) sine_divisors * den y sine_divisors) (squares k n) (squares k d) (num-scale (k * k) (n * n) (d * d) sine_divisors))
  where
    go : (N' D N D' : ℕ) → N' * D ≡ N * D' → k * n * N' * (d * D) ≡ n * N * (k * d * D')
    go N' D N D' e = omega (arith, ap (λ t. k * n * d * t) e)

pub cosine_same : (k n d : ℕ) → cosine_num (k * n) (k * d) * cosine_den d ≡ cosine_num n d * cosine_den (k * d)
unfolding cosine_num cosine_den
cosine_same k n d =
    subst₂ (λ x y. num x y (2 ∷ cosine_divisors) * den (d * d) (2 ∷ cosine_divisors) ≡ num (n * n) (d * d) (2 ∷ cosine_divisors) * den y (2 ∷ cosine_divisors)) (squares k n) (squares k d) (num-scale (k * k) (n * n) (d * d) (2 ∷ cosine_divisors))
