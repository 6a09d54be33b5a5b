-- num / den is the plain alternating sum. Over the one denominator den, term j is zn ^ j times the divisors and the powers of zd after it; the terms with an even j, less those with an odd j, make num.
use mathlib.Core.Path.{◌≡◌, ap}
use mathlib.Core.List.{List, [], ◌∷◌}
use Prim.Native.Nat.{ℕ, ◌+◌, ◌*◌, ◌-◌, ◌≤◌}
use native.Mathlib.Omega.{arith}
use Rattle.trigonometry.specs.Taylor.{num, den}
use Rattle.trigonometry.proofs.Horner.{AtLeast, num-le-den, exact_le}

-- ---- the terms with an even j, and those with an odd j, over one denominator; p is zn ^ j
unfoldable mutual
  pub evens : ℕ → ℕ → ℕ → List ℕ → ℕ
  evens zn zd p [] = p
  evens zn zd p (c ∷ cs) = p * den zd (c ∷ cs) + odds zn zd (p * zn) cs

  pub odds : ℕ → ℕ → ℕ → List ℕ → ℕ
  odds zn zd p [] = 0
  odds zn zd p (c ∷ cs) = evens zn zd (p * zn) cs

pub alternating : (zn zd p : ℕ) (cs : List ℕ) → zn ≤ zd → AtLeast 1 cs → p * num zn zd cs + odds zn zd p cs ≡ evens zn zd p cs
unfolding evens odds num den AtLeast
alternating zn zd p [] h a = omega arith
alternating zn zd p (c ∷ cs) h a =
    step (c * (zd * den zd cs)) (num zn zd cs) (odds zn zd (p * zn) cs) (evens zn zd (p * zn) cs) (alternating zn zd (p * zn) cs h a.1)
    (exact_le c zn zd (num zn zd cs) (den zd cs) a.0 h (num-le-den zn zd cs))
  where
    step : (D N O E : ℕ) → p * zn * N + O ≡ E → zn * N ≤ D → p * (D - zn * N) + E ≡ p * D + O
    step D N O E e l = go (D - zn * N) (omega arith)
      where
        go : (k : ℕ) → k + zn * N ≡ D → p * k + E ≡ p * D + O
        go k q = omega (arith, ap (λ t. p * t) q)
