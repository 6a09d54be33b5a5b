-- Horner's rule in whole units against the exact sum: one law, over the list of divisors, for every series.
--
-- A step takes the coefficient S / p, cut below by less than one unit, less Z times what follows over S. With z at most 2 / 3 and divisors of at least 6 the error e of what follows counts 2 / 3 fold, Z's own error 1 / 6 fold, and two cuts are added: e stays e, where it is at least 3 and half of Z's error more.
use mathlib.Core.List.{List, [], ◌∷◌}
use Prim.Native.Nat.{ℕ, ◌+◌, ◌*◌, ◌-◌, ◌/◌, ◌≤◌, ◌<◌}
use native.Mathlib.Nat.{mul-le-mul_left, mul-le-mul_right, le_trans, mul-one, mul-le-mul, mul-pos, div-le_of_le-mul, div-mul-le_self, le-div_iff_mul-le}
use native.Mathlib.Omega.{arith}
use Rattle.trigonometry.specs.Taylor.{num, den}
use Rattle.trigonometry.specs.Units.{horner}
use Rattle.trigonometry.proofs.Near.{Near, near_weaken, near_den, near_part, near_mul, near_minus}

unfoldable pub AtLeast : ℕ → List ℕ → Type 0
AtLeast k [] = Unit {0}
AtLeast k (c ∷ cs) = (k ≤ c) × AtLeast k cs

pub num-le-den : (zn zd : ℕ) (cs : List ℕ) → num zn zd cs ≤ den zd cs
unfolding num den
num-le-den zn zd [] = omega arith
num-le-den zn zd (c ∷ cs) = omega arith

pub horner-le : (S Z p : ℕ) (cs : List ℕ) → horner S Z p cs ≤ S / p
unfolding horner
horner-le S Z p [] = omega arith
horner-le S Z p (c ∷ cs) = omega arith

pub exact_le : (c zn zd N D : ℕ) → 1 ≤ c → zn ≤ zd → N ≤ D → zn * N ≤ c * (zd * D)
exact_le c zn zd N D hc hz hN = omega (arith, mul-le-mul hz hN, mul-le-mul_right (zd * D) hc)

-- Z * Q / S ≤ S / p where Q ≤ S / (p * c)
falls : (S Z Q p c : ℕ) → 0 < S → 0 < p → 1 ≤ c → Z ≤ S → Q ≤ S / (p * c) → Z * Q / S ≤ S / p
falls S Z Q p c hS hp hc hZ hQ = le_trans (div-le_of_le-mul S (mul-le-mul_right Q hZ)) ((le-div_iff_mul-le hp).1 (go (S / (p * c)) hQ (div-mul-le_self S (p * c))))
  where
    go : (t : ℕ) → Q ≤ t → t * (p * c) ≤ S → Q * p ≤ S
    go t h k = omega (arith, mul-le-mul_right p h, mul-le-mul_left (t * p) hc)

small : (p c N D : ℕ) → 0 < p → 6 ≤ c → N ≤ D → 6 * N ≤ 1 * (p * c * D)
small p c N D hp hc hN = omega (arith, mul-le-mul (mul-le-mul hp hc) hN)

-- L1: with z at most 2 / 3 and divisors of at least 6 the error stays below e, where e is at least half of z's error and 3
pub horner_near : (S Z zn zd oz uz e p : ℕ) (cs : List ℕ) → 0 < S → 3 * Z ≤ 2 * S → zn ≤ zd → AtLeast 6 cs → oz + 6 ≤ 2 * e → uz + 6 ≤ 2 * e → 0 < p
    → Near S Z zn zd oz uz → Near S (horner S Z p cs) (num zn zd cs) (p * den zd cs) e e
unfolding horner num den AtLeast
horner_near S Z zn zd oz uz e p [] hS hZ hz hc ho hu hp f = near_weaken (omega arith) (omega arith) (near_part S p 1 hp)
horner_near S Z zn zd oz uz e p (c ∷ cs) hS hZ hz hc ho hu hp f =
    near_weaken (omega arith) (omega arith)
    (near_minus (falls S Z (horner S Z (p * c) cs) p c hS hp (omega (arith, hc.0)) (omega arith) (horner-le S Z (p * c) cs)) (exact_le c zn zd (num zn zd cs) (den zd cs) (omega (arith, hc.0)) hz (num-le-den zn zd cs))
    (near_part S p (c * (zd * den zd cs)) hp)
    (near_den (omega arith)
    (simp mul-one at
    (near_mul S 1 6 4 1 {o = e - 1} {u = e} hS (omega arith) (omega arith) (omega arith) (small p c (num zn zd cs) (den zd cs) hp hc.0 (num-le-den zn zd cs)) (omega arith) (omega arith) f
    (horner_near S Z zn zd oz uz e (p * c) cs hS hZ hz hc.1 ho hu (mul-pos hp (omega (arith, hc.0))) f)))))
