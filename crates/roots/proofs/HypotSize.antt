-- Sizes: a hypotenuse is at most twice a bound of its sides, and each side at most twice the hypotenuse.
use mathlib.Core.Path.{◌≡◌, refl, sym, ◌∙◌, subst}
use mathlib.Core.Bool.{Bool, true, false, not, cond}
use mathlib.Core.Logic.{◌⊎◌, inl, inr}
use Prim.Native.Nat.{ℕ, suc, ◌+◌, ◌*◌, ◌^◌, ◌≤◌, ◌<◌}
use native.Mathlib.Nat.{le_trans, le_of_eq, le_of_lt, le_refl, mul-le-mul, mul-le-mul_right, le_of_mul-le-mul_right, mul_assoc, mul_comm, eq-zero-or-pos, pow-succ'}
use native.Mathlib.Omega.{arith}
use lib.Dec.{T, ltb, ltb→lt, nltb→le}
use lib.Pow.{pow_pos, pow-add, pow_mono}
use lib.Ieee.{Float, of_bits}
use lib.Ieee.Fits.{and_i}
use Rattle.laws.specs.Size.{Small, Times}
use Rattle.laws.specs.Units.{sign, units_of}
use Rattle.laws.proofs.Bools.{test_of_le}
use Rattle.laws.proofs.Compare.{le-units}
use Rattle.laws.proofs.Numbers.{le_by}
use Rattle.laws.proofs.Size.{units_small}
use Rattle.math.specs.Sign.{abs}
use Rattle.math.proofs.Sign.{abs-units}
use Rattle.roots.specs.Hypot.{largest, in_domain, larger, hypot, Hypotenuse}
use Rattle.roots.proofs.HypotBound.{hypot_is}

-- ---- the domain
module _ (p q : ℕ) (h : p ≤ q + 500) where
  cap : (u : ℕ) → u * 2 ^ q ≤ 2 ^ p * 2 ^ 1074 → u ≤ 2 ^ 1574
  cap u k = le_of_mul-le-mul_right {k = 2 ^ q} (le_trans k (le_trans (mul-le-mul_right (2 ^ 1074) (subst (λ t. 2 ^ p ≤ t) (pow-add 2 q 500) (pow_mono h))) (le_of_eq (mul_assoc (2 ^ q) (2 ^ 500) (2 ^ 1074) ∙ mul_comm (2 ^ q) (2 ^ 1574))))) (pow_pos q)

  pub in-hypot-domain : {x : Float} → Small p q x → T (in_domain x)
  unfolding in_domain
  in-hypot-domain {x} a = subst T (sym (le-units (abs x) largest (units_of x) (2 ^ 1574) (abs-units x (sign x) (units_of x) (units_small a)) (unfold of_bits in (refl, refl)))) (test_of_le (units_of x) (2 ^ 1574) (cap (units_of x) a.most))

  pub hypotenuse : {x y : Float} → Small p q x → Small p q y → Hypotenuse x y (hypot x y)
  hypotenuse {x} {y} a b = (hypot_is x y a.held b.held).inside (and_i (in_domain x) (in_domain y) (in-hypot-domain a) (in-hypot-domain b))

-- ---- on whole numbers, for the hypotenuse s of the sides a and b
pick : (a b : ℕ) → (a ≤ larger a b) × (b ≤ larger a b)
pick a b = go (ltb a b) (ltb→lt a b) (nltb→le a b)
  where
    go : (c : Bool) → (T c → a < b) → (T (not c) → b ≤ a) → (a ≤ cond c b a) × (b ≤ cond c b a)
    go true f g = (le_of_lt (f tt), le_refl b)
    go false f g = (le_refl a, g tt)

-- either one side is 0, or both are small, or neither
by_cases : {P : Type 0} (a b : ℕ) → ((a ≡ 0) ⊎ (b ≡ 0) ⊎ (larger a b < 2 ^ 574) → P) → (0 < a → 0 < b → 2 ^ 574 ≤ larger a b → P) → P
by_cases {P} a b f g =
    elim (eq-zero-or-pos a) [
      | inl z ↦ f (inl z)
      | inr pa ↦ elim (eq-zero-or-pos b) [
        | inl z ↦ f (inr (inl z))
        | inr pb ↦ at (ltb (larger a b) (2 ^ 574)) (ltb→lt (larger a b) (2 ^ 574)) (λ n. g pa pb (nltb→le (larger a b) (2 ^ 574) n))
      ]
    ]
  where
    at : (c : Bool) → (T c → larger a b < 2 ^ 574) → (T (not c) → P) → P
    at true l n = f (inr (inr (l tt)))
    at false l n = n tt

-- a multiple of the hypotenuse, where the sides' multiples are at most C
most_of : (a b s C Q : ℕ) → a * Q ≤ C → b * Q ≤ C → 2 ^ 50 * (s * s) ≤ (2 ^ 50 + 1) * (a * a + b * b) → s * Q ≤ 2 * C
most_of a b s C Q ha hb h = le_by (λ l. clash (mul-le-mul ha ha) (mul-le-mul hb hb) (mul-le-mul l l) (mul-le-mul_right (Q * Q) h))
  where
    clash : a * Q * (a * Q) ≤ C * C → b * Q * (b * Q) ≤ C * C → suc (2 * C) * suc (2 * C) ≤ s * Q * (s * Q) → 2 ^ 50 * (s * s) * (Q * Q) ≤ (2 ^ 50 + 1) * (a * a + b * b) * (Q * Q) → ⊥
    clash p q r t = last (C * C) (a * a * (Q * Q)) (b * b * (Q * Q)) (s * s * (Q * Q)) (omega (arith, p)) (omega (arith, q)) (omega (arith, r)) (omega (arith, t))
      where
        last : (c x y z : ℕ) → x ≤ c → y ≤ c → 4 * c + 1 ≤ z → 2 ^ 50 * z ≤ (2 ^ 50 + 1) * (x + y) → ⊥
        last c x y z i j k l = omega arith

side_of : (a b s c : ℕ) → 2 ^ 50 * (a * a + b * b) ≤ 2 ^ 50 * (s * s) + (a * a + b * b) → c * c ≤ a * a + b * b → c ≤ 2 * s
side_of a b s c h k = le_by (λ l. clash (a * a + b * b) h (le_trans (mul-le-mul l l) k))
  where
    clash : (w : ℕ) → 2 ^ 50 * w ≤ 2 ^ 50 * (s * s) + w → suc (2 * s) * suc (2 * s) ≤ w → ⊥
    clash w h k = omega (arith, h, k)

-- ---- of floats
pub hypot-small : {p q : ℕ} {x y : Float} → p ≤ q + 500 → Small p q x → Small p q y → Small (suc p) q (hypot x y)
hypot-small {p} {q} {x} {y} h a b = record { held = w.held; number = w.number; most = rw (pow-succ' 2 p, mul_assoc 2 (2 ^ p) (2 ^ 1074)) (by_cases (units_of x) (units_of y) (λ c. plain (w.plain c)) (λ i j k. most_of (units_of x) (units_of y) (units_of (hypot x y)) (2 ^ p * 2 ^ 1074) (2 ^ q) a.most b.most (w.over i j k))) }
  where
    w : Hypotenuse x y (hypot x y)
    w = hypotenuse p q h a b

    plain : units_of (hypot x y) ≡ larger (units_of x) (units_of y) → units_of (hypot x y) * 2 ^ q ≤ 2 * (2 ^ p * 2 ^ 1074)
    plain e = subst (λ n. n * 2 ^ q ≤ 2 * (2 ^ p * 2 ^ 1074)) (sym e) (go (ltb (units_of x) (units_of y)))
      where
        twice : (n c : ℕ) → n ≤ c → n ≤ 2 * c
        twice n c h = omega arith

        go : (c : Bool) → cond c (units_of y) (units_of x) * 2 ^ q ≤ 2 * (2 ^ p * 2 ^ 1074)
        go true = twice (units_of y * 2 ^ q) (2 ^ p * 2 ^ 1074) b.most
        go false = twice (units_of x * 2 ^ q) (2 ^ p * 2 ^ 1074) a.most

pub hypot_sides : {p q : ℕ} {x y : Float} → p ≤ q + 500 → Small p q x → Small p q y → Times 1 x (hypot x y) × Times 1 y (hypot x y)
hypot_sides {p} {q} {x} {y} h a b = (record { held = a.held; number = a.number; most = both.0 }, record { held = b.held; number = b.number; most = both.1 })
  where
    w : Hypotenuse x y (hypot x y)
    w = hypotenuse p q h a b

    first : (u v : ℕ) → u ≤ u + v
    first u v = omega arith

    second : (u v : ℕ) → v ≤ u + v
    second u v = omega arith

    twice : (u v s : ℕ) → u ≤ v → s ≡ v → u ≤ 2 * s
    twice u v s h e = omega arith

    both : (units_of x ≤ 2 * units_of (hypot x y)) × (units_of y ≤ 2 * units_of (hypot x y))
    both = by_cases (units_of x) (units_of y) (λ c. (twice (units_of x) (larger (units_of x) (units_of y)) (units_of (hypot x y)) (pick (units_of x) (units_of y)).0 (w.plain c), twice (units_of y) (larger (units_of x) (units_of y)) (units_of (hypot x y)) (pick (units_of x) (units_of y)).1 (w.plain c))) (λ i j k. (side_of (units_of x) (units_of y) (units_of (hypot x y)) (units_of x) (w.under i j k) (first (units_of x * units_of x) (units_of y * units_of y)), side_of (units_of x) (units_of y) (units_of (hypot x y)) (units_of y) (w.under i j k) (second (units_of x * units_of x) (units_of y * units_of y))))
