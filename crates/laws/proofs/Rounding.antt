-- The error of rounding a fraction n / u to 53 digits. In units of the smallest f64 the result is g, kept digits times the weight of the last of them:
-- within one part in 2 ^ 53 of a fraction in the normal range (2 ^ 52 units and more), and within half a unit besides at any size.
use mathlib.Core.Path.{◌≡◌, sym, subst}
use mathlib.Core.Logic.{◌⊎◌, inl, inr}
use Prim.Native.Nat.{ℕ, ◌+◌, ◌*◌, ◌-◌, ◌^◌, ◌/◌, ◌≤◌, ◌<◌}
use native.Mathlib.Nat.{mul-le-mul_left, le_of_mul-le-mul_right, mul-pos, le-div_iff_mul-le, eq-zero-or-pos}
use native.Mathlib.Omega.{arith}
use lib.Pow.{pow_pos, pow-add}
use lib.Ieee.{size}
use lib.Ieee.Digits.{size_reaches}
use lib.Ieee.Order.{drop, kept}
use Rattle.laws.specs.Rounding.{Near, Close}
use Rattle.laws.proofs.Whole.{closest_is}

-- q * w is within half of w of n
Halfway : ℕ → ℕ → ℕ → Type 0
Halfway n w q = (2 * (q * w) ≤ 2 * n + w) × (2 * n ≤ 2 * (q * w) + w)

-- where digits are dropped, the last kept one weighs 2 ^ -52 of the fraction at most
last-small : (n u : ℕ) → 0 < u → (drop 53 n u ≡ 0) ⊎ (2 ^ 52 * (u * 2 ^ drop 53 n u) ≤ n)
last-small n u U = elim (eq-zero-or-pos (drop 53 n u)) [ inl e ↦ inl e | inr p ↦ inr (go (drop 53 n u) ((le-div_iff_mul-le U).0 (size_reaches (n / u) (52 + drop 53 n u) (more (size (n / u)) p)))) ]
  where
    more : (z : ℕ) → 0 < z - 53 → 52 + (z - 53) < z
    more z h = omega arith

    go : (k : ℕ) → 2 ^ (52 + k) * u ≤ n → 2 ^ 52 * (u * 2 ^ k) ≤ n
    go k h = regroup (2 ^ 52) (2 ^ k) (rw (pow-add 2 52 k) at h)
      where
        regroup : (a b : ℕ) → a * b * u ≤ n → a * (u * b) ≤ n
        regroup a b h = omega arith

-- from a half of w, where w is at most 1 / H of n, to one part in 2 * H; and from a half of u to a half
near_of_half : (H n u g w : ℕ) → 2 * (g * u) ≤ 2 * n + w → 2 * n ≤ 2 * (g * u) + w → H * w ≤ n → Near (2 * H) n u g
near_of_half H n u g w p q h = record { over = omega (arith, mul-le-mul_left H p); under = omega (arith, mul-le-mul_left H q) }

close_of_half : (E n u g : ℕ) → 2 * (g * u) ≤ 2 * n + u → 2 * n ≤ 2 * (g * u) + u → Close E n u g
close_of_half E n u g p q = record { over = omega (arith, mul-le-mul_left E p); under = omega (arith, mul-le-mul_left E q) }

pub close_of_near : (E n u g : ℕ) → Near E n u g → Close E n u g
close_of_near E n u g x = record { over = omega (arith, x.over); under = omega (arith, x.under) }

-- with digits dropped, and with none dropped
dropping : (n u k q : ℕ) → Halfway n (u * 2 ^ k) q → 2 ^ 52 * (u * 2 ^ k) ≤ n → Near (2 ^ 53) n u (q * 2 ^ k)
unfolding Halfway
dropping n u k q w l = near_of_half (2 ^ 52) n u (q * 2 ^ k) (u * 2 ^ k) (over q (2 ^ k) w.0) (under q (2 ^ k) w.1) l
  where
    over : (q b : ℕ) → 2 * (q * (u * b)) ≤ 2 * n + u * b → 2 * (q * b * u) ≤ 2 * n + u * b
    over q b h = omega arith

    under : (q b : ℕ) → 2 * n ≤ 2 * (q * (u * b)) + u * b → 2 * n ≤ 2 * (q * b * u) + u * b
    under q b h = omega arith

keeping : (n u q : ℕ) → Halfway n (u * 1) q → (2 * (q * 1 * u) ≤ 2 * n + u) × (2 * n ≤ 2 * (q * 1 * u) + u)
unfolding Halfway
keeping n u q w = (omega (arith, w.0), omega (arith, w.1))

module _ (n u : ℕ) (U : 0 < u) where
  halfway : Halfway n (u * 2 ^ drop 53 n u) (kept 53 n u)
  unfolding Halfway
  halfway = let c = closest_is n (u * 2 ^ drop 53 n u) (mul-pos U (pow_pos (drop 53 n u))) in (c.over, c.under)

  pub near_of_normal : 2 ^ 52 * u ≤ n → Near (2 ^ 53) n u (kept 53 n u * 2 ^ drop 53 n u)
  near_of_normal h = go (drop 53 n u) (kept 53 n u) halfway (last-small n u U)
    where
      go : (k q : ℕ) → Halfway n (u * 2 ^ k) q → (k ≡ 0) ⊎ (2 ^ 52 * (u * 2 ^ k) ≤ n) → Near (2 ^ 53) n u (q * 2 ^ k)
      go k q w (inr l) = dropping n u k q w l
      go k q w (inl e) = subst (λ (j : ℕ). Halfway n (u * 2 ^ j) q → Near (2 ^ 53) n u (q * 2 ^ j)) (sym e) (λ v. let t = keeping n u q v in near_of_half (2 ^ 52) n u (q * 1) u t.0 t.1 h) w

  pub close_at_all : Close (2 ^ 53) n u (kept 53 n u * 2 ^ drop 53 n u)
  close_at_all = go (drop 53 n u) (kept 53 n u) halfway (last-small n u U)
    where
      go : (k q : ℕ) → Halfway n (u * 2 ^ k) q → (k ≡ 0) ⊎ (2 ^ 52 * (u * 2 ^ k) ≤ n) → Close (2 ^ 53) n u (q * 2 ^ k)
      go k q w (inr l) = close_of_near (2 ^ 53) n u (q * 2 ^ k) (dropping n u k q w l)
      go k q w (inl e) = subst (λ (j : ℕ). Halfway n (u * 2 ^ j) q → Close (2 ^ 53) n u (q * 2 ^ j)) (sym e) (λ v. let t = keeping n u q v in close_of_half (2 ^ 53) n u (q * 1) t.0 t.1) w

-- a common factor of both sides goes
pub near_cancel : (E n u g L : ℕ) → 0 < L → Near E (n * L) (u * L) g → Near E n u g
near_cancel E n u g L P x = record { over = le_of_mul-le-mul_right {k = L} (omega (arith, x.over)) P; under = le_of_mul-le-mul_right {k = L} (omega (arith, x.under)) P }

pub close_cancel : (E n u g L : ℕ) → 0 < L → Close E (n * L) (u * L) g → Close E n u g
close_cancel E n u g L P x = record { over = le_of_mul-le-mul_right {k = L} (omega (arith, x.over)) P; under = le_of_mul-le-mul_right {k = L} (omega (arith, x.under)) P }
