-- The error of one operation: a fraction, a product, a sum or a quotient of floats, rounded once. Nothing overflows up to 2 ^ 1023.
use mathlib.Core.Path.{refl, sym, subst}
use mathlib.Core.Bool.{Bool, false}
use Prim.Native.Nat.{ℕ, ◌+◌, ◌*◌, ◌^◌, ◌≤◌, ◌<◌}
use native.Mathlib.Nat.{one-mul, le_trans, le_of_eq, lt_of_lt_of_le, lt_of_not-le, mul_comm, mul_right_comm, mul-le-mul_right, le_of_mul-le-mul_right, mul-pos}
use mathlib.Core.Path.{ap, ◌∙◌}
use native.Mathlib.Omega.{arith}
use lib.Dec.{T, lit<, lit≤}
use lib.Pow.{pow_pos}
use lib.Ieee.{Float, binary64, round, mul, add, div, unlike}
use lib.Ieee.Exact.{units_val, round_exact}
use lib.Ieee.Fits.{round_is}
use lib.Ieee.Order.{drop, kept, round_mono}
use lib.Ieee.Scale.{grid, overflow}
use Rattle.laws.specs.Rounding.{Near, Close}
use Rattle.laws.specs.Units.{Units}
use Rattle.laws.proofs.Bools.{le_of_test}
use Rattle.laws.proofs.Compare.{le-units}
use Rattle.laws.proofs.Rounding.{near_of_normal, close_at_all, near_cancel, close_cancel}
use Rattle.laws.proofs.Units.{mul-units, add-units, div-units, add_rounding}

-- ---- a fraction a / c of at most 2 ^ 1023
pub in-range : (a c : ℕ) → 0 < c → a ≤ c * 2 ^ 1023 → grid binary64 a c < overflow binary64
in-range a c C h = lt_of_lt_of_le (room a c (grid binary64 a c) (2 ^ 1074) (2 ^ 1023) C (lit< tt) h (close_at_all (a * 2 ^ 1074) c C)) (lit≤ tt)
  where
    room : (a c g L B : ℕ) → 0 < c → 0 < B * L → a ≤ c * B → Close (2 ^ 53) (a * L) c g → g < 2 * (B * L)
    room a c g L B C P h x = lt_of_not-le (λ k. clash x.over (mul-le-mul_right L h) (mul-le-mul_right c k) (mul-le-mul_right c P))
      where
        clash : 2 * (2 ^ 53 * (g * c)) ≤ 2 * (2 ^ 53 + 1) * (a * L) + 2 ^ 53 * c → a * L ≤ c * B * L → 2 * (B * L) * c ≤ g * c → 1 * c ≤ B * L * c → ⊥
        clash p q r s = omega arith

pub round-value : (s : Bool) (a c : ℕ) → grid binary64 a c < overflow binary64 → Units (round binary64 s a c) s (grid binary64 a c)
round-value s a c h = subst (λ z. Units z s (grid binary64 a c)) (sym (round_is binary64 s a c)) (units_val binary64 s (kept 53 (a * 2 ^ 1074) c) (drop 53 (a * 2 ^ 1074) c) h)

-- y is a / c rounded: finite, of the sign s, `size` units in size
pub record Rounded (y : Float) (s : Bool) (a c : ℕ) : Type 0 where
  pub size : ℕ
  pub value : Units y s size
  pub close : Close (2 ^ 53) (a * 2 ^ 1074) c size
  pub near : 2 ^ 52 * c ≤ a * 2 ^ 1074 → Near (2 ^ 53) (a * 2 ^ 1074) c size

pub rounded : (s : Bool) (a c : ℕ) → 0 < c → a ≤ c * 2 ^ 1023 → Rounded (round binary64 s a c) s a c
rounded s a c C h = record { size = grid binary64 a c; value = round-value s a c (in-range a c C h); close = close_at_all (a * 2 ^ 1074) c C; near = near_of_normal (a * 2 ^ 1074) c C }

-- ---- what is at most a float rounds to at most that float, and what is at least one to at least that one
module _ (a c : ℕ) (C : 0 < c) (q i : ℕ) (few : q < 2 ^ 53) where
  float_value : q * 2 ^ i < 2 ^ 2098 → Units (round binary64 false (q * 2 ^ i) (2 ^ 1074)) false (q * 2 ^ i)
  float_value top = round_exact binary64 false (q * 2 ^ i) (2 ^ 1074) q i (pow_pos 1074) few top refl

  pub round-at_most : q * 2 ^ i < 2 ^ 2098 → grid binary64 a c < overflow binary64 → a * 2 ^ 1074 ≤ q * 2 ^ i * c → grid binary64 a c ≤ q * 2 ^ i
  round-at_most top r h =
      le_of_test (grid binary64 a c) (q * 2 ^ i)
      (subst T (le-units (round binary64 false a c) (round binary64 false (q * 2 ^ i) (2 ^ 1074)) (grid binary64 a c) (q * 2 ^ i) (round-value false a c r) (float_value top))
      (round_mono binary64 a c (q * 2 ^ i) (2 ^ 1074) C (pow_pos 1074) h))

  pub round-at_least : q * 2 ^ i < 2 ^ 2098 → grid binary64 a c < overflow binary64 → q * 2 ^ i * c ≤ a * 2 ^ 1074 → q * 2 ^ i ≤ grid binary64 a c
  round-at_least top r h =
      le_of_test (q * 2 ^ i) (grid binary64 a c)
      (subst T (le-units (round binary64 false (q * 2 ^ i) (2 ^ 1074)) (round binary64 false a c) (q * 2 ^ i) (grid binary64 a c) (float_value top) (round-value false a c r))
      (round_mono binary64 (q * 2 ^ i) (2 ^ 1074) a c (pow_pos 1074) C h))

-- a fraction at most a float of at most 2 ^ 1023 is in range
pub under_float : (a c n : ℕ) → n ≤ 2 ^ 1023 * 2 ^ 1074 → a * 2 ^ 1074 ≤ n * c → a ≤ c * 2 ^ 1023
under_float a c n top h = le_of_mul-le-mul_right {k = 2 ^ 1074} (le_trans h (le_trans (mul-le-mul_right c top) (le_of_eq (mul_right_comm (2 ^ 1023) (2 ^ 1074) c ∙ ap (λ t. t * 2 ^ 1074) (mul_comm (2 ^ 1023) c))))) (pow_pos 1074)

-- ---- the product of a and b units: near a * b / 2 ^ 1074
pub record Product (y : Float) (s : Bool) (a b : ℕ) : Type 0 where
  pub size : ℕ
  pub value : Units y s size
  pub close : Close (2 ^ 53) (a * b) (2 ^ 1074) size
  pub near : 2 ^ 52 * 2 ^ 1074 ≤ a * b → Near (2 ^ 53) (a * b) (2 ^ 1074) size

pub product : (x y : Float) (s t : Bool) (a b : ℕ) → Units x s a → Units y t b → a * b ≤ 2 ^ 1074 * 2 ^ 1074 * 2 ^ 1023 → Product (mul binary64 x y) (unlike s t) a b
product x y s t a b v w h =
    let r = rounded (unlike s t) (a * b) (2 ^ 1074 * 2 ^ 1074) (mul-pos (pow_pos 1074) (pow_pos 1074)) h in
    record {
      size = r.size;
      value = subst (λ z. Units z (unlike s t) r.size) (sym (mul-units x y s t a b v w)) r.value;
      close = close_cancel (2 ^ 53) (a * b) (2 ^ 1074) r.size (2 ^ 1074) (pow_pos 1074) r.close;
      near = λ k. near_cancel (2 ^ 53) (a * b) (2 ^ 1074) r.size (2 ^ 1074) (pow_pos 1074) (r.near (scale (2 ^ 52) (2 ^ 1074) k));
    }
  where
    scale : (E L : ℕ) → E * L ≤ a * b → E * (L * L) ≤ a * b * L
    scale E L h = omega (arith, mul-le-mul_right L h)

-- ---- a sum or difference: near a whole number n of units, which is at most `most`
pub record Sum (y : Float) (s : Bool) (n : ℕ) : Type 0 where
  pub size : ℕ
  pub value : Units y s size
  pub near : 2 ^ 52 ≤ n → Near (2 ^ 53) n 1 size

whole-units : (s : Bool) (n : ℕ) → n ≤ 2 ^ 1074 * 2 ^ 1023 → Sum (round binary64 s n (2 ^ 1074)) s n
whole-units s n h =
    let r = rounded s n (2 ^ 1074) (pow_pos 1074) h in
    record { size = r.size; value = r.value; near = λ k. near_cancel (2 ^ 53) n 1 r.size (2 ^ 1074) (pow_pos 1074) (one (2 ^ 1074) (r.near (mul-le-mul_right (2 ^ 1074) k))) }
  where
    one : (L : ℕ) {E n g : ℕ} → Near E n L g → Near E n (1 * L) g
    one L {E} {n} {g} x = record { over = omega (arith, x.over); under = omega (arith, x.under) }

pub sum_of : (x y : Float) (s : Bool) (a b : ℕ) → Units x s a → Units y s b → a + b ≤ 2 ^ 1074 * 2 ^ 1023 → Sum (add binary64 x y) s (a + b)
sum_of x y s a b v w h = subst (λ z. Sum z s (a + b)) (sym (add-units x y s a b v w)) (whole-units s (a + b) h)

pub any_sum : (x y : Float) (s t : Bool) (a b : ℕ) → Units x s a → Units y t b → a + b ≤ 2 ^ 1074 * 2 ^ 1023 → (r : Bool) × (n : ℕ) × (n ≤ a + b) × Sum (add binary64 x y) r n
any_sum x y s t a b v w h =
    let o = add_rounding x y s t a b v w in
    (o.s, o.n, o.few, subst (λ z. Sum z o.s o.n) (sym o.is) (whole-units o.s o.n (le_trans o.few h)))

-- ---- the quotient of a and b units: near a * 2 ^ 1074 / b
pub quotient : (x y : Float) (s t : Bool) (a b : ℕ) → 0 < b → Units x s a → Units y t b → a ≤ b * 2 ^ 1023 → Rounded (div binary64 x y) (unlike s t) a b
quotient x y s t a b B v w h = subst (λ z. Rounded z (unlike s t) a b) (sym (div-units x y s t a b B v w)) (rounded (unlike s t) a b B h)

-- n units, rounded: within one part in 2 ^ 53 and a half of a unit
pub grid_close : (n : ℕ) → Close (2 ^ 53) n 1 (grid binary64 n (2 ^ 1074))
grid_close n = close_cancel (2 ^ 53) n 1 (grid binary64 n (2 ^ 1074)) (2 ^ 1074) (pow_pos 1074) (subst (λ u. Close (2 ^ 53) (n * 2 ^ 1074) u (grid binary64 n (2 ^ 1074))) (sym (one-mul (2 ^ 1074))) (close_at_all (n * 2 ^ 1074) (2 ^ 1074) (pow_pos 1074)))
