-- Where an operation is exact: rounding a float's own value, a whole number of 53 digits as a float, a product with a power of two, and the whole part of a
-- float as an integer.
use mathlib.Core.Path.{◌≡◌, refl, sym, ap, ◌∙◌, subst}
use mathlib.Core.Bool.{Bool, true, false, true≢false}
use Prim.Native.Nat.{ℕ, suc, ◌+◌, ◌*◌, ◌-◌, ◌^◌, ◌/◌, ◌≤◌, ◌<◌, min}
use native.Mathlib.Nat.{le_of_lt, lt_of_le_of_lt, mul-pos, mul-one, mul_assoc, mul-le-mul, mul-le-mul_right, eq_of_mul-eq-mul_right, sub-le}
use native.Mathlib.Omega.{arith}
use lib.IntN.{pos, negsuc}
use lib.Dec.{T, lt→ltb, lit<}
use lib.Pow.{pow-add, pow_pos, pow_mono}
use lib.Ieee.{Float, nan, inf, fin, binary64, fits, up, down, mul, round, unlike, of_int, to_unsigned, lt, le, div, of_bits}
use lib.Ieee.Back.{round_whole}
use lib.Ieee.Exact.{HasValue, round_exact}
use lib.Ieee.Fits.{round-fits, down_pos}
use lib.Ieee.Nearest.{div_same}
use lib.Ieee.Scale.{finite, round_same}
use Rattle.laws.specs.Units.{Units, sign, units_of}
use Rattle.laws.proofs.Compare.{lt-values}
use Rattle.laws.proofs.Numbers.{sub-add}
use Rattle.laws.proofs.Order.{lt_le_trans, le_lt_trans}
use Rattle.laws.proofs.Units.{Form, form, own_units, units_are, finite_of_units, rescale, same_float, mul-units}

-- ---- a float's own value
pub finite_of_value : (x : Float) (s : Bool) (a c : ℕ) → HasValue x s a c → T (finite x) × (sign x ≡ s)
finite_of_value nan s a c v = absurd v
finite_of_value (inf t) s a c v = absurd v
finite_of_value (fin t m e) s a c v = (tt, v.0)

-- a / c in units
pub value-units : (x : Float) (s : Bool) (a c : ℕ) → T (fits binary64 x) → HasValue x s a c → units_of x * c ≡ a * 2 ^ 1074
value-units nan s a c t v = absurd v
value-units (inf r) s a c t v = absurd v
value-units (fin r m e) s a c t v = go (m * up e) (down e) (units_of (fin r m e)) (2 ^ 1074) (down_pos e) v.1 (own_units (fin r m e) t tt).1
  where
    go : (u d n L : ℕ) → 0 < d → u * c ≡ a * d → u * L ≡ n * d → n * c ≡ a * L
    go u d n L D h k = eq_of_mul-eq-mul_right d D (n * c) (a * L) (omega (arith, ap (λ z. z * L) h, ap (λ z. z * c) k))

pub round_own : (x : Float) (s : Bool) (a c : ℕ) → T (fits binary64 x) → 0 < c → HasValue x s a c → round binary64 s a c ≡ x
round_own x s a c t C v =
    same_float (round binary64 s a c) x (round-fits binary64 s a c) t r.0 f.0 (r.1 ∙ sym f.1) (units_are (round binary64 s a c) s (units_of x) back)
  where
    f : T (finite x) × (sign x ≡ s)
    f = finite_of_value x s a c v

    o : Form x
    o = form x t f.0

    exact : HasValue (round binary64 s a c) s a c
    exact = round_exact binary64 s a c o.q o.j C o.few o.top (sym (value-units x s a c t v) ∙ ap (λ z. z * c) o.is)

    back : Units (round binary64 s a c) s (units_of x)
    back = rescale (round binary64 s a c) s a c (units_of x) (2 ^ 1074) C (value-units x s a c t v) exact

    r : T (finite (round binary64 s a c)) × (sign (round binary64 s a c) ≡ s)
    r = finite_of_units (round binary64 s a c) s (units_of x) back

-- ---- a whole number as a float
pub whole-value : (n : ℕ) → n ≤ 2 ^ 53 → HasValue (of_int binary64 (pos n)) false n 1
unfolding of_int
whole-value n h = round_whole binary64 false n h

-- ---- a product with a power of two
pub unlike_false : (s : Bool) → unlike s false ≡ s
unlike_false true = refl
unlike_false false = refl

power_units : (k : ℕ) → Units (fin false 1 (pos k)) false (2 ^ k * 2 ^ 1074)
power_units k = (refl, go (2 ^ k) (2 ^ 1074))
  where
    go : (K L : ℕ) → 1 * K * L ≡ K * L * 1
    go K L = omega arith

pub mul_power : (x : Float) (k : ℕ) → T (fits binary64 x) → T (finite x) → units_of x * 2 ^ k < 2 ^ 2098
    → Units (mul binary64 x (fin false 1 (pos k))) (sign x) (units_of x * 2 ^ k)
mul_power x k t f top =
    let o = form x t f in
    let n = units_of x in
    let e : n * 2 ^ k ≡ o.q * 2 ^ (o.j + k) = ap (λ z. z * 2 ^ k) o.is ∙ mul_assoc o.q (2 ^ o.j) (2 ^ k) ∙ ap (λ z. o.q * z) (sym (pow-add 2 o.j k)) in
    subst (λ z. Units z (sign x) (n * 2 ^ k))
    (sym (mul-units x (fin false 1 (pos k)) (sign x) false n (2 ^ k * 2 ^ 1074) (own_units x t f) (power_units k)
    ∙ ap (λ z. round binary64 z (n * (2 ^ k * 2 ^ 1074)) (2 ^ 1074 * 2 ^ 1074)) (unlike_false (sign x))))
    (rescale (round binary64 (sign x) (n * (2 ^ k * 2 ^ 1074)) (2 ^ 1074 * 2 ^ 1074)) (sign x) (n * (2 ^ k * 2 ^ 1074)) (2 ^ 1074 * 2 ^ 1074) (n * 2 ^ k) (2 ^ 1074)
    (mul-pos (pow_pos 1074) (pow_pos 1074)) (regroup n (2 ^ k) (2 ^ 1074))
    (round_exact binary64 (sign x) (n * (2 ^ k * 2 ^ 1074)) (2 ^ 1074 * 2 ^ 1074) o.q (o.j + k) (mul-pos (pow_pos 1074) (pow_pos 1074)) o.few
    (subst (λ z. z < 2 ^ 2098) e top)
    (sym (regroup n (2 ^ k) (2 ^ 1074)) ∙ ap (λ z. z * (2 ^ 1074 * 2 ^ 1074)) e)))
  where
    regroup : (n K L : ℕ) → n * K * (L * L) ≡ n * (K * L) * L
    regroup n K L = omega arith

-- a whole number of 53 digits, divided by a power of two
pub div_power : (x : Float) (n i : ℕ) → n < 2 ^ 53 → suc i ≤ 1074 → HasValue x false n 1
    → HasValue (mul binary64 x (fin false 1 (negsuc i))) false n (2 ^ suc i)
unfolding mul
div_power nan n i h k v = absurd v
div_power (inf t) n i h k v = absurd v
div_power (fin true m e) n i h k v = absurd (no v.0)
  where
    no : true ≡ false → ⊥
    no p = subst (λ b. T b) p tt
div_power (fin false m e) n i h k v =
    rescale (round binary64 false (m * up e * 1) (down e * 2 ^ suc i)) false (m * up e * 1) (down e * 2 ^ suc i) n (2 ^ suc i)
    (mul-pos (down_pos e) (pow_pos (suc i))) (regroup (m * up e) (down e) (2 ^ suc i) v.1)
    (round_exact binary64 false (m * up e * 1) (down e * 2 ^ suc i) n (1074 - suc i) (mul-pos (down_pos e) (pow_pos (suc i))) h
    (lt_of_le_of_lt (mul-le-mul_right (2 ^ (1074 - suc i)) (le_of_lt h)) (small (1074 - suc i) (less i)))
    (exact (m * up e) (down e) (2 ^ 1074) (2 ^ (1074 - suc i)) (2 ^ suc i) v.1 (ap (λ z. 2 ^ z) (sub-add 1074 (suc i) k) ∙ pow-add 2 (1074 - suc i) (suc i))))
  where
    regroup : (u d K : ℕ) → u * 1 ≡ n * d → n * (d * K) ≡ u * 1 * K
    regroup u d K p = omega (arith, ap (λ z. z * K) p)

    less : (i : ℕ) → 1074 - suc i ≤ 1074
    less i = omega arith

    small : (j : ℕ) → j ≤ 1074 → 2 ^ 53 * 2 ^ j < 2 ^ 2098
    small j l = subst (λ z. z < 2 ^ 2098) (pow-add 2 53 j) (lib.Pow.pow-lt (room j l))
      where
        room : (j : ℕ) → j ≤ 1074 → 53 + j < 2098
        room j l = omega arith

    exact : (u d L J K : ℕ) → u * 1 ≡ n * d → L ≡ J * K → u * 1 * L ≡ n * J * (d * K)
    exact u d L J K p q = omega (arith, ap (λ z. z * L) p, ap (λ z. n * d * z) q)

-- ---- the whole part
pub to_unsigned_lem : (w : ℕ) (x : Float) (a c : ℕ) → 0 < c → HasValue x false a c → a / c < 2 ^ w → to_unsigned w x ≡ a / c
unfolding to_unsigned
to_unsigned_lem w nan a c C v h = absurd v
to_unsigned_lem w (inf s) a c C v h = absurd v
to_unsigned_lem w (fin true m e) a c C v h = absurd (subst (λ b. T b) v.0 tt)
to_unsigned_lem w (fin false m e) a c C v h = at (m * up e / down e) (a / c) (2 ^ w) (div_same (m * up e) (down e) a c (down_pos e) C v.1) h
  where
    at : (u v w : ℕ) → u ≡ v → v < w → min u (w - 1) ≡ v
    at u v w e h = omega arith

-- what the cast to a u64 asks, of a value below 2 ^ 64
pub castable_value : (y : Float) (a c : ℕ) → 0 < c → HasValue y false a c → a < 2 ^ 64 * c → T (lt (fin true 1 (pos 0)) y) × T (lt y (fin false 1 (pos 64)))
castable_value y a c C v h = (
  subst T (sym (lt-values (fin true 1 (pos 0)) y true false 1 1 a c (pow_pos 0) C (refl, refl) v)) (lt→ltb 0 (1 * c + a * 1) (positive a c C)),
  subst T (sym (lt-values y (fin false 1 (pos 64)) false false a c (2 ^ 64) 1 C (pow_pos 0) v (refl, refl)))
      (lt→ltb (a * 1) (2 ^ 64 * c) (subst (λ n. n < 2 ^ 64 * c) (sym (mul-one a)) h)),
)
  where
    positive : (a c : ℕ) → 0 < c → 0 < 1 * c + a * 1
    positive a c C = omega arith

-- what the cast to a u64 asks, from tests at 0 and at a limit below 2 ^ 64
pub castable : (x y : Float) → T (le (fin false 0 (pos 0)) x) → T (le x y) → T (lt y (fin false 1 (pos 64)))
    → T (lt (fin true 1 (pos 0)) x) × T (lt x (fin false 1 (pos 64)))
castable x y l h k = (lt_le_trans (fin true 1 (pos 0)) (fin false 0 (pos 0)) x (unfold lt in tt) l, le_lt_trans x y (fin false 1 (pos 64)) h k)

-- 0 / 0 is the NaN
pub zero_by_zero : div binary64 (of_bits binary64 0) (of_bits binary64 0) ≡ nan
unfolding div of_bits
zero_by_zero = refl

-- ---- over a power of two
-- n / 2 ^ i, for an n of 53 digits
pub round_power : (s : Bool) (n i : ℕ) → n < 2 ^ 53 → i ≤ 1074 → HasValue (round binary64 s n (2 ^ i)) s n (2 ^ i)
round_power s n i h k =
    round_exact binary64 s n (2 ^ i) n (1074 - i) (pow_pos i) h (lt_of_le_of_lt (mul-le-mul (le_of_lt h) (pow_mono (sub-le 1074 i))) (lit< tt))
    (ap (λ z. n * 2 ^ z) (sub-add 1074 i k) ∙ ap (λ z. n * z) (pow-add 2 (1074 - i) i) ∙ sym (mul_assoc n (2 ^ (1074 - i)) (2 ^ i)))

-- a whole number times 2 ^ - suc i is that fraction, rounded
pub over_power : (x : Float) (n i : ℕ) → HasValue x false n 1 → mul binary64 x (fin false 1 (negsuc i)) ≡ round binary64 false n (2 ^ suc i)
unfolding mul
over_power nan n i v = absurd v
over_power (inf s) n i v = absurd v
over_power (fin true m e) n i v = absurd (true≢false v.0)
over_power (fin false m e) n i v =
    round_same binary64 false (m * up e * 1) (down e * 2 ^ suc i) n (2 ^ suc i)
    (mul-pos (down_pos e) (pow_pos (suc i))) (pow_pos (suc i)) (go (m * up e) (down e) (2 ^ suc i) v.1)
  where
    go : (u d p : ℕ) → u * 1 ≡ n * d → u * 1 * p ≡ n * (d * p)
    go u d p e = omega (arith, ap (λ z. z * p) e)
