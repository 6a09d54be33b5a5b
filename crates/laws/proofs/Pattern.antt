-- Floats by their bit patterns: the exponent's field, and the 52 digits below the leading one. Of a float with its sign clear, the field k + 1 with the digits t stands for (2 ^ 52 + t) * 2 ^ k units, and the field 0 for t units.
use mathlib.Core.Path.{◌≡◌, refl, sym, ap, ◌∙◌, subst}
use mathlib.Core.Bool.{true, false, not, cond, true≢false}
use mathlib.Core.Logic.{inl, inr}
use Prim.Native.Nat.{ℕ, suc, ◌+◌, ◌*◌, ◌-◌, ◌^◌, ◌/◌, ◌%◌, ◌≤◌, ◌<◌}
use native.Mathlib.Nat.{pow-succ', mod-eq_of_lt, lt_of_lt_of_le, eq-or-lt_of_le, zero-add}
use native.Mathlib.Omega.{arith}
use lib.IntN.{pos}
use lib.Arith.{lt→nleb, le→nltb}
use lib.Dec.{T, leb, eqb, ltb→lt, eqb→eq, not_T, lit≤}
use lib.Ieee.{Float, nan, inf, fin, binary64, fits, is_nan, up, down, lt, eq, to_bits, of_bits, of_fields, nan_bits, odd, top, hid, size}
use lib.Ieee.Bits.{is_false, cond_no, of_bits-to_bits, nan_bits_above}
use lib.Ieee.Digits.{size-le}
use lib.Ieee.Exact.{HasValue, odd_sign}
use lib.Ieee.Fits.{kept-lt}
use lib.Ieee.Scale.{finite}
use Rattle.laws.specs.Units.{Units, sign, units_of}
use Rattle.laws.proofs.Bools.{holds}
use Rattle.laws.proofs.Compare.{lt-units}
use Rattle.laws.proofs.Units.{form}

-- ---- what is no NaN
pub no_nan_size : (b : ℕ) → b % 2 ^ 63 ≤ 2047 * 2 ^ 52 → T (not (nan_bits binary64 b))
no_nan_size b h = subst (λ t. T (not t)) (sym (nan_bits_above binary64 b)) (le→nltb (2047 * 2 ^ 52) (b % 2 ^ 63) h)

pub no_nan_bits : (b : ℕ) → b < 2047 * 2 ^ 52 → T (not (nan_bits binary64 b))
no_nan_bits b h = no_nan_size b (omega arith)

pub no_nan_of_eq : (x : Float) → eq x x ≡ true → T (not (is_nan x))
unfolding eq is_nan
no_nan_of_eq nan h = absurd (holds h)
no_nan_of_eq (inf s) h = tt
no_nan_of_eq (fin s m e) h = tt

pub no_nan_above : (x y : Float) → lt y x ≡ true → T (not (is_nan x))
unfolding lt is_nan
no_nan_above nan nan p = holds p
no_nan_above nan (inf s) p = holds p
no_nan_above nan (fin s m e) p = holds p
no_nan_above (inf s) y p = tt
no_nan_above (fin s m e) y p = tt

-- ---- from a pattern to its value
fields : (x t : ℕ) → x < 2046 → HasValue (of_fields binary64 false (suc x) t) false ((2 ^ 52 + t) * 2 ^ x) (2 ^ 1074)
unfolding of_fields
fields x t h = rw (cond_no (eqb (suc x) 2047) (cond (eqb t 0) (inf false) nan) (odd 53 false (2 ^ 52 + t) x 1074) (not_T (eqb (suc x) 2047) (λ p. never x h (eqb→eq (suc x) 2047 p)))) (odd_sign 53 false (2 ^ 52 + t) x 1074)
  where
    never : (x : ℕ) → x < 2046 → suc x ≡ 2047 → ⊥
    never x h p = omega arith

no_field : (t : ℕ) → HasValue (of_fields binary64 false 0 t) false (t * 2 ^ 0) (2 ^ 1074)
unfolding of_fields
no_field t = odd_sign 53 false t 0 1074

opened : (b x : ℕ) → b < 2 ^ 63 → b / 2 ^ 52 ≡ x → of_bits binary64 b ≡ of_fields binary64 false x (b % 2 ^ 52)
unfolding of_bits
opened b x small e =
    ap (λ s. of_fields binary64 s (b % top binary64 / hid binary64) (b % hid binary64)) (is_false (leb (top binary64) b) (lt→nleb (top binary64) b small))
    ∙ ap (λ y. of_fields binary64 false y (b % hid binary64)) (ap (λ y. y / hid binary64) (mod-eq_of_lt small) ∙ e)

pub pattern-value : (b k : ℕ) → b / 2 ^ 52 ≡ suc k → k < 2046 → Units (of_bits binary64 b) false ((2 ^ 52 + b % 2 ^ 52) * 2 ^ k)
pattern-value b k e h = subst (λ y. Units y false ((2 ^ 52 + b % 2 ^ 52) * 2 ^ k)) (sym (opened b (suc k) (small b e h) e)) (fields k (b % 2 ^ 52) h)
  where
    small : (b : ℕ) → b / 2 ^ 52 ≡ suc k → k < 2046 → b < 2 ^ 63
    small b e h = omega arith

-- k * 2 ^ 52 + R is the pattern of R * 2 ^ k units, for an R of 53 digits or 2 ^ 53 itself
pub pattern_of_digits : (k R : ℕ) → 2 ^ 52 ≤ R → R ≤ 2 ^ 53 → k < 2045 → Units (of_bits binary64 (k * 2 ^ 52 + R)) false (R * 2 ^ k)
pattern_of_digits k R ge le h = elim (eq-or-lt_of_le le) [
  | inl e ↦ subst (λ n. Units (of_bits binary64 (k * 2 ^ 52 + R)) false n) (carried e) (pattern-value (k * 2 ^ 52 + R) (suc k) (next e) (omega arith))
  | inr l ↦ subst (λ n. Units (of_bits binary64 (k * 2 ^ 52 + R)) false (n * 2 ^ k)) (digits l) (pattern-value (k * 2 ^ 52 + R) k (field l) (omega arith))
]
  where
    field : R < 2 ^ 53 → (k * 2 ^ 52 + R) / 2 ^ 52 ≡ suc k
    field l = omega arith

    digits : R < 2 ^ 53 → 2 ^ 52 + (k * 2 ^ 52 + R) % 2 ^ 52 ≡ R
    digits l = omega arith

    next : R ≡ 2 ^ 53 → (k * 2 ^ 52 + R) / 2 ^ 52 ≡ suc (suc k)
    next e = omega arith

    carried : R ≡ 2 ^ 53 → (2 ^ 52 + (k * 2 ^ 52 + R) % 2 ^ 52) * 2 ^ suc k ≡ R * 2 ^ k
    carried e = ap (λ t. t * 2 ^ suc k) (rest e) ∙ ap (λ t. 2 ^ 52 * t) (pow-succ' 2 k) ∙ join e (2 ^ k)
      where
        rest : R ≡ 2 ^ 53 → 2 ^ 52 + (k * 2 ^ 52 + R) % 2 ^ 52 ≡ 2 ^ 52
        rest e = omega arith

        join : R ≡ 2 ^ 53 → (b : ℕ) → 2 ^ 52 * (2 * b) ≡ R * b
        join e b = omega (arith, ap (λ t. t * b) e)

-- ---- from a float to its pattern
pub pattern : (x : Float) → T (finite x) → sign x ≡ false → to_bits binary64 x ≡ (size (units_of x) - 53) * 2 ^ 52 + units_of x / 2 ^ (size (units_of x) - 53)
unfolding to_bits units_of
pattern nan f s = absurd f
pattern (inf r) f s = absurd f
pattern (fin true m e) f s = absurd (true≢false s)
pattern (fin false m e) f s = ap (λ k. k + m * up e * 2 ^ 1074 / down e / 2 ^ (size (m * up e * 2 ^ 1074 / down e) - 53)) (zero-add ((size (m * up e * 2 ^ 1074 / down e) - 53) * 2 ^ 52))

-- below 2 ^ j units the exponent's field is at most j - 52
pub pattern_below : (x : Float) (j : ℕ) → T (finite x) → sign x ≡ false → 53 ≤ j → units_of x < 2 ^ j → to_bits binary64 x < (j - 51) * 2 ^ 52
pattern_below x j f s J u = subst (λ b. b < (j - 51) * 2 ^ 52) (sym (pattern x f s)) (go (size (units_of x)) (units_of x / 2 ^ (size (units_of x) - 53)) (size-le (units_of x) j u) (kept-lt 53 (units_of x)))
  where
    go : (z w : ℕ) → z ≤ j → w < 2 ^ 53 → (z - 53) * 2 ^ 52 + w < (j - 51) * 2 ^ 52
    go z w h k = omega arith

pub pattern_lt : (x : Float) → T (fits binary64 x) → T (finite x) → sign x ≡ false → to_bits binary64 x < 2047 * 2 ^ 52
pattern_lt x t f s = pattern_below x 2098 f s (lit≤ tt) (let o = form x t f in subst (λ u. u < 2 ^ 2098) (sym o.is) (lt_of_lt_of_le o.top (lit≤ tt)))

-- its units, by the fields
pub normal_units : (x : Float) (k : ℕ) → T (fits binary64 x) → to_bits binary64 x / 2 ^ 52 ≡ suc k → k < 2046 → Units x false ((2 ^ 52 + to_bits binary64 x % 2 ^ 52) * 2 ^ k)
normal_units x k t e h = subst (λ y. Units y false ((2 ^ 52 + to_bits binary64 x % 2 ^ 52) * 2 ^ k)) (of_bits-to_bits binary64 x t) (pattern-value (to_bits binary64 x) k e h)

pub subnormal_units : (x : Float) → T (fits binary64 x) → to_bits binary64 x / 2 ^ 52 ≡ 0 → Units x false (to_bits binary64 x % 2 ^ 52 * 2 ^ 0)
subnormal_units x t e = subst (λ y. Units y false (to_bits binary64 x % 2 ^ 52 * 2 ^ 0)) (sym (opened (to_bits binary64 x) 0 (small (to_bits binary64 x) e) e) ∙ of_bits-to_bits binary64 x t) (no_field (to_bits binary64 x % 2 ^ 52))
  where
    small : (b : ℕ) → b / 2 ^ 52 ≡ 0 → b < 2 ^ 63
    small b e = omega arith

-- what is above 0 has units
pub units_above_zero : (x : Float) (n : ℕ) → lt (fin false 0 (pos 0)) x ≡ true → Units x false n → 0 < n
units_above_zero x n p v = ltb→lt 0 n (subst T (sym p ∙ lt-units (fin false 0 (pos 0)) x 0 n (refl, refl) v) tt)
