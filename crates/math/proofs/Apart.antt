-- A float with its sign clear by its pattern: fewer than 2 ^ 52 units are the pattern itself; any other has the leading digit, and its place is one less than the exponent's field.
use Rattle.std.proofs.Common.{◌≡◌, ℕ, suc, ◌+◌, ◌*◌, ◌-◌, ◌/◌, ◌%◌, ◌^◌, ◌<◌, ◌≤◌, true, false, sym, subst, ◌∙◌, arith, le_trans, lt_of_lt_of_le, mul-le-mul_right, pow_mono, pow-add, lt_irrefl}
use lib.Ieee.{Float, binary64, fits, to_bits}
use lib.Ieee.Scale.{finite}
use Rattle.laws.specs.Units.{sign, units_of}
use Rattle.laws.proofs.Bools.{holds}
use Rattle.laws.proofs.Numbers.{lt_by}
use Rattle.laws.proofs.Pattern.{pattern_lt, normal_units, subnormal_units}
use Rattle.laws.proofs.Units.{units_are}

pub subnormal : (b : ℕ) → b < 2 ^ 52 → (x : Float) → fits binary64 x ≡ true → b ≡ to_bits binary64 x → units_of x ≡ b * 1
subnormal b h x t e = go (to_bits binary64 x) e (λ k. units_are x false _ (subnormal_units x (holds t) k))
  where
    go : (p : ℕ) → b ≡ p → (p / 2 ^ 52 ≡ 0 → units_of x ≡ p % 2 ^ 52 * 2 ^ 0) → units_of x ≡ b * 1
    go p e f = omega (arith, f (omega arith))

pub normal : (b : ℕ) → 2 ^ 52 ≤ b → (x : Float) → fits binary64 x ≡ true → finite x ≡ true → sign x ≡ false → b ≡ to_bits binary64 x → units_of x ≡ (b % 2 ^ 52 + 2 ^ 52) * 2 ^ (b / 2 ^ 52 - 1)
normal b h x t f s e = go (to_bits binary64 x) e (pattern_lt x (holds t) (holds f) s) (λ k l g. units_are x false _ (normal_units x k (holds t) l g))
  where
    swap : (d a : ℕ) → (2 ^ 52 + d) * a ≡ (d + 2 ^ 52) * a
    swap d a = omega arith

    go : (p : ℕ) → b ≡ p → p < 2047 * 2 ^ 52 → ((k : ℕ) → p / 2 ^ 52 ≡ suc k → k < 2046 → units_of x ≡ (2 ^ 52 + p % 2 ^ 52) * 2 ^ k) → units_of x ≡ (b % 2 ^ 52 + 2 ^ 52) * 2 ^ (b / 2 ^ 52 - 1)
    go p e l g = rw e (g (p / 2 ^ 52 - 1) (omega arith) (omega arith) ∙ swap (p % 2 ^ 52) (2 ^ (p / 2 ^ 52 - 1)))

-- fewer than 2 ^ (52 + k) units have their place below k
pub place_below : (d p k : ℕ) → (0 < p → 2 ^ 52 ≤ d) → d * 2 ^ p < 2 ^ (52 + k) → 0 < k → p < k
place_below d p k l h c = lt_by (λ g. lt_irrefl (d * 2 ^ p) (lt_of_lt_of_le h (le_trans (pow_mono (wide g)) (subst (λ n. n ≤ d * 2 ^ p) (sym (pow-add 2 52 p)) (mul-le-mul_right (2 ^ p) (l (lt_of_lt_of_le c g)))))))
  where
    wide : k ≤ p → 52 + k ≤ 52 + p
    wide g = omega arith
