-- The square root of what is at most 4 ^ k, and not negative, is at most 2 ^ k.
use mathlib.Core.Path.{◌≡◌, refl, sym, ap, ◌∙◌, subst}
use mathlib.Core.Bool.{Bool, true, false, true≢false}
use Prim.Native.Nat.{ℕ, zero, suc, ◌+◌, ◌*◌, ◌^◌, ◌/◌, ◌≤◌, ◌<◌}
use native.Mathlib.Nat.{le_trans, le_of_eq, mul-one, mul-le-mul, mul-le-mul_right, zero-mul, zero-div}
use native.Mathlib.Omega.{arith}
use lib.IntN.{ℤ, pos}
use lib.Dec.{T, ltb, lt→ltb, lit≤}
use lib.Ieee.{Float, nan, inf, fin, up, down, binary64, fits, lt, of_bits}
use lib.Ieee.Bits.{is_true}
use Rattle.laws.specs.Size.{Small}
use Rattle.laws.specs.Units.{units_of}
use Rattle.laws.proofs.Compare.{lt-units-signed}
use Rattle.laws.proofs.Numbers.{le_by}
use Rattle.laws.proofs.Units.{own_units, units-pos}
use Rattle.roots.specs.Sqrt.{sqrt, IsSqrt}
use Rattle.roots.proofs.NearestSqrt.{sqrt_is}

-- for an x of at most 2 ^ 24 the root is at most 2 ^ 12
bound : Float
bound = fin false 1 (pos 12)

bound_units : units_of bound ≡ 2 ^ 12 * 2 ^ 1074
bound_units = unfold bound units_of in refl

none : (t : Bool) (e : ℤ) → units_of (fin t zero e) ≡ 0
unfolding units_of
none t e = ap (λ n. n * 2 ^ 1074 / down e) (zero-mul (up e)) ∙ ap (λ n. n / down e) (zero-mul (2 ^ 1074)) ∙ zero-div (down e)

root_most : (n r L : ℕ) → n * 1 ≤ 2 ^ 24 * L → (2 ^ 12 * L < r → (r + 2 ^ 12 * L) * (r + 2 ^ 12 * L) < 4 * (n * L)) → r ≤ 2 ^ 12 * L
root_most n r L h f = le_by (λ l. clash (f l) l)
  where
    clash : (r + 2 ^ 12 * L) * (r + 2 ^ 12 * L) < 4 * (n * L) → 2 ^ 12 * L < r → ⊥
    clash k l = never (r + 2 ^ 12 * L) (twice l) k
      where
        twice : 2 ^ 12 * L < r → 2 ^ 13 * L ≤ r + 2 ^ 12 * L
        twice l = omega arith

        never : (s : ℕ) → 2 ^ 13 * L ≤ s → s * s < 4 * (n * L) → ⊥
        never s a b = last (mul-le-mul a a) (product L h)
          where
            product : (L : ℕ) → n * 1 ≤ 2 ^ 24 * L → 4 * (n * L) ≤ 2 ^ 26 * (L * L)
            product L h = omega (arith, mul-le-mul_right L h)

            last : 2 ^ 13 * L * (2 ^ 13 * L) ≤ s * s → 4 * (n * L) ≤ 2 ^ 26 * (L * L) → ⊥
            last i j = omega (arith, b)

-- what is below 0 is so by its sign
negative : (m : ℕ) (e : ℤ) → T (fits binary64 (fin true (suc m) e)) → lt (fin true (suc m) e) (of_bits binary64 0) ≡ true
negative m e t = lt-units-signed (fin true (suc m) e) (of_bits binary64 0) true false (units_of (fin true (suc m) e)) 0 (own_units (fin true (suc m) e) t tt) (unfold of_bits in (refl, refl)) ∙ is_true (ltb 0 (units_of (fin true (suc m) e) + 0)) (lt→ltb 0 (units_of (fin true (suc m) e) + 0) (more (units_of (fin true (suc m) e)) (units-pos true m e t)))
  where
    more : (n : ℕ) → 0 < n → 0 < n + 0
    more n h = omega arith

pub sqrt-small : (x : Float) → lt x (of_bits binary64 0) ≡ false → Small 24 0 x → Small 12 0 (sqrt x)
sqrt-small x s a = go x s a (sqrt_is x a.held)
  where
    go : (x : Float) → lt x (of_bits binary64 0) ≡ false → Small 24 0 x → IsSqrt x (sqrt x) → Small 12 0 (sqrt x)
    go nan s a w = absurd a.number
    go (inf t) s a w = absurd a.number
    go (fin t zero e) s a w = subst (Small 12 0) (sym w) (record { held = a.held; number = tt; most = subst (λ n. n * 2 ^ 0 ≤ 2 ^ 12 * 2 ^ 1074) (sym (none t e)) (lit≤ tt) })
    go (fin true (suc m) e) s a w = absurd (true≢false (sym (negative m e a.held) ∙ s))
    go (fin false (suc m) e) s a w = record { held = w.held; number = w.number; most = le_trans (le_of_eq (mul-one (units_of (sqrt (fin false (suc m) e))))) (root_most (units_of (fin false (suc m) e)) (units_of (sqrt (fin false (suc m) e))) (2 ^ 1074) a.most (λ l. subst (λ b. (units_of (sqrt (fin false (suc m) e)) + b) * (units_of (sqrt (fin false (suc m) e)) + b) < 4 * (units_of (fin false (suc m) e) * 2 ^ 1074)) bound_units (w.below bound (unfold bound fits in tt) (unfold bound in tt) (subst (λ b. b < units_of (sqrt (fin false (suc m) e))) (sym bound_units) l)))) }
