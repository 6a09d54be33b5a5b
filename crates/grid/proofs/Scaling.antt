-- What the code of the arcsine owes: the scale of the rest, by its leading zeros, and the three cases of the definition.
use mathlib.Core.Path.{◌≡◌, refl, sym, ap, ◌∙◌, subst}
use mathlib.Core.Bool.{Bool, true, false, cond}
use mathlib.Core.Logic.{◌⊎◌, inl, inr}
use Prim.Native.Nat.{ℕ, zero, suc, ◌+◌, ◌*◌, ◌-◌, ◌^◌, ◌/◌, ◌%◌, ◌≤◌, ◌<◌}
use native.Mathlib.Nat.{le_trans, lt_of_lt_of_le, lt_of_le_of_lt, div-le_self, pow-succ', mul-le-mul, mul-le-mul_left, mul-le-mul_right, mul-lt-mul_of_pos_right, mul-pos}
use native.Mathlib.Omega.{arith}
use lib.Arith.{lt→nleb, le→nltb}
use lib.Dec.{leb, ltb, le→leb, lt→ltb, lit<}
use lib.Pow.{pow-add, pow_mono, pow_pos}
use lib.Ieee.Bits.{is_true, is_false}
use Rattle.std.specs.Int.Count.{count_leading_zeros}
use Rattle.std.proofs.lemmas.Nat.{leading_le, leading_top}
use Rattle.trigonometry.specs.Taylor.{sine_divisors}
use Rattle.trigonometry.specs.Units.{horner, square, sine_units}
use Rattle.grid.specs.Grid.{last_step, sine_step}
use Rattle.grid.specs.Arcsine.{arcsine_steps, upper_steps, scale_from, scale, half_pi_steps, arcsine_units}
use Rattle.grid.proofs.Lower.{arcsine_found}
use Rattle.grid.proofs.Upper.{Scaled, scaled}
use Rattle.grid.proofs.Surrounding.{f_small}

-- ---- the scale by the leading zeros
-- f doubles m times, where that makes it large enough and one time less does not
doubled : (m n e f : ℕ) → m ≤ n → 2 ^ 54 ≤ e * (f * 2 ^ m * (f * 2 ^ m)) → (m ≡ 0) ⊎ (e * (f * 2 ^ m * (f * 2 ^ m)) < 2 ^ 56) → f * 2 ^ m ≡ scale_from n e f
unfolding scale_from
doubled zero zero e f h a b = omega arith
doubled zero (suc n) e f h a b = rw (is_true (leb (2 ^ 54) (e * (f * f))) (le→leb (2 ^ 54) (e * (f * f)) (omega (arith, a)))) (omega arith)
doubled (suc m) zero e f h a b = omega arith
doubled (suc m) (suc n) e f h a (inl q) = omega arith
doubled (suc m) (suc n) e f h a (inr q) = rw (is_false (leb (2 ^ 54) (e * (f * f))) (lt→nleb (2 ^ 54) (e * (f * f)) (few (2 ^ m) (pow_pos m) (subst (λ t. e * (t * t) < 2 ^ 56) step q)))) (step ∙ doubled m n e (2 * f) (omega arith) (subst (λ t. 2 ^ 54 ≤ e * (t * t)) step a) (inr (subst (λ t. e * (t * t) < 2 ^ 56) step q)))
  where
    step : f * 2 ^ suc m ≡ 2 * f * 2 ^ m
    step = ap (λ t. f * t) (pow-succ' 2 m) ∙ over (2 ^ m)
      where
        over : (p : ℕ) → f * (2 * p) ≡ 2 * f * p
        over p = omega arith

    few : (p : ℕ) → 0 < p → e * (2 * f * p * (2 * f * p)) < 2 ^ 56 → e * (f * f) < 2 ^ 54
    few p h q = omega (arith, mul-le-mul_left (e * (f * f)) (mul-le-mul h h))

scale_by_digits : (e : ℕ) → 0 < e → e ≤ 2 ^ 58 → 2 ^ ((count_leading_zeros 64 e - 8) / 2) ≡ scale e
unfolding scale
scale_by_digits e h k = go (count_leading_zeros 64 e) (leading_top 64 e h (lt_of_le_of_lt k (lit< tt)))
  where
    -- e has j + 1 digits
    at : (j p : ℕ) → 2 ^ j ≤ e → e < 2 ^ suc j → p ≤ 27 → 54 ≤ j + (p + p) → (p ≡ 0) ⊎ (j + (p + p) ≤ 55) → 2 ^ p ≡ scale_from 27 e 1
    at j p a b l m t = sym (one (2 ^ p)) ∙ doubled p 27 e 1 l (subst (λ t. 2 ^ 54 ≤ e * (t * t)) (sym (one (2 ^ p))) large) (least t)
      where
        one : (q : ℕ) → 1 * q ≡ q
        one q = omega arith

        power : (i : ℕ) → 2 ^ i * (2 ^ p * 2 ^ p) ≡ 2 ^ (i + (p + p))
        power i = ap (λ t. 2 ^ i * t) (sym (pow-add 2 p p)) ∙ sym (pow-add 2 i (p + p))

        large : 2 ^ 54 ≤ e * (2 ^ p * 2 ^ p)
        large = le_trans (pow_mono m) (subst (λ t. t ≤ e * (2 ^ p * 2 ^ p)) (power j) (mul-le-mul_right (2 ^ p * 2 ^ p) a))

        below : e * (2 ^ p * 2 ^ p) < 2 ^ (suc j + (p + p))
        below = subst (λ t. e * (2 ^ p * 2 ^ p) < t) (power (suc j)) (mul-lt-mul_of_pos_right b (mul-pos (pow_pos p) (pow_pos p)))

        least : (p ≡ 0) ⊎ (j + (p + p) ≤ 55) → (p ≡ 0) ⊎ (e * (1 * 2 ^ p * (1 * 2 ^ p)) < 2 ^ 56)
        least (inl q) = inl q
        least (inr q) = inr (subst (λ t. e * (t * t) < 2 ^ 56) (sym (one (2 ^ p))) (lt_of_lt_of_le below (pow_mono {j = 56} (omega (arith, q)))))

    go : (z : ℕ) → ((j : ℕ) × (z + suc j ≡ 64) × (2 ^ j ≤ e) × (e < 2 ^ suc j)) → 2 ^ ((z - 8) / 2) ≡ scale_from 27 e 1
    go z (j, s, a, b) = at j ((z - 8) / 2) a b (omega (arith, s)) (omega (arith, s)) (side ((z - 8) / 2) refl)
      where
        side : (p : ℕ) → p ≡ (z - 8) / 2 → (p ≡ 0) ⊎ (j + (p + p) ≤ 55)
        side zero e = inl refl
        side (suc p) e = inr (omega (arith, e, s))

-- the same as the code's shift has it
pub scale_shifted : (e z : ℕ) → 0 < e → e ≤ 2 ^ 58 → z ≡ count_leading_zeros 64 e - 8 → 1 * 2 ^ (z / 2) % 2 ^ 64 ≡ scale e
scale_shifted e z h k s = held (2 ^ (z / 2)) (pow_mono {j = 32} (omega (arith, s, leading_le 64 e))) ∙ ap (λ t. 2 ^ (t / 2)) s ∙ scale_by_digits e h k
  where
    held : (q : ℕ) → q ≤ 2 ^ 32 → 1 * q % 2 ^ 64 ≡ q
    held q h = omega arith

-- ---- a scale makes the rest neither too small for the search nor too large for the code
pub record Fit (e f : ℕ) : Type 0 where
  pub positive : 0 < f
  pub small : f ≤ 2 ^ 28
  pub enough : 2 ^ 54 ≤ e * (f * f)
  pub most : e * (f * f) ≤ 2 ^ 58

pub fit : (e f : ℕ) → 0 < e → e ≤ 2 ^ 58 → f ≡ scale e → Fit e f
fit e f h k p = rw p (record { positive = s.positive; small = f_small e (scale e) h k s.tight; enough = s.enough; most = go (scale e) s.tight })
  where
    s : Scaled e (scale e)
    s = scaled e h

    go : (f : ℕ) → (f ≡ 1) ⊎ (e * (f * f) ≤ 2 ^ 56) → e * (f * f) ≤ 2 ^ 58
    go f (inl q) = rw q (omega arith)
    go f (inr q) = omega arith

-- ---- the rest, and the definition's three cases
pub rest_of : (e f b : ℕ) → f ≡ scale e → b ≡ upper_steps e f → 8 * b / f ≡ 8 * upper_steps e (scale e) / scale e
rest_of e f b p q = cc

pub rest-small : (b f : ℕ) → b ≤ last_step → 8 * b / f ≤ 8 * last_step
rest-small b f h = le_trans (div-le_self (8 * b) f) (omega arith)

last_sine : sine_step last_step ≡ 203809653520824534
unfolding sine_step sine_units square horner sine_divisors
last_sine = refl

pub low_case : (x A : ℕ) → x < 203809653520824534 → A ≡ arcsine_steps x → 8 * A ≡ arcsine_units x
unfolding arcsine_units
low_case x A h e = rw (last_sine, is_true (ltb x 203809653520824534) (lt→ltb x 203809653520824534 h)) (ap (λ t. 8 * t) e)

pub high_case : (x r : ℕ) → 203809653520824534 ≤ x → x < 2 ^ 58 → r ≡ 8 * upper_steps (2 ^ 58 - x) (scale (2 ^ 58 - x)) / scale (2 ^ 58 - x) → 8 * half_pi_steps - r ≡ arcsine_units x
unfolding arcsine_units
high_case x r h l e = rw (last_sine, is_false (ltb x 203809653520824534) (le→nltb x 203809653520824534 h), is_true (ltb x (2 ^ 58)) (lt→ltb x (2 ^ 58) l)) (ap (λ t. 8 * half_pi_steps - t) e)

pub top_case : (x : ℕ) → 203809653520824534 ≤ x → 2 ^ 58 ≤ x → 8 * half_pi_steps ≡ arcsine_units x
unfolding arcsine_units
top_case x h l = rw (last_sine, is_false (ltb x 203809653520824534) (le→nltb x 203809653520824534 h), is_false (ltb x (2 ^ 58)) (le→nltb x (2 ^ 58) l)) refl

-- no arcsine is above half pi
pub arcsine_most : (x : ℕ) → arcsine_units x ≤ 8 * half_pi_steps
unfolding arcsine_units
arcsine_most x = go (ltb x (sine_step last_step)) (ltb x (2 ^ 58)) (arcsine_steps x) (arcsine_found x).within (8 * upper_steps (2 ^ 58 - x) (scale (2 ^ 58 - x)) / scale (2 ^ 58 - x))
  where
    go : (u v : Bool) (A : ℕ) → A ≤ last_step → (q : ℕ) → cond u (8 * A) (cond v (8 * half_pi_steps - q) (8 * half_pi_steps)) ≤ 8 * half_pi_steps
    go true v A h q = omega arith
    go false true A h q = omega arith
    go false false A h q = omega arith
