-- The nearest multiple of half pi by a division of whole units.
--
-- Half pi is K units and F / w of one more, with K = 2 B + 1 and F / w between 0.648 and 0.65. For n units, with n + B = k K + t, the multiple k is nearest where 2 k F ≤ (2 t + 1) w + F, and up to k = 10 this is t ≥ 2 k / 3.
use Rattle.std.proofs.Common.{◌≡◌, ℕ, zero, suc, ◌+◌, ◌-◌, ◌*◌, ◌/◌, ◌%◌, ◌^◌, ◌<◌, ◌≤◌, ◌⊎◌, sym, refl, ap, ◌∙◌, subst, inl, inr, le_refl, mul-le-mul_right, eq-or-lt_of_le, mul-le-mul_left, arith, lit<, lit≤}
use Rattle.trigonometry.specs.Angle.{half_pi, whole, quarters}
use Rattle.trigonometry.specs.Units.{one}
use Rattle.trigonometry.proofs.Reduction.{quarters-between}

module _ (w K F B q n : ℕ) (eq : q ≡ w * K + F) (odd : K ≡ 2 * B + 1) (least : 81 * w ≤ 125 * F) (most : 20 * F ≤ 13 * w) where
  -- w n in terms of the quotient and the remainder
  opened : (k t : ℕ) → n + B ≡ k * K + t → w * n + w * B ≡ w * (k * K) + w * t
  opened k t e = omega (arith, ap (λ z. w * z) e)

  width : w * K ≡ 2 * (w * B) + w
  width = omega (arith, ap (λ z. w * z) odd)

  product : (k : ℕ) → k * q ≡ w * (k * K) + k * F
  product k = omega (arith, ap (λ z. k * z) eq)

  up_low : (k t : ℕ) → n + B ≡ k * K + t → 2 * k ≤ 3 * t + 2 → 2 * (k * q) ≤ 2 * (w * n) + q
  up_low k t e h = go (opened k t e) (product k) (mul-le-mul_left k most) (mul-le-mul_right w h)
    where
      go : w * n + w * B ≡ w * (k * K) + w * t → k * q ≡ w * (k * K) + k * F → k * (20 * F) ≤ k * (13 * w) → 2 * k * w ≤ (3 * t + 2) * w → 2 * (k * q) ≤ 2 * (w * n) + q
      go a b c d = omega (arith, width, eq)

  up_high : (k t : ℕ) → n + B ≡ k * K + t → t < K → 0 < w → 2 * (w * n) < 2 * (k * q) + q
  up_high k t e h p = go (opened k t e) (product k) (mul-le-mul_left w h)
    where
      go : w * n + w * B ≡ w * (k * K) + w * t → k * q ≡ w * (k * K) + k * F → w * suc t ≤ w * K → 2 * (w * n) < 2 * (k * q) + q
      go a b c = omega (arith, width, eq)

  down_low : (j t : ℕ) → n + B ≡ suc j * K + t → j ≤ 10 → 10 ≤ K → 2 * (j * q) ≤ 2 * (w * n) + q
  down_low j t e h p = go (opened (suc j) t e) (product j) (mul-le-mul_right F h) (mul-le-mul_left w p)
    where
      go : w * n + w * B ≡ w * (suc j * K) + w * t → j * q ≡ w * (j * K) + j * F → j * F ≤ 10 * F → w * 10 ≤ w * K → 2 * (j * q) ≤ 2 * (w * n) + q
      go a b c d = omega (arith, width, eq)

  down_high : (j t : ℕ) → n + B ≡ suc j * K + t → 125 * (2 * t + 1) < 81 * (2 * j + 1) → 0 < w → 2 * (w * n) < 2 * (j * q) + q
  down_high j t e h p = go (opened (suc j) t e) (product j) (mul-le-mul_right w h) (mul-le-mul_left (2 * j + 1) least)
    where
      go : w * n + w * B ≡ w * (suc j * K) + w * t → j * q ≡ w * (j * K) + j * F → suc (125 * (2 * t + 1)) * w ≤ 81 * (2 * j + 1) * w → (2 * j + 1) * (81 * w) ≤ (2 * j + 1) * (125 * F) → 2 * (w * n) < 2 * (j * q) + q
      go a b c d = omega (arith, width, eq)

-- the figures
abbrev B : ℕ
B = 226375608064910088

abbrev K : ℕ
K = 452751216129820177

abbrev F : ℕ
F = half_pi * one - whole * K

pub keeps : (n k t : ℕ) → n ≤ 2 ^ 62 → k ≡ (n + B) / K → t ≡ (n + B) % K → 2 * k / 3 ≤ t → (k ≡ quarters n one) × (k ≤ 10)
keeps n k t h ek et l = (sym (quarters-between n one k n n (lit< tt) (le_refl n) (le_refl n) (up_low whole K F B (half_pi * one) n refl refl (lit≤ tt) (lit≤ tt) k t split (third k t l)) (up_high whole K F B (half_pi * one) n refl refl (lit≤ tt) (lit≤ tt) k t split small (lit< tt))), few)
  where
    split : n + B ≡ k * K + t
    split = omega arith

    small : t < K
    small = omega arith

    few : k ≤ 10
    few = omega arith

    third : (k t : ℕ) → 2 * k / 3 ≤ t → 2 * k ≤ 3 * t + 2
    third k t l = omega arith

pub steps_back : (n k t : ℕ) → n ≤ 2 ^ 62 → k ≡ (n + B) / K → t ≡ (n + B) % K → t < 2 * k / 3 → (k - 1 ≡ quarters n one) × (k - 1 ≤ 10)
steps_back n zero t h ek et l = absurd (no t l)
  where
    no : (t : ℕ) → t < 2 * 0 / 3 → ⊥
    no t l = omega arith
steps_back n (suc j) t h ek et l = (at_pred j ∙ sym (quarters-between n one j n n (lit< tt) (le_refl n) (le_refl n) (down_low whole K F B (half_pi * one) n refl refl (lit≤ tt) (lit≤ tt) j t split (wide few) (lit≤ tt)) (down_high whole K F B (half_pi * one) n refl refl (lit≤ tt) (lit≤ tt) j t split (third j t few l) (lit< tt))), subst (λ i. i ≤ 10) (sym (at_pred j)) (wide few))
  where
    wide : {i : ℕ} → i ≤ 9 → i ≤ 10
    wide l = omega arith

    at_pred : (j : ℕ) → suc j - 1 ≡ j
    at_pred j = omega arith

    split : n + B ≡ suc j * K + t
    split = omega arith

    few : j ≤ 9
    few = omega arith

    third : (j t : ℕ) → j ≤ 9 → t < 2 * suc j / 3 → 125 * (2 * t + 1) < 81 * (2 * j + 1)
    third j t h l = go (eq-or-lt_of_le h)
      where
        below : 3 * t + 1 ≤ 2 * j
        below = omega arith

        at_nine : (t : ℕ) → 3 * t + 1 ≤ 18 → t ≤ 5
        at_nine t k = omega arith

        nine : j ≡ 9 → t ≤ 5 → 125 * (2 * t + 1) < 81 * (2 * j + 1)
        nine e k = omega arith

        go : (j ≡ 9) ⊎ (j < 9) → 125 * (2 * t + 1) < 81 * (2 * j + 1)
        go (inl e) = nine e (at_nine t (subst (λ i. 3 * t + 1 ≤ 2 * i) e below))
        go (inr k) = omega arith
