-- A float above 0 and below 2 ^ 53 by its parts: digits * 2 ^ place units, so digits * 1000 / 2 ^ (1074 - place) thousandths. Below the place 1011 that is less than half a thousandth.
use mathlib.Core.Path.{◌≡◌, refl, sym, ap, ◌∙◌, subst}
use mathlib.Core.Bool.{true, false}
use Prim.Native.Nat.{ℕ, ◌+◌, ◌*◌, ◌-◌, ◌^◌, ◌≤◌, ◌<◌}
use native.Mathlib.Nat.{le_of_lt, mul-le-mul}
use native.Mathlib.Omega.{arith}
use lib.IntN.{pos}
use lib.Dec.{T, ltb→lt, lit<}
use lib.Pow.{pow-add, pow_pos, pow_mono}
use lib.Ieee.{Float, nan, inf, fin, binary64, fits, up, down, lt, to_bits}
use lib.Ieee.Nearest.{closest, closest_same}
use lib.Ieee.Bits.{is_true}
use lib.Ieee.Fits.{down_pos}
use lib.Ieee.Positive.{num, den}
use lib.Ieee.Scale.{finite}
use Rattle.laws.specs.Units.{Units, sign, units_of}
use Rattle.laws.proofs.Bools.{holds}
use Rattle.laws.proofs.Compare.{lt-units}
use Rattle.laws.proofs.Units.{own_units}
use Rattle.laws.proofs.Whole.{closest-zero}
use Rattle.math.specs.declared.Parts.{Parts}
use Rattle.math.proofs.Apart.{place_below}
use Rattle.text.specs.Thousandths.{thousandths_of}

-- in units of 2 ^ -1074
in-units : (x : Float) → T (fits binary64 x) → T (finite x) → closest (num x * 1000) (den x) ≡ closest (units_of x * 1000) (2 ^ 1074)
in-units nan t f = absurd f
in-units (inf s) t f = absurd f
in-units (fin s m e) t f = closest_same (m * up e * 1000) (down e) (units_of (fin s m e) * 1000) (2 ^ 1074) (down_pos e) (pow_pos 1074) (scale (m * up e) (down e) (units_of (fin s m e)) (2 ^ 1074) (own_units (fin s m e) t tt).1)
  where
    scale : (a d u L : ℕ) → a * L ≡ u * d → a * 1000 * L ≡ u * 1000 * d
    scale a d u L h = omega arith

module _ (x : Float) (t : T (fits binary64 x)) (p : lt (fin false 0 (pos 0)) x ≡ true) (q : lt x (fin false 1 (pos 53)) ≡ true) where
  positive : T (finite x) × (sign x ≡ false)
  positive = go x p q
    where
      go : (x : Float) → lt (fin false 0 (pos 0)) x ≡ true → lt x (fin false 1 (pos 53)) ≡ true → T (finite x) × (sign x ≡ false)
      go nan p q = absurd (unfold lt in holds p)
      go (inf true) p q = absurd (unfold lt in holds p)
      go (inf false) p q = absurd (unfold lt in holds q)
      go (fin true m e) p q = absurd (unfold lt in holds p)
      go (fin false m e) p q = (tt, refl)

  value : Units x false (units_of x)
  value = subst (λ s. Units x s (units_of x)) positive.1 (own_units x t positive.0)

  few : units_of x < 2 ^ 1127
  few = ltb→lt (units_of x) (2 ^ 1127) (subst T (sym q ∙ lt-units x (fin false 1 (pos 53)) (units_of x) (2 ^ 1127) value (refl, refl)) tt)

  thousandths : thousandths_of x ≡ closest (units_of x * 1000) (2 ^ 1074)
  unfolding thousandths_of lib.Ieee.of_bits
  thousandths = rw (p, q) (in-units x t positive.0)

  module _ (n : Parts) (g : (y : Float) → fits binary64 y ≡ true → finite y ≡ true → sign y ≡ false → to_bits binary64 x ≡ to_bits binary64 y → units_of y ≡ n.digits * 2 ^ n.place) where
    e : units_of x ≡ n.digits * 2 ^ n.place
    e = g x (is_true (fits binary64 x) t) (is_true (finite x) positive.0) positive.1 refl

    pub place_le : n.place < 1075
    place_le = place_below n.digits n.place 1075 n.leading (subst (λ u. u < 2 ^ 1127) e few) (lit< tt)

    pub too_small : n.place < 1011 → 0 ≡ thousandths_of x
    too_small h = sym (thousandths ∙ closest-zero (units_of x * 1000) (2 ^ 1074) (pow_pos 1074) (under (units_of x) (2 ^ 1010) (pow_pos 1010) (subst (λ u. u ≤ 2 ^ 53 * 2 ^ 1010) (sym e) (mul-le-mul (le_of_lt n.few) (pow_mono {i = n.place} {j = 1010} (omega arith))))))
      where
        under : (u a : ℕ) → 0 < a → u ≤ 2 ^ 53 * a → u * 1000 * 2 < 2 ^ 64 * a
        under u a k h = omega arith

    pub by_parts : (d r : ℕ) → d ≡ 2 ^ (1074 - n.place) → r ≡ closest (n.digits * 1000) d → r ≡ thousandths_of x
    by_parts d r a b =
        b ∙ ap (closest (n.digits * 1000)) a
        ∙ closest_same (n.digits * 1000) (2 ^ (1074 - n.place)) (n.digits * 2 ^ n.place * 1000) (2 ^ 1074) (pow_pos (1074 - n.place)) (pow_pos 1074) (scale n.digits (2 ^ 1074) (2 ^ n.place) (2 ^ (1074 - n.place)) (ap (λ i. 2 ^ i) (split n.place place_le) ∙ pow-add 2 n.place (1074 - n.place)))
        ∙ ap (λ z. closest (z * 1000) (2 ^ 1074)) (sym e) ∙ sym thousandths
      where
        split : (k : ℕ) → k < 1075 → 1074 ≡ k + (1074 - k)
        split k h = omega arith

        scale : (m L a b : ℕ) → L ≡ a * b → m * 1000 * L ≡ m * a * 1000 * b
        scale m L a b e = omega (arith, ap (λ z. m * z) e)
