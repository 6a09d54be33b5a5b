-- Signs are the library's; a rounded fraction changes its sign with the fraction.
use Rattle.std.proofs.Common.{◌≡◌, ℕ, zero, suc, ◌*◌, ◌^◌, ◌≤◌, Bool, true, false, cond, not, T, ltb, pos, sym, refl, ap, ◌∙◌, subst}
use lib.Ieee.{Float, nan, inf, fin, binary64, fits, is_nan, neg, eq, lt, le, round, units, odd, ne}
use Rattle.std.specs.Float.{float_is_finite, float_with_sign, is_sign_negative}
use lib.Ieee.Compare.{differs_from_itself}
use lib.Ieee.Fits.{round_is}
use lib.Ieee.Scale.{finite}
use Rattle.laws.specs.Units.{Units, units_of}
use Rattle.laws.proofs.Bools.{holds, le_of_test}
use Rattle.laws.proofs.Compare.{le-units}
use Rattle.laws.proofs.Units.{own_units}
use Rattle.math.specs.Sign.{sign, abs, copysign}

-- ---- the library's methods
pub abs_is : (x : Float) → float_with_sign false x ≡ abs x
unfolding abs float_with_sign
abs_is nan = refl
abs_is (inf s) = refl
abs_is (fin s m e) = refl

pub finite_is : (x : Float) → float_is_finite x ≡ finite x
unfolding float_is_finite
finite_is nan = refl
finite_is (inf s) = refl
finite_is (fin s m e) = refl

signed : (s : Bool) (m : Float) → float_with_sign s m ≡ cond s (neg (abs m)) (abs m)
unfolding abs neg float_with_sign
signed true nan = refl
signed true (inf s) = refl
signed true (fin s m e) = refl
signed false nan = refl
signed false (inf s) = refl
signed false (fin s m e) = refl

pub copysign_is : (m x : Float) → float_with_sign (is_sign_negative x) m ≡ copysign m x
unfolding copysign is_sign_negative
copysign_is m nan = signed false m
copysign_is m (inf s) = signed s m
copysign_is m (fin s n e) = signed s m

pub copysign_of_nan : (m x : Float) → is_nan x ≡ true → abs m ≡ copysign m x
unfolding is_nan copysign
copysign_of_nan m nan h = refl
copysign_of_nan m (inf s) h = absurd (holds h)
copysign_of_nan m (fin s n e) h = absurd (holds h)

-- ---- NaN
pub nan_of_eq : (x : Float) → eq x x ≡ false → x ≡ nan
nan_of_eq x e = differs_from_itself x (unfold ne in subst (λ b. T (not b)) (sym e) tt)

-- ---- `abs`
pub abs-fits : (x : Float) → T (fits binary64 x) → T (fits binary64 (abs x))
unfolding abs fits
abs-fits nan t = tt
abs-fits (inf s) t = tt
abs-fits (fin s zero e) t = t
abs-fits (fin s (suc m) e) t = t

pub abs-units : (x : Float) (s : Bool) (n : ℕ) → Units x s n → Units (abs x) false n
unfolding abs
abs-units nan s n v = absurd v
abs-units (inf t) s n v = absurd v
abs-units (fin t m e) s n v = (refl, v.1)

abs_own : (x : Float) → T (fits binary64 x) → T (finite x) → Units (abs x) false (units_of x)
abs_own x t f = abs-units x (sign x) (units_of x) (own_units x t f)

pub units_of-abs : (x : Float) → units_of (abs x) ≡ units_of x
unfolding abs units_of
units_of-abs nan = refl
units_of-abs (inf s) = refl
units_of-abs (fin s m e) = refl

-- |x| ≤ y: x is finite, and no larger
pub at_most_size : (x y : Float) (b : ℕ) → T (fits binary64 x) → Units y false b → T (le (abs x) y) → T (finite x) × (units_of x ≤ b)
unfolding abs
at_most_size nan y b t v h = absurd (unfold le lt eq in h)
at_most_size (inf s) nan b t v h = absurd v
at_most_size (inf s) (inf r) b t v h = absurd v
at_most_size (inf s) (fin r n d) b t v h = absurd (unfold le lt eq in h)
at_most_size (fin s m e) y b t v h = (tt, le_of_test (units_of (fin s m e)) b (subst T (le-units (fin false m e) y (units_of (fin s m e)) b (abs_own (fin s m e) t tt) v) h))

-- ---- a rounded fraction with another sign
turn : (f : Float → Float) (g : Bool → Bool) → ((s : Bool) → f (inf s) ≡ inf (g s)) → ((s : Bool) (m : ℕ) (e : lib.IntN.ℤ) → f (fin s m e) ≡ fin (g s) m e) → (s : Bool) (a c : ℕ) → f (round binary64 s a c) ≡ round binary64 (g s) a c
turn f g p q s a c = ap f (round_is binary64 s a c) ∙ made _ _ ∙ sym (round_is binary64 (g s) a c)
  where
    digits : (n k : ℕ) → f (odd 54 s n k 1074) ≡ odd 54 (g s) n k 1074
    digits zero k = unfold odd in q s 0 (pos 0)
    digits (suc n) k = unfold odd in q s _ _

    made : (n k : ℕ) → f (units binary64 s n k) ≡ units binary64 (g s) n k
    made n k = unfold units in go (ltb (n * 2 ^ k) (2 ^ 2098))
      where
        go : (b : Bool) → f (cond b (odd 54 s n k 1074) (inf s)) ≡ cond b (odd 54 (g s) n k 1074) (inf (g s))
        go true = digits n k
        go false = p s

pub neg-round : (s : Bool) (a c : ℕ) → neg (round binary64 s a c) ≡ round binary64 (not s) a c
neg-round = turn neg not (λ s. unfold neg in refl) (λ s m e. unfold neg in refl)
