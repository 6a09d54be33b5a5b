-- A product with 1 and a quotient by 1 are the float itself, whichever float it is: a NaN, an infinity and a zero of either sign too.
use mathlib.Core.Path.{◌≡◌, refl, ap}
use mathlib.Core.Bool.{Bool, false}
use Prim.Native.Nat.{ℕ, ◌*◌}
use native.Mathlib.Nat.{one-mul, mul-one}
use lib.IntN.{ℤ}
use lib.Dec.{T}
use lib.Ieee.{Float, nan, inf, fin, binary64, fits, up, down, of_bits, round, mul, div, unlike}
use lib.Ieee.Fits.{down_pos}
use Rattle.laws.specs.Ops.{◌⊗◌, ◌⊘◌}
use Rattle.laws.proofs.Exact.{unlike_false, round_own}

abbrev pub one : Float
one = of_bits binary64 0x3ff0_0000_0000_0000

-- the fraction that either is, rounded
own : (s : Bool) (m : ℕ) (e : ℤ) {a c : ℕ} → T (fits binary64 (fin s m e)) → a ≡ m * up e → c ≡ down e → round binary64 (unlike s false) a c ≡ fin s m e
own s m e {a} {c} t p q = rw p (rw q (rw (unlike_false s) (round_own (fin s m e) s (m * up e) (down e) t (down_pos e) (refl, refl))))

pub mul_one : (x : Float) → T (fits binary64 x) → x ⊗ one ≡ x
unfolding mul of_bits
mul_one nan t = refl
mul_one (inf s) t = ap inf (unlike_false s)
mul_one (fin s m e) t = own s m e t (mul-one (m * up e)) (mul-one (down e))

pub div_one : (x : Float) → T (fits binary64 x) → x ⊘ one ≡ x
unfolding div of_bits
div_one nan t = refl
div_one (inf s) t = ap inf (unlike_false s)
div_one (fin s m e) t = own s m e t (mul-one (m * up e)) (one-mul (down e))
