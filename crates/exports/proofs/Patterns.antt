-- The bit pattern of a float, one and the same for every NaN: a NaN alone differs from itself.
use mathlib.Core.Path.{◌≡◌, refl, sym, ap}
use mathlib.Core.Bool.{Bool, true, false, cond, ◌&&◌}
use Prim.Native.Nat.{◌*◌}
use borrow.Author.Tests.{eq-eqb}
use lib.Ieee.{Float, nan, inf, fin, binary64, eq, to_bits, up, down}
use Rattle.exports.specs.Answers.{pattern}

pub one_pattern : (x : Float) → to_bits binary64 x ≡ pattern x
unfolding pattern eq to_bits
one_pattern nan = refl
one_pattern (inf true) = refl
one_pattern (inf false) = refl
one_pattern (fin true m e) = sym (ap (λ (b : Bool). cond (b && true) (to_bits binary64 (fin true m e)) 0x7ff8_0000_0000_0000) (eq-eqb (m * up e * down e) _ refl))
one_pattern (fin false m e) = sym (ap (λ (b : Bool). cond (b && true) (to_bits binary64 (fin false m e)) 0x7ff8_0000_0000_0000) (eq-eqb (m * up e * down e) _ refl))
