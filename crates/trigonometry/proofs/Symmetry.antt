-- The sine is odd and the cosine is even, in every bit and for every float; the sine of 0 is 0, and the cosine of 0 is 1.
use Rattle.std.proofs.Common.{◌≡◌, ℕ, ◌+◌, ◌/◌, ◌^◌, Bool, true, false, cond, not, sym, refl, ap, ◌∙◌}
use lib.Ieee.{Float, nan, inf, fin, binary64, neg, lt, le, eq, round, unlike, of_bits}
use Rattle.laws.specs.Units.{units_of}
use Rattle.math.specs.Sign.{abs}
use Rattle.math.proofs.Sign.{neg-round}
use Rattle.trigonometry.specs.Taylor.{cosine_divisors}
use Rattle.trigonometry.specs.Angle.{distance, quarters, even, negative}
use Rattle.trigonometry.specs.Units.{horner, square, sine_units, cosine_units, rest, removed, turned_minus, turned_units}
use Rattle.trigonometry.specs.Sine.{tiny, in_domain, scaled, from_units, sin, cos}

not_unlike : (s t : Bool) → unlike (not s) t ≡ not (unlike s t)
not_unlike true true = refl
not_unlike true false = refl
not_unlike false true = refl
not_unlike false false = refl

pub sine_odd : (x : Float) → sin (neg x) ≡ neg (sin x)
unfolding sin neg abs in_domain le lt eq of_bits scaled units_of from_units
sine_odd nan = refl
sine_odd (inf true) = refl
sine_odd (inf false) = refl
sine_odd (fin s m e) = go (lt (fin false m e) tiny) (in_domain (fin s m e)) (turned_minus 0 (scaled (fin s m e))) (turned_units 0 (scaled (fin s m e)))
  where
    go : (b c t : Bool) (v : ℕ) → cond b (fin (not s) m e) (cond c (from_units (unlike (not s) t) v) nan) ≡ neg (cond b (fin s m e) (cond c (from_units (unlike s t) v) nan))
    go true c t v = refl
    go false true t v = ap (λ b. round binary64 b ((v + 16) / 32) (2 ^ 53)) (not_unlike s t) ∙ sym (neg-round (unlike s t) ((v + 16) / 32) (2 ^ 53))
    go false false t v = refl

pub cosine_even : (x : Float) → cos (neg x) ≡ cos x
unfolding cos neg abs in_domain le lt eq of_bits scaled units_of
cosine_even nan = refl
cosine_even (inf true) = refl
cosine_even (inf false) = refl
cosine_even (fin s m e) = refl

-- 0 and -0
pub sine_of-zero : sin (of_bits binary64 0) ≡ of_bits binary64 0
unfolding sin of_bits lt
sine_of-zero = refl

pub sine_of_minus_zero : sin (of_bits binary64 0x8000_0000_0000_0000) ≡ of_bits binary64 0x8000_0000_0000_0000
unfolding sin of_bits lt
sine_of_minus_zero = refl

pub cosine_of-zero : cos (of_bits binary64 0) ≡ of_bits binary64 0x3ff0_0000_0000_0000
unfolding cos of_bits le lt eq round distance quarters even negative horner square sine_units cosine_units rest removed cosine_divisors
cosine_of-zero = refl

pub cosine_of_minus_zero : cos (of_bits binary64 0x8000_0000_0000_0000) ≡ of_bits binary64 0x3ff0_0000_0000_0000
unfolding cos of_bits le lt eq round distance quarters even negative horner square sine_units cosine_units rest removed cosine_divisors
cosine_of_minus_zero = refl
