-- Worked examples, computed: the sine of 1 is 0.8414709848078965, and the cosine of 16 is -0.9576594803233847.
use Rattle.std.proofs.Common.{◌≡◌, refl}
use lib.Ieee.{binary64, of_bits, to_bits, lt, le, round}
use Rattle.trigonometry.specs.Taylor.{sine_divisors, cosine_divisors}
use Rattle.trigonometry.specs.Angle.{distance, quarters, even, negative}
use Rattle.trigonometry.specs.Units.{horner, square, sine_units, cosine_units, removed, rest}
use Rattle.trigonometry.specs.Sine.{sin, cos}

sine_of-one : to_bits binary64 (sin (of_bits binary64 0x3ff0_0000_0000_0000)) ≡ 0x3fea_ed54_8f09_0cee
unfolding sin of_bits to_bits lt le round distance quarters even negative horner square sine_units cosine_units removed rest sine_divisors cosine_divisors
sine_of-one = refl

cosine_of_sixteen : to_bits binary64 (cos (of_bits binary64 0x4030_0000_0000_0000)) ≡ 0xbfee_a525_7e96_2f74
unfolding cos of_bits to_bits lt le round distance quarters even negative horner square sine_units cosine_units removed rest sine_divisors cosine_divisors
cosine_of_sixteen = refl
