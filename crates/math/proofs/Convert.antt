-- The constant 180 / π as the compiler has it is the rounded quotient of its definition.
use Rattle.std.proofs.Common.{◌≡◌, refl, ap}
use lib.Ieee.{Float, binary64, div, of_bits, round}
use Rattle.math.specs.Convert.{degrees_per_radian, to_radians}

-- 57.29577951308232
pub constant : of_bits binary64 0x404c_a5dc_1a63_c1f8 ≡ degrees_per_radian
unfolding degrees_per_radian of_bits div round
constant = refl

pub radians : (x : Float) → div binary64 x (of_bits binary64 0x404c_a5dc_1a63_c1f8) ≡ to_radians x
unfolding to_radians
radians x = ap (div binary64 x) constant
