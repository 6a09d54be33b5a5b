-- Degrees and radians, as math.rs: `to_radians` divides by 180 / π, and `to_degrees` multiplies by
-- it. The division of the two constants is rounded once, as the Rust's is.
use Rattle.std.specs.Prelude.{from_bits, Float}
use Rattle.std.specs.Float.{binary64}
use Rattle.std.specs.Float.Ieee.{div, mul}

-- 180, and π as an f64: 3.141592653589793
abbrev pub half_turn : Float
half_turn = from_bits binary64 0x4066_8000_0000_0000

abbrev pub pi : Float
pi = from_bits binary64 0x4009_21fb_5444_2d18

unfoldable pub degrees_per_radian : Float
degrees_per_radian = div binary64 half_turn pi

unfoldable pub to_radians : Float → Float
to_radians degrees = div binary64 degrees degrees_per_radian

unfoldable pub to_degrees : Float → Float
to_degrees radians = mul binary64 radians degrees_per_radian
