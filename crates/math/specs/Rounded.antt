-- The guarded cast of math.rs to an i32.
use Rattle.std.specs.Prelude.{cond, ◌||◌, ℤ, pos, from_bits, Float}
use Rattle.std.specs.Float.{binary64}
use Rattle.std.specs.Float.Ieee.{lt, to_signed}
use Rattle.math.specs.Whole.{round_half_away}

-- the ends of an i32 as floats: 2147483647 and -2147483648
abbrev pub i32_max : Float
i32_max = from_bits binary64 0x41df_ffff_ffc0_0000

abbrev pub i32_min : Float
i32_min = from_bits binary64 0xc1e0_0000_0000_0000

-- `as i32` of what is in range, which is 0 for a NaN
unfoldable pub round_to_i32 : Float → ℤ
unfolding round_half_away
round_to_i32 x = let r = round_half_away x in cond (lt i32_max r || lt r i32_min) (pos 0) (to_signed 31 r)
