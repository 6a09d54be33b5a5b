-- The tests of math.rs, operation by operation.
use Rattle.std.specs.Prelude.{Bool, cond, from_bits, Float}
use Rattle.std.specs.Float.{binary64}
use Rattle.std.specs.Float.Ieee.{le, lt, mul}
use Rattle.math.specs.Sign.{abs}

-- 1e-12
abbrev pub relative_tolerance : Float
relative_tolerance = from_bits binary64 0x3d71_9799_812d_ea11

unfoldable pub is_effectively_zero : Float → Float → Bool
unfolding abs
is_effectively_zero value scale = le (abs value) (mul binary64 (abs scale) relative_tolerance)

-- the second if the first is below it, else the first
unfoldable pub larger : Float → Float → Float
larger a b = cond (lt a b) b a
