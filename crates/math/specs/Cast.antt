-- The guarded cast of math.rs to a usize.
use Rattle.std.specs.Prelude.{ℕ, cond, ◌&&◌, from_bits, Float}
use Rattle.std.specs.Float.{binary64}
use Rattle.std.specs.Float.Ieee.{le, to_unsigned}

-- 0 and 10 ^ 9
abbrev pub zero : Float
zero = from_bits binary64 0

abbrev pub billion : Float
billion = from_bits binary64 0x41cd_cd65_0000_0000

unfoldable pub to_usize : Float → ℕ
to_usize x = cond (le zero x && le x billion) (to_unsigned 64 x) 0
