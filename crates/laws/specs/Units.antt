-- A finite f64 as a sign and a whole number of units. The unit is the smallest positive f64, 2 ^
-- -1074, and every finite f64 is a multiple of it.
use Rattle.std.specs.Prelude.{Bool, false, ℕ, ◌*◌, ◌^◌, ◌/◌, Float}
use Rattle.std.specs.Float.{nan, inf, fin}
use Rattle.std.specs.Float.Ieee.{up, down}
use Rattle.std.specs.Float.Ieee.Exact.{HasValue}

-- x is finite, has the sign s (true: negative), and is n units in size
abbrev pub Units : Float → Bool → ℕ → Type 0
Units x s n = HasValue x s n (2 ^ 1074)

-- a NaN has no sign, and counts as positive here
abbrev pub sign : Float → Bool
sign nan = false
sign (inf s) = s
sign (fin s m e) = s

-- the size of a finite float, and 0 for the others
unfoldable pub units_of : Float → ℕ
units_of nan = 0
units_of (inf s) = 0
units_of (fin s m e) = m * up e * 2 ^ 1074 / down e
