-- A quantity with three decimals, after document 01, 'Encounter sheet and its program': 'Three
-- decimals, nearest, ties to even.' The quantities that are printed are distances, magnitudes and
-- courses, all from 0 to some thousands.
use Rattle.std.specs.Prelude.{cond, ℕ, ◌*◌, Float}
use Rattle.std.specs.Float.{binary64}
use Rattle.std.specs.Float.Ieee.{lt, of_bits}
use Rattle.std.specs.Float.Ieee.Nearest.{closest}
use Rattle.std.specs.Float.Ieee.Positive.{num, den}

-- 0 and 2 ^ 53
abbrev pub none : Float
none = of_bits binary64 0

abbrev pub limit : Float
limit = of_bits binary64 0x4340_0000_0000_0000

-- x is the fraction num x / den x: in thousandths the nearest whole number, ties to even, exactly.
-- From 2 ^ 53 on it is 2 ^ 53 thousand. What is not above 0 has none: -0 prints as 0, and nothing
-- below 0 is printed.
unfoldable pub thousandths_of : Float → ℕ
thousandths_of x = cond (lt none x) (cond (lt x limit) (closest (num x * 1000) (den x)) 9007199254740992000) 0
