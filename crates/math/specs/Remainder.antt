-- What the remainder by 360 keeps on its way: numbers of the smallest f64, of which a full turn has
-- 360 * 2 ^ 1074.
use Rattle.std.specs.Prelude.{◌≡◌, false, ℕ, ◌+◌, ◌*◌, ◌^◌, ◌%◌, ◌<◌, T, Float}
use Rattle.std.specs.Float.{binary64}
use Rattle.std.specs.Float.Ieee.{fits, of_bits}
use Rattle.laws.specs.Units.{Units}

-- 0 and 360
abbrev pub zero : Float
zero = of_bits binary64 0

abbrev pub full_turn : Float
full_turn = of_bits binary64 0x4076_8000_0000_0000

abbrev pub full : ℕ
full = 360 * 2 ^ 1074

-- u units are left of n, a full turn having been taken away some number of times; the next to be
-- taken are 45 * 2 ^ (1076 + left) units, 2 ^ (left - 1) full turns
pub record Left (n : ℕ) (rest turn : Float) (left : ℕ) : Type 0 where
  pub u : ℕ
  pub held : T (fits binary64 rest)
  pub value : Units rest false u
  pub same : u % full ≡ n % full
  pub next : Units turn false (45 * 2 ^ (1076 + left))
  pub under : u < 90 * 2 ^ (1076 + left)

-- r is what is left of n units
pub record Rest (n : ℕ) (r : Float) : Type 0 where
  pub held : T (fits binary64 r)
  pub value : Units r false (n % full)
