-- Eighths: k / 8, which is exact for every k below 2 ^ 53.
use Rattle.std.specs.Prelude.{ℕ, pos, Float}
use Rattle.std.specs.Float.{binary64}
use Rattle.std.specs.Float.Ieee.{of_int}
use Rattle.laws.specs.Ops.{◌⊘◌}

abbrev pub eighth : ℕ → Float
eighth k = of_int binary64 (pos k) ⊘ of_int binary64 (pos 8)
