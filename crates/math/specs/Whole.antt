-- Rounding to whole numbers: `trunc` towards zero, `round` with halves away from zero, `ceil`
-- upwards, each as Rust's f64 has it. A finite float `fin s m e` is a / c in size, with a = m * up
-- e and c = down e, and keeps its sign. The whole numbers here are floats themselves, so `round`
-- rounds nothing.
use Rattle.std.specs.Prelude.{ℕ, ◌+◌, ◌-◌, ◌*◌, ◌/◌, Bool, cond, Float}
use Rattle.std.specs.Float.{nan, inf, fin, binary64}
use Rattle.std.specs.Float.Ieee.{up, down, round, eq}

-- the whole number that `w` makes of the sign and the size
unfoldable pub whole : (Bool → ℕ → ℕ → ℕ) → Float → Float
whole w nan = nan
whole w (inf s) = inf s
whole w (fin s m e) = round binary64 s (w s (m * up e) (down e)) 1

unfoldable pub trunc : Float → Float
unfolding whole
trunc = whole (λ s a c. a / c)

unfoldable pub round_half_away : Float → Float
unfolding whole
round_half_away = whole (λ s a c. (2 * a + c) / (2 * c))

-- a negative one goes towards zero
unfoldable pub ceil : Float → Float
unfolding whole
ceil = whole (λ s a c. cond s (a / c) ((a + (c - 1)) / c))

-- whether x is a whole number (math.rs, operation by operation)
unfoldable pub is_integral : Float → Bool
unfolding trunc
is_integral x = eq x (trunc x)
