-- The grid of angles, in steps of 2 ^ -49 up to a quarter pi, and the sine and the cosine there in
-- units of 2 ^ -58 (docs/ELEMENTARY.md).
use Rattle.std.specs.Prelude.{ℕ, ◌*◌}
use Rattle.trigonometry.specs.Units.{one, sine_units, cosine_units}

-- a quarter pi in steps, cut
abbrev pub last_step : ℕ
last_step = 442139859501777

unfoldable pub sine_step : ℕ → ℕ
unfolding sine_units
sine_step A = sine_units one (512 * A)

unfoldable pub cosine_step : ℕ → ℕ
unfolding cosine_units
cosine_step A = cosine_units one (512 * A)
