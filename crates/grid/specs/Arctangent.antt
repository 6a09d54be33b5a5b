-- The arctangent in steps of 2 ^ -49 (docs/ELEMENTARY.md): in the first octant, for W at most U, the
-- greatest step A of the grid with U sin A ≤ W cos A in whole units; then placed in the half plane.
use Rattle.std.specs.Prelude.{Bool, true, false, ℕ, ◌+◌, ◌*◌, ◌-◌, ◌/◌, ◌^◌, leb}
use Rattle.grid.specs.Search.{greatest_to}
use Rattle.grid.specs.Grid.{last_step, sine_step, cosine_step}
use Rattle.grid.specs.Arcsine.{half_pi_steps}

unfoldable pub not_above : ℕ → ℕ → ℕ → Bool
not_above U W A = leb (U * sine_step A / 2 ^ 58) (W * cosine_step A / 2 ^ 58)

unfoldable pub arctangent_steps : ℕ → ℕ → ℕ
arctangent_steps U W = greatest_to 49 last_step (not_above U W)

-- `steep` where y is the larger, `left` where x is negative
unfoldable pub placed : Bool → Bool → ℕ → ℕ
placed false false A = A
placed true false A = half_pi_steps - A
placed false true A = 2 * half_pi_steps - A
placed true true A = half_pi_steps + A + 1
