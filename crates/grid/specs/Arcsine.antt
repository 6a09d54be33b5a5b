-- The arcsine of X units of 2 ^ -58, from 0 to one, in units of 2 ^ -52 (docs/ELEMENTARY.md).
--
-- Below the sine of a quarter pi it is the greatest step of the grid whose sine is at most X.
-- Above, the angle that is left to half pi, b steps over f, has 1 - cosine = E / 2 ^ 58; both sides
-- are scaled by 2 f², f a power of two with 2 ^ 54 ≤ E f², so that the test keeps its digits next
-- to one.
use Rattle.std.specs.Prelude.{Bool, cond, ℕ, zero, suc, ◌*◌, ◌-◌, ◌/◌, ◌^◌, leb, ltb}
use Rattle.trigonometry.specs.Taylor.{cosine_divisors}
use Rattle.trigonometry.specs.Units.{horner}
use Rattle.grid.specs.Search.{greatest_to}
use Rattle.grid.specs.Grid.{last_step, sine_step}

unfoldable pub at_most : ℕ → ℕ → Bool
at_most X A = leb (sine_step A) X

unfoldable pub arcsine_steps : ℕ → ℕ
arcsine_steps X = greatest_to 49 last_step (at_most X)

-- 2 * f ^ 2 * (1 - cos) at b steps over f
unfoldable pub rest : ℕ → ℕ → ℕ → ℕ
rest S f R = R * R / S * horner S (R * R / S / (f * f)) 1 cosine_divisors / S

unfoldable pub rest_step : ℕ → ℕ → ℕ
rest_step f b = rest (2 ^ 58) f (512 * b)

unfoldable pub fits_in : ℕ → ℕ → ℕ → Bool
fits_in E f b = leb (rest_step f b) (2 * (E * (f * f)))

unfoldable pub upper_steps : ℕ → ℕ → ℕ
upper_steps E f = greatest_to 49 last_step (fits_in E f)

-- the scale: f doubles until E * f ^ 2 is at least 2 ^ 54
unfoldable pub scale_from : ℕ → ℕ → ℕ → ℕ
scale_from zero E f = f
scale_from (suc k) E f = cond (leb (2 ^ 54) (E * (f * f))) f (scale_from k E (2 * f))

unfoldable pub scale : ℕ → ℕ
scale E = scale_from 27 E 1

-- half pi in steps of 2 ^ -49, without the fraction
abbrev pub half_pi_steps : ℕ
half_pi_steps = 884279719003555

unfoldable pub arcsine_units : ℕ → ℕ
arcsine_units X =
    cond (ltb X (sine_step last_step)) (8 * arcsine_steps X)
    (cond (ltb X (2 ^ 58)) (8 * half_pi_steps - 8 * upper_steps (2 ^ 58 - X) (scale (2 ^ 58 - X)) / scale (2 ^ 58 - X)) (8 * half_pi_steps))
