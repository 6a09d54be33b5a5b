-- Worked examples, computed from the definitions: the arcsine of 1 / 2 and of 1 - 2 ^ -40 in units of
-- 2 ^ -52, and an arctangent in steps. A computation of the method apart from these definitions gives
-- the same figures, which are within 2 ^ -49 of the C library's arcsine and arctangent.
use mathlib.Core.Path.{◌≡◌, refl}
use Prim.Native.Nat.{◌-◌, ◌^◌}
use Rattle.trigonometry.specs.Taylor.{sine_divisors, cosine_divisors}
use Rattle.trigonometry.specs.Units.{horner, square, sine_units, cosine_units}
use Rattle.grid.specs.Search.{greatest, up_to, greatest_to}
use Rattle.grid.specs.Grid.{sine_step, cosine_step}
use Rattle.grid.specs.Arcsine.{at_most, arcsine_steps, rest, rest_step, fits_in, upper_steps, scale_from, scale, arcsine_units}
use Rattle.grid.specs.Arctangent.{not_above, arctangent_steps}

half : arcsine_units (2 ^ 57) ≡ 2358079250676144
unfolding arcsine_units arcsine_steps greatest_to greatest up_to at_most sine_step sine_units square horner sine_divisors upper_steps scale scale_from fits_in rest_step rest cosine_divisors
half = refl

near_one : arcsine_units (2 ^ 58 - 2 ^ 18) ≡ 7074231678027441
unfolding arcsine_units arcsine_steps greatest_to greatest up_to at_most sine_step sine_units square horner sine_divisors upper_steps scale scale_from fits_in rest_step rest cosine_divisors
near_one = refl

slanted : arctangent_steps 200000000000000000 123456789012345678 ≡ 311329023460525
unfolding arctangent_steps greatest_to greatest up_to not_above sine_step cosine_step sine_units cosine_units square horner sine_divisors cosine_divisors
slanted = refl
