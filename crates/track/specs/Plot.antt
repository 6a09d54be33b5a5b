-- The checks of a plot, and what is kept of it (document 02, R-5: 'Offsets are limited to 10,000 nm
-- either way, else number 3, and times to 2^31 − 1 seconds … 18, in place of 6, a plot with a time
-- below 0, above that limit or not later than the newest, checked after its offsets').
use Rattle.std.specs.Prelude.{Bool, true, ◌&&◌, ℤ, pos, int_lt, int_le, unsigned_abs, List, [], ◌∷◌, Float, None, Some}
use Rattle.std.specs.Float.Ieee.{neg}
use Rattle.std.specs.declared.option.Option.{Option}
use Rattle.elementary.specs.declared.error.Refusal.TheVariants as Why
use Rattle.elementary.specs.Range.{in_range}
use Rattle.motion.specs.Check.{Check, check, farthest}
use Rattle.track.specs.declared.window.Fix.{Fix}
use Rattle.track.specs.declared.window.Plot.{Plot}
use Rattle.track.specs.Limits.{last_second}

unfoldable pub is_offset : Float → Bool
is_offset miles = in_range (neg farthest) farthest miles

abbrev pub is_later : Option Fix → ℤ → Bool
is_later None seconds = true
is_later (Some newest) seconds = int_lt (pos newest.seconds) seconds

unfoldable pub is_time : Option Fix → ℤ → Bool
is_time newest seconds = int_le (pos 0) seconds && int_le seconds (pos last_second) && is_later newest seconds

-- against the newest plot that is kept, if there is one
abbrev pub plot_checks : Option Fix → Plot → List Check
plot_checks newest p =
    check (is_offset p.offset.north) Why.Distance
    ∷ check (is_offset p.offset.east) Why.Distance
    ∷ check (is_time newest p.seconds) Why.PlotTime
    ∷ []

-- a time that is accepted is not below 0
abbrev pub fix_of : Plot → Fix
fix_of p = record { offset = p.offset; seconds = unsigned_abs p.seconds }
