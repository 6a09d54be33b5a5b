-- Times, after document 01's paragraph on leaf helpers: 'hours to time: × 3600, nearest nanosecond,
-- ties to even. Seconds to time rounds likewise. Time to hours: the seconds plus nanoseconds /
-- 10^9, each as f64, then / 3600.'
use Rattle.std.specs.Prelude.{ℕ, ◌*◌, ◌/◌, ◌%◌, ◌^◌, Bool, cond, not, ◌&&◌, pos, ◌==◌, from_bits, nat_lt, Float, Err, Ok}
use Rattle.std.specs.Float.{binary64}
use Rattle.std.specs.Float.Ieee.{add, mul, div, lt, le, of_int}
use Rattle.std.specs.Float.Ieee.Nearest.{closest}
use Rattle.std.specs.Float.Ieee.Positive.{num, den}
use Rattle.math.specs.declared.duration.Duration.{Duration}
use Rattle.std.specs.declared.result.Result.{Result}
use Rattle.math.specs.declared.duration.TimeError.{TimeError}
use Rattle.math.specs.declared.duration.TimeError.TheVariants.{NoTime, TooLong}

-- n nanoseconds as a time
unfoldable pub clock : ℕ → Duration
clock n = record { secs = n / 1000000000; nanos = n % 1000000000 }

-- x is the fraction num x / den x of a second: in nanoseconds the nearest whole number, ties to
-- even, exactly
unfoldable pub nanos_in : Float → ℕ
nanos_in x = closest (num x * 1000000000) (den x)

-- 0, 2 ^ 64, 3600 and 10 ^ 9
abbrev pub zero : Float
zero = from_bits binary64 0

abbrev pub too_long : Float
too_long = from_bits binary64 0x43f0_0000_0000_0000

abbrev pub seconds_per_hour : Float
seconds_per_hour = from_bits binary64 0x40ac_2000_0000_0000

abbrev pub billion : Float
billion = from_bits binary64 0x41cd_cd65_0000_0000

unfoldable pub from_seconds : Float → Result Duration TimeError
unfolding clock nanos_in
from_seconds x = cond (le zero x) (cond (lt x too_long) (Ok (clock (nanos_in x))) (Err TooLong)) (Err NoTime)

unfoldable pub from_hours : Float → Result Duration TimeError
unfolding from_seconds
from_hours x = from_seconds (mul binary64 x seconds_per_hour)

unfoldable pub hours_of : Duration → Float
hours_of d = div binary64 (add binary64 (of_int binary64 (pos d.secs)) (div binary64 (of_int binary64 (pos d.nanos)) billion)) seconds_per_hour

-- shorter: by seconds, then by nanoseconds
unfoldable pub is_before : Duration → Duration → Bool
is_before a b = cond (a.secs == b.secs) (nat_lt a.nanos b.nanos) (nat_lt a.secs b.secs)

-- a time handed in (document 01, row 6 of the table of refusals): not above 2 ^ 53 s, and with
-- fewer than 10 ^ 9 nanoseconds
abbrev pub longest : Duration
longest = record { secs = 2 ^ 53; nanos = 0 }

unfoldable pub is_accepted : Duration → Bool
unfolding is_before
is_accepted d = not (is_before longest d) && nat_lt d.nanos 1000000000
