-- A time as numbers: its kind, and its seconds and nanoseconds, 0 where there is none.
use Rattle.std.specs.Prelude.{ℕ, Ok, Err}
use Rattle.std.specs.declared.result.Result.{Result}
use Rattle.math.specs.declared.duration.Duration.{Duration}
use Rattle.math.specs.declared.duration.TimeError.{TimeError}
use Rattle.math.specs.declared.duration.TimeError.TheVariants.{TooLong, NoTime}

abbrev pub kind_of : Result Duration TimeError → ℕ
kind_of (Ok d) = 0
kind_of (Err TooLong) = 1
kind_of (Err NoTime) = 2

abbrev pub secs_of : Result Duration TimeError → ℕ
secs_of (Ok d) = d.secs
secs_of (Err why) = 0

abbrev pub nanos_of : Result Duration TimeError → ℕ
nanos_of (Ok d) = d.nanos
nanos_of (Err why) = 0
