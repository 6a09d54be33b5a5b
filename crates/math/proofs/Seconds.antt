-- What a number of nanoseconds is: the nearest whole number to the seconds times 10 ^ 9, ties to even.
use Rattle.std.proofs.Common.{◌*◌}
use lib.Ieee.{Float}
use lib.Ieee.Positive.{num, den, den_pos}
use Rattle.laws.specs.Rounding.{NearestWhole}
use Rattle.laws.proofs.Whole.{closest_is}
use Rattle.math.specs.Clock.{nanos_in}

pub nearest_nanosecond : (x : Float) → NearestWhole (num x * 1000000000) (den x) (nanos_in x)
unfolding nanos_in
nearest_nanosecond x = closest_is (num x * 1000000000) (den x) (den_pos x)
