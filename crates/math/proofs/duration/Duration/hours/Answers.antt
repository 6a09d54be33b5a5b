use Rattle.std.proofs.Common.{pos, ap}
use lib.Ieee.{binary64, add, div, of_int}
use Rattle.math.specs.Clock.{hours_of, billion, seconds_per_hour}
use Rattle.math.proofs.duration.Duration.hours.Goals as goal

pub returns : goal.returns
unfolding hours_of
returns c = ap (λ s. div binary64 (add binary64 s (div binary64 (of_int binary64 (pos c.args.self.nanos)) billion)) seconds_per_hour) c.nearest_u64_to_f64-secs.ensures
