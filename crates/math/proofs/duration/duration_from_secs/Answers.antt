use lib.Ieee.{of_bits}
use Rattle.laws.proofs.Bools.{holds}
use Rattle.math.proofs.duration.duration_from_secs.Goals as goal

pub from_secs_f64-d-requires : goal.from_secs_f64-d-requires
unfolding of_bits
from_secs_f64-d-requires c = (holds c.if-seconds.true, holds c.if-seconds-2.true)
