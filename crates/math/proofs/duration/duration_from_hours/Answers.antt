use Rattle.math.specs.Clock.{from_hours}
use Rattle.math.proofs.duration.duration_from_hours.Goals as goal

pub returns : goal.returns
unfolding from_hours
returns c = c.duration_from_secs.ensures
