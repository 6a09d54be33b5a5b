use Rattle.math.specs.Fold.{reciprocal}
use Rattle.math.proofs.angle.reciprocal.Goals as goal

pub returns : goal.returns
unfolding reciprocal
returns c = c.wrap360.ensures
