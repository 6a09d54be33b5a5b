use mathlib.Core.Path.{ap}
use lib.Dec.{leb}
use Rattle.grid.specs.Arcsine.{at_most}
use Rattle.inverse_trigonometry.proofs.bisection.AtMostGoal.holds.Goals as goal

pub returns : goal.returns
unfolding at_most
returns c = ap (λ s. leb s c.args.self.x) c.sine_at.ensures.0
