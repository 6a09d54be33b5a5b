use Rattle.grid.specs.Arcsine.{fits_in}
use Rattle.inverse_trigonometry.proofs.bisection.FitsInGoal.holds.Goals as goal

pub returns : goal.returns
unfolding fits_in
returns c = let r = c.rest_at.ensures.0 in let t = c.twice.ensures.0 in cc
