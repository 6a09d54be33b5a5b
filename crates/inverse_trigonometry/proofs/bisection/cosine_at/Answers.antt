use Rattle.grid.specs.Grid.{cosine_step}
use native.Mathlib.Omega.{arith}
use Rattle.inverse_trigonometry.proofs.bisection.cosine_at.Goals as goal

pub returns : goal.returns
unfolding cosine_step
returns c = (c.cosine.ensures.0 (omega arith), c.cosine.ensures.2)
