use Rattle.grid.specs.Grid.{sine_step}
use native.Mathlib.Omega.{arith}
use Rattle.inverse_trigonometry.proofs.bisection.sine_at.Goals as goal

pub returns : goal.returns
unfolding sine_step
returns c = (c.sine.ensures.0 (omega arith), c.sine.ensures.2)
