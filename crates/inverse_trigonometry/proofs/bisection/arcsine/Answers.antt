use Rattle.grid.specs.Arcsine.{arcsine_steps}
use native.Mathlib.Omega.{arith}
use Rattle.grid.proofs.Scaling.{low_case, high_case, top_case}
use Rattle.inverse_trigonometry.proofs.bisection.arcsine.Goals as goal

pub returns-then-x-lt-SINE_OF_LAST : goal.returns-then-x-lt-SINE_OF_LAST
unfolding arcsine_steps
returns-then-x-lt-SINE_OF_LAST c = (low_case c.args.x c.search.result c.if-x-lt-SINE_OF_LAST.true c.search.ensures.0, omega (arith, c.search.ensures.1))

pub returns-then-x-lt-ONE : goal.returns-then-x-lt-ONE
returns-then-x-lt-ONE c = (high_case c.args.x c.rest.result c.if-x-lt-SINE_OF_LAST.false c.if-x-lt-ONE.true c.rest.ensures.0, omega arith)

pub returns : goal.returns
returns c = (top_case c.args.x c.if-x-lt-SINE_OF_LAST.false c.if-x-lt-ONE.false, omega arith)
