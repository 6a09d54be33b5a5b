use Rattle.grid.specs.Grid.{last_step}
use native.Mathlib.Omega.{arith}
use Rattle.inverse_trigonometry.proofs.BisectionCode.{at_last, passes_last}
use Rattle.inverse_trigonometry.proofs.bisection.search.Goals as goal

pub returns-then-passes : goal.returns-then-passes
returns-then-passes g c = (g.met.G.Goal.only c.args.goal c.requires last_step (at_last (g.G.Goal.test c.args.goal) (passes_last (g.G.Goal.test c.args.goal) _ c.passes.ensures c.if-passes.true)), omega arith)
