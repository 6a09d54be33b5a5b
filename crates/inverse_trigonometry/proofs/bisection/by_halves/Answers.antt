use Prim.Native.Nat.{◌-◌, ◌<◌}
use mathlib.Core.Path.{refl}
use native.Mathlib.Omega.{arith}
use Rattle.grid.proofs.Searching.{halved, turned}
use Rattle.grid.specs.Search.{up_to}
use Rattle.grid.specs.Grid.{last_step}
use Rattle.inverse_trigonometry.proofs.BisectionCode.{begins, kept, passed_over}
use Rattle.inverse_trigonometry.proofs.bisection.by_halves.Goals as goal
use Rattle.inverse_trigonometry.proofs.bisection.by_halves.Goals.{then-passes, else-passes}

pub loop-init : goal.loop-init
loop-init g c = record { power = refl; few = omega arith; same = begins (g.G.Goal.test c.args.goal) }

pub loop-preserved : goal.loop-preserved
loop-preserved g c = let i = c.loop.invariant in let h : c.loop.counter < 49 = omega arith in let p = halved 49 c.loop.counter c.loop.half h i.power in
    elim c.if-passes.branch [
      | then-passes w ↦ rw w.low-is (record { power = p; few = omega arith; same = kept (up_to last_step (g.G.Goal.test c.args.goal)) c.loop.counter c.loop.low c.loop.half _ _ h i.power i.same c.passes.ensures w.if-passes.true })
      | else-passes w ↦ rw w.low-is (record { power = p; few = omega arith; same = passed_over (up_to last_step (g.G.Goal.test c.args.goal)) c.loop.counter c.loop.low c.loop.half _ _ h i.power i.same c.passes.ensures w.if-passes.false })
    ]

pub returns : goal.returns
returns g c = turned (49 - c.loop.counter) (up_to last_step (g.G.Goal.test c.args.goal)) c.loop.low _ (omega arith) c.loop.invariant.same
