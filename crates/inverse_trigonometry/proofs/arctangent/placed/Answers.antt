use Rattle.grid.specs.Arctangent.{placed}
use native.Mathlib.Omega.{arith}
use mathlib.Core.Path.{refl}
use Rattle.inverse_trigonometry.proofs.arctangent.placed.Goals as goal

pub returns-then-left : goal.returns-then-left
unfolding placed
returns-then-left c = (rw (c.if-steep.true, c.if-left.true) refl, omega arith)

pub returns-then-steep : goal.returns-then-steep
unfolding placed
returns-then-steep c = (rw (c.if-steep.true, c.if-left.false) refl, omega arith)

pub returns-then-left-2 : goal.returns-then-left-2
unfolding placed
returns-then-left-2 c = (rw (c.if-steep.false, c.if-left-2.true) refl, omega arith)

pub returns : goal.returns
unfolding placed
returns c = (rw (c.if-steep.false, c.if-left-2.false) refl, omega arith)
