use mathlib.Core.Path.{refl}
use native.Mathlib.Nat.{le_of_lt}
use lib.Ieee.{of_bits}
use Rattle.inverse_trigonometry.proofs.Arctangents.{answer_finite, answer_no_x, answer_no_y}
use Rattle.inverse_trigonometry.proofs.arctangent.atan2.Goals as goal
use Rattle.inverse_trigonometry.proofs.arctangent.atan2.Goals.{else-is_finite-via-then-is_finite+else-is_finite-2, else-is_finite-via-else-is_finite}

pub returns-then-is_finite-2 : goal.returns-then-is_finite-2
unfolding of_bits
returns-then-is_finite-2 c = answer_finite c.args.y c.args.x _ c.of.result.value c.of-then-is_finite-2.result.value c.is_finite.result c.is_finite-then-is_finite.result _ c.is_finite.ensures c.is_finite-then-is_finite.ensures c.if-is_finite.true c.if-is_finite-2.true c.of.ensures c.of-then-is_finite-2.ensures c.angle-t.ensures.0 (c.multiple.ensures.product 48 (le_of_lt c.angle-t.ensures.1) refl)

pub returns : goal.returns
unfolding of_bits
returns c = elim c.else-is_finite.branch [
  | else-is_finite-via-then-is_finite+else-is_finite-2 w ↦ answer_no_x c.args.y c.args.x w.is_finite-then-is_finite.result w.is_finite-then-is_finite.ensures w.if-is_finite-2.false
  | else-is_finite-via-else-is_finite w ↦ answer_no_y c.args.y c.args.x c.is_finite.result c.is_finite.ensures w.if-is_finite.false
]
