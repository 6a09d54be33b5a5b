use Rattle.inverse_trigonometry.proofs.Arcsines.{asks_units, answer_tiny, answer_negative, answer_inside, answer_above}
use Rattle.laws.proofs.Bools.{holds, fails}
use Rattle.std.proofs.Common.{refl, le_of_lt}
use lib.Ieee.{of_bits}
use Rattle.inverse_trigonometry.proofs.arcsine.asin.Goals as goal
use Rattle.inverse_trigonometry.proofs.arcsine.asin.Goals.{else-x-via-then-x+else-x-2, else-x-via-else-x}

pub returns-then-x-3 : goal.returns-then-x-3
returns-then-x-3 c = answer_tiny c.args.x c.if-x-3.true c.if-x.true

pub returns-in-Some : goal.returns-in-Some
unfolding of_bits
returns-in-Some c = answer_inside c.args.x _ c.in-Some.n _ c.if-x-3.false c.if-x-2.true c.in-Some.ensures.1 c.arcsine.ensures.0 (c.multiple.ensures.product 51 (le_of_lt c.arcsine.ensures.1) refl)

pub returns-in_default : goal.returns-in_default
returns-in_default c = absurd (fails c.in_default.ensures (asks_units c.args.x (holds c.well_formed.0.1) c.if-x-3.false c.if-x-2.true).0)

pub returns-else-x : goal.returns-else-x
unfolding of_bits
returns-else-x c = elim c.else-x.branch [
  | else-x-via-then-x+else-x-2 w ↦ answer_above c.args.x w.if-x-2.false
  | else-x-via-else-x w ↦ answer_negative c.args.x w.if-x.false
]
