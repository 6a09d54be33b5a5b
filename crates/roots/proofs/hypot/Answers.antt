use mathlib.Core.Path.{refl}
use lib.Ieee.{of_bits}
use Rattle.std.proofs.lemmas.Bool.{and_left, and_right}
use Rattle.roots.proofs.HypotCode.{outside}
use Rattle.roots.proofs.hypot.Goals as goal
use Rattle.roots.proofs.hypot.Goals.{else-a-via-then-a+else-b, else-a-via-else-a}

pub returns : goal.returns
unfolding of_bits
returns c = outside c.args.x c.args.y c.abs-a.result c.abs-b.result _ c.abs-a.ensures c.abs-b.ensures (elim c.else-a.branch [
  | else-a-via-then-a+else-b w ↦ and_right _ _ w.if-b.false
  | else-a-via-else-a w ↦ and_left _ _ w.if-a.false
]) refl
