use mathlib.Core.Path.{ap, ◌∙◌}
use lib.Ieee.{neg}
use Rattle.math.proofs.FullTurns.{turned_round, opposite}
use Rattle.math.proofs.remainder.remainder.Goals as goal

pub remainder_of_positive-requires : goal.remainder_of_positive-requires
remainder_of_positive-requires c = turned_round c.args.x c.if-x.true

pub returns-then-x : goal.returns-then-x
returns-then-x c = ap neg c.remainder_of_positive.ensures ∙ opposite c.args.x
