use Rattle.math.proofs.AngleCode.{turned_on, turned-not}
use Rattle.math.proofs.angle.not_below_zero.Goals as goal

pub returns-then-rest : goal.returns-then-rest
returns-then-rest c = turned_on c.args.rest c.if-rest.true

pub returns-else-rest : goal.returns-else-rest
returns-else-rest c = turned-not c.args.rest c.if-rest.false
