use Rattle.math.proofs.AngleCode.{over_half, within_half}
use Rattle.math.proofs.angle.wrap180.Goals as goal

pub returns-then-whole : goal.returns-then-whole
returns-then-whole c = over_half c.args.degrees c.wrap360-whole.result c.wrap360-whole.ensures c.if-whole.true

pub returns : goal.returns
returns c = within_half c.args.degrees c.wrap360-whole.result c.wrap360-whole.ensures c.if-whole.false
