use Rattle.math.proofs.Convert.{radians}
use Rattle.math.proofs.to_radians.Goals as goal

pub returns : goal.returns
returns c = radians c.args.degrees
