use lib.Ieee.{of_bits}
use Rattle.trigonometry.proofs.SineCode.{grid_is}
use Rattle.trigonometry.proofs.from_units.Goals as goal

pub returns : goal.returns
unfolding of_bits
returns c = grid_is c.args.minus c.args.v c.requires c.multiple.result c.multiple.ensures.product
