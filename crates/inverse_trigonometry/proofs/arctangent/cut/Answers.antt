use Rattle.inverse_trigonometry.proofs.Arctangents.{all_cut}
use native.Mathlib.Omega.{arith}
use Rattle.inverse_trigonometry.proofs.arctangent.cut.Goals as goal

pub returns-else-places-lt64 : goal.returns-else-places-lt64
returns-else-places-lt64 c = all_cut c.args.n c.args.places (omega arith) c.if-places-lt64.false
