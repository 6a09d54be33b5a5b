use lib.Ieee.{of_bits}
use Rattle.inverse_trigonometry.proofs.Arctangents.{raised-held, raised-clear, raised-units}
use Rattle.inverse_trigonometry.proofs.arctangent.Magnitude.raised.Goals as goal

pub invariant_of-result : goal.invariant_of-result
unfolding of_bits
invariant_of-result c = let r = raised-clear c.args.self c.requires in record { held = raised-held c.args.self c.requires; number = r.0; clear = r.1 }

pub returns : goal.returns
unfolding of_bits
returns c = raised-units c.args.self c.requires
