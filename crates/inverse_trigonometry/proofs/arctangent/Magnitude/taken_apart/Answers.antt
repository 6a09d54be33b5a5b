use Rattle.laws.proofs.Bools.{holds}
use Rattle.inverse_trigonometry.proofs.Arctangents.{not-nan}
use mathlib.Core.Path.{refl}
use Rattle.inverse_trigonometry.proofs.arctangent.Magnitude.taken_apart.Goals as goal

pub float_to_bits-self : goal.float_to_bits-self
float_to_bits-self c = not-nan c.args.self.value (holds c.args.self.number)

pub returns : goal.returns
returns c = c.of_pattern.ensures c.args.self.value c.args.self.held c.args.self.number c.args.self.clear refl
