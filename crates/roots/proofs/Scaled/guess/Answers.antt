use native.Mathlib.Omega.{arith}
use Rattle.laws.proofs.Pattern.{no_nan_bits}
use Rattle.roots.proofs.Scaled.guess.Goals as goal

pub float_from_bits-f : goal.float_from_bits-f
float_from_bits-f c = no_nan_bits _ (omega arith)

pub float_from_bits-y : goal.float_from_bits-y
float_from_bits-y c = no_nan_bits _ (omega arith)
