use mathlib.Core.Path.{sym, subst}
use mathlib.Core.Bool.{true, false}
use lib.Ieee.Scale.{finite}
use mathlib.Core.Path.{◌≡◌}
use Rattle.laws.specs.Units.{sign}
use Rattle.inverse_trigonometry.proofs.Arctangents.{size_of}
use Rattle.inverse_trigonometry.proofs.arctangent.Magnitude.of.Goals as goal

pub invariant_of-result : goal.invariant_of-result
invariant_of-result c = let h = size_of c.args.x c.requires in record { held = c.abs.type_inv; number = subst (λ a. finite a ≡ true) (sym c.abs.ensures) h.0; clear = subst (λ a. sign a ≡ false) (sym c.abs.ensures) h.1 }
