use mathlib.Core.Path.{sym, subst}
use lib.Dec.{T}
use Rattle.roots.specs.Sqrt.{IsSqrt}
use Rattle.roots.proofs.NearestSqrt.{sqrt_is}
use Rattle.exports_leaves.proofs.six.port_sqrt.Goals as goal

pub returns : goal.returns
returns c = (c.sqrt.ensures, subst (IsSqrt c.args.x) (sym c.sqrt.ensures) (sqrt_is c.args.x (subst T (sym c.well_formed.0.1) tt)))
