use mathlib.Core.Path.{sym, subst}
use lib.Dec.{T}
use Rattle.trigonometry.specs.Sine.{IsSine}
use Rattle.trigonometry.proofs.Bound.{sine_is}
use Rattle.exports_leaves.proofs.six.port_sin.Goals as goal

pub returns : goal.returns
returns c = (c.sin.ensures, subst (IsSine c.args.x) (sym c.sin.ensures) (sine_is c.args.x (subst T (sym c.well_formed.0.1) tt)))
