use mathlib.Core.Path.{sym, subst}
use lib.Dec.{T}
use Rattle.roots.specs.Hypot.{IsHypot}
use Rattle.roots.proofs.HypotBound.{hypot_is}
use Rattle.exports_leaves.proofs.six.port_hypot.Goals as goal

pub returns : goal.returns
returns c = (c.hypot.ensures, subst (IsHypot c.args.x c.args.y) (sym c.hypot.ensures) (hypot_is c.args.x c.args.y (subst T (sym c.well_formed.0.1) tt) (subst T (sym c.well_formed.1.0.1) tt)))
