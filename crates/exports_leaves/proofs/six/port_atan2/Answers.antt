use mathlib.Core.Path.{sym, subst}
use lib.Dec.{T}
use Rattle.inverse_trigonometry.specs.Atan2.{IsAtan2}
use Rattle.inverse_trigonometry.proofs.Arctangents.{arctangent_is}
use Rattle.exports_leaves.proofs.six.port_atan2.Goals as goal

pub returns : goal.returns
returns c = (c.atan2.ensures, subst (IsAtan2 c.args.y c.args.x) (sym c.atan2.ensures) (arctangent_is c.args.y c.args.x (subst T (sym c.well_formed.0.1) tt) (subst T (sym c.well_formed.1.0.1) tt)))
