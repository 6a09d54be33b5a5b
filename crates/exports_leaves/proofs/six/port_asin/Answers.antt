use mathlib.Core.Path.{sym, subst}
use lib.Dec.{T}
use Rattle.inverse_trigonometry.specs.Asin.{IsAsin}
use Rattle.inverse_trigonometry.proofs.Arcsines.{arcsine_is}
use Rattle.exports_leaves.proofs.six.port_asin.Goals as goal

pub returns : goal.returns
returns c = (c.asin.ensures, subst (IsAsin c.args.x) (sym c.asin.ensures) (arcsine_is c.args.x (subst T (sym c.well_formed.0.1) tt)))
