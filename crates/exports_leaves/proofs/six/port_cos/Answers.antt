use mathlib.Core.Path.{sym, subst}
use lib.Dec.{T}
use Rattle.trigonometry.specs.Sine.{IsCosine}
use Rattle.trigonometry.proofs.Bound.{cosine_is}
use Rattle.exports_leaves.proofs.six.port_cos.Goals as goal

pub returns : goal.returns
returns c = (c.cos.ensures, subst (IsCosine c.args.x) (sym c.cos.ensures) (cosine_is c.args.x (subst T (sym c.well_formed.0.1) tt)))
