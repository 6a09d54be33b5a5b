use native.Mathlib.Omega.{arith}
use Rattle.trigonometry.proofs.TaylorCode.{cosine_is, above}
use Rattle.trigonometry.proofs.taylor.cosine.Goals as goal

pub returns : goal.returns
returns c = (λ h. cosine_is c.args.r _ _ _ c.mul58-z.ensures.0 (c.cosine_series.ensures.0 (omega (arith, c.mul58-z.ensures.1, h))) c.mul58.ensures.0, λ g. above c.args.r c.if-r-gt-ONE.false g, omega arith)
