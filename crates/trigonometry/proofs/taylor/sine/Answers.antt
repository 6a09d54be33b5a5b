use native.Mathlib.Omega.{arith}
use Rattle.trigonometry.proofs.TaylorCode.{sine_is, above}
use Rattle.trigonometry.proofs.taylor.sine.Goals as goal

pub returns : goal.returns
returns c = (λ h. sine_is c.args.r _ _ _ c.mul58-z.ensures.0 (c.sine_series.ensures.0 (omega (arith, c.mul58-z.ensures.1, h))) c.mul58.ensures.0, λ g. above c.args.r c.if-r-gt-ONE.false g, omega (arith, c.mul58.ensures.1, c.sine_series.ensures.2))
