use Rattle.trigonometry.proofs.TaylorCode.{cosine_series_is, above}
use Rattle.trigonometry.proofs.taylor.cosine_series.Goals as goal

pub returns : goal.returns
returns c = (λ h. cosine_series_is c.args.z _ _ _ _ _ _ _ _ c.step-q7.ensures.0 c.step-q6.ensures.0 c.step-q5.ensures.0 c.step-q4.ensures.0 c.step-q3.ensures.0 c.step-q2.ensures.0 c.step-q1.ensures.0 c.step.ensures.0, λ g. above c.args.z c.if-z-gt-ONE.false g, c.step.ensures.1)
