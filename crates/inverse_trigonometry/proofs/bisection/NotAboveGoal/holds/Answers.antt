use Rattle.inverse_trigonometry.proofs.BisectionCode.{under_is}
use Rattle.inverse_trigonometry.proofs.bisection.NotAboveGoal.holds.Goals as goal

pub returns : goal.returns
returns c = under_is c.args.self.u c.args.self.w c.args.a _ _ _ _ c.sine_at.ensures.0 c.cosine_at.ensures.0 (c.product.ensures.0 c.args.self.small_u c.sine_at.ensures.1) (c.product-2.ensures.0 c.args.self.small_w c.cosine_at.ensures.1)
