use lib.Dec.{leb→le}
use Rattle.laws.proofs.Bools.{holds}
use Rattle.inverse_trigonometry.proofs.BisectionCode.{told_by, tangent_settled, tangent_told}
use Rattle.inverse_trigonometry.proofs.bisection.NotAboveGoal.told.Goals as goal

pub returns-clause-found : goal.returns-clause-found
returns-clause-found c = told_by _ _ c.then_some.ensures (λ e. tangent_settled c.args.a _ c.requires c.product-z.ensures _ _ _ _ _ _ _ _ c.args.self.small_u c.args.self.small_w c.sine_series.ensures c.product-s.ensures c.cosine_series.ensures c.product.ensures c.product-g.ensures c.product-h.ensures c.if-h-g.false _ _ c.product-2.ensures c.product-3.ensures (leb→le _ _ (holds e)))

pub returns-clause-passes : goal.returns-clause-passes
returns-clause-passes c = λ _. tangent_told c.args.a _ c.requires c.product-z.ensures _ _ _ _ _ _ _ _ c.args.self.small_u c.args.self.small_w c.sine_series.ensures c.product-s.ensures c.cosine_series.ensures c.product.ensures c.product-g.ensures c.product-h.ensures c.if-h-g.false
