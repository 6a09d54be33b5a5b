use lib.Dec.{leb→le}
use Rattle.laws.proofs.Bools.{holds}
use Rattle.inverse_trigonometry.proofs.BisectionCode.{told_by, rest_settled, rest_passes, rest-value}
use Rattle.inverse_trigonometry.proofs.bisection.FitsInGoal.told.Goals as goal

pub returns-clause-found : goal.returns-clause-found
returns-clause-found c = let n = c.args.self in told_by _ _ c.then_some.ensures (λ h. rest_settled c.args.a _ c.requires c.product-z.ensures n.e n.f _ _ _ _ n.positive c.twice-twice.ensures.0 c.cosine_series.ensures c.product-t.ensures c.product.ensures c.if-twice-t.false (leb→le _ _ (holds h)))

pub returns-clause-passes : goal.returns-clause-passes
returns-clause-passes c = λ _. let n = c.args.self in rest_passes n.e n.f c.args.a _ _ c.twice-twice.ensures.0 (rest-value c.args.a _ c.requires c.product-z.ensures n.f _ _ c.cosine_series.ensures c.product-t.ensures) c.if-twice-t.false
