use lib.Dec.{leb→le}
use Rattle.laws.proofs.Bools.{holds}
use Rattle.inverse_trigonometry.proofs.BisectionCode.{told_by, sine_settled, sine_passes, sine_of}
use Rattle.inverse_trigonometry.proofs.bisection.AtMostGoal.told.Goals as goal

pub returns-clause-found : goal.returns-clause-found
returns-clause-found c = told_by _ _ c.then_some.ensures (λ e. sine_settled c.args.a _ c.requires c.product-z.ensures c.args.self.x _ _ c.sine_series.ensures c.product-s.ensures c.if-x-s.false (leb→le _ _ (holds e)))

pub returns-clause-passes : goal.returns-clause-passes
returns-clause-passes c = λ _. sine_passes c.args.self.x c.args.a _ (sine_of c.args.a _ c.requires c.product-z.ensures _ _ c.sine_series.ensures c.product-s.ensures) c.if-x-s.false
