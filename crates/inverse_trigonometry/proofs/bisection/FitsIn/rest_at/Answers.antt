use mathlib.Core.Path.{refl}
use Prim.Native.Nat.{◌*◌}
use native.Mathlib.Nat.{le_trans, div-le_self}
use Rattle.inverse_trigonometry.proofs.BisectionCode.{rest_is}
use native.Mathlib.Omega.{arith}
use Rattle.inverse_trigonometry.proofs.bisection.FitsIn.rest_at.Goals as goal

pub returns : goal.returns
returns c = (rest_is c.args.self.f c.args.a _ _ _ _ refl (c.product-z.ensures.0 (omega arith) (omega arith)) (c.cosine_series.ensures.0 (le_trans (div-le_self c.product-z.result (c.args.self.f * c.args.self.f)) (omega (arith, c.product-z.ensures.3)))) (c.product.ensures.0 (omega (arith, c.product-z.ensures.3)) c.cosine_series.ensures.2), omega (arith, c.product.ensures.3, c.cosine_series.ensures.2))
