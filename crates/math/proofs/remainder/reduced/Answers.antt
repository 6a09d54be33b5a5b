use native.Mathlib.Omega.{arith}
use Rattle.math.proofs.FullTurns.{one_more, ended}
use Rattle.math.proofs.remainder.reduced.Goals as goal

pub loop-preserved : goal.loop-preserved
loop-preserved c =
    one_more _ _ _ _ _ _ (omega arith) (omega (arith, c.requires.1)) c.loop.invariant c.less-rest.ensures

pub returns : goal.returns
returns c = ended _ _ _ _ (omega arith) c.loop.invariant
