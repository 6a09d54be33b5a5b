use Prim.Native.Nat.{◌*◌, ◌^◌}
use native.Mathlib.Omega.{arith}
use Rattle.roots.proofs.SqrtCode.{before}
use Rattle.roots.proofs.Trial.one_less.Goals as goal

pub returns-then-x-r : goal.returns-then-x-r
returns-then-x-r c = let n = c.args.self in before (n.d * 2 ^ 52) n.r n.x (n.excess.is (omega (arith, c.requires))) n.positive c.requires c.if-x-r.true
