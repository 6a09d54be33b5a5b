use Rattle.std.proofs.Common.{◌≡◌, drop}
use Rattle.laws.specs.Fold.{fold}
use Rattle.track.proofs.Sums.{summed, no_sum}
use Rattle.track.proofs.fit.sums.Given as goal

abbrev pub invariant-loop-fix : goal.invariant-loop-fix
invariant-loop-fix l = fold (summed l.last) l.sum (drop l.fix-index l.fixes) ≡ fold (summed l.last) no_sum l.fixes
