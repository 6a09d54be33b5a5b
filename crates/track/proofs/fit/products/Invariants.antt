use Rattle.std.proofs.Common.{◌≡◌, drop}
use Rattle.laws.specs.Fold.{fold}
use Rattle.track.proofs.Sums.{multiplied, no_product}
use Rattle.track.proofs.fit.products.Given as goal

abbrev pub invariant-loop-fix : goal.invariant-loop-fix
invariant-loop-fix l = fold (multiplied l.last l.mean) l.s (drop l.fix-index l.fixes) ≡ fold (multiplied l.last l.mean) no_product l.fixes
