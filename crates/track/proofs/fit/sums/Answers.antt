use Rattle.std.proofs.Common.{ap, ◌∙◌}
use native.Mathlib.Omega.{arith}
use Rattle.laws.proofs.Fold.{fold_turn, fold_end}
use Rattle.track.specs.Beside.{plus}
use Rattle.track.proofs.Sums.{summed, sums_are}
use Rattle.track.proofs.fit.sums.Goals as goal

pub loop-fix-preserved : goal.loop-fix-preserved
loop-fix-preserved c =
    fold_turn (summed c.args.last) c.loop-fix.sum _ c.args.fixes.now c.loop-fix.fix-index _ c.loop-fix-test.true
    (c.plus-sum.ensures ∙ ap (plus c.loop-fix.sum) c.local.ensures)
    ∙ c.loop-fix.invariant

pub returns : goal.returns
returns c =
    fold_end (summed c.args.last) c.loop-fix.sum _ c.args.fixes.now c.loop-fix.fix-index
    (omega (arith, c.loop-fix-test.false, c.loop-fix.auto.fix-index-end)) c.loop-fix.invariant
    ∙ sums_are c.args.last c.args.fixes.now
