use Rattle.std.proofs.Common.{ap, ◌∙◌}
use native.Mathlib.Omega.{arith}
use Rattle.laws.proofs.Fold.{fold_turn, fold_end}
use Rattle.laws.specs.Fold.{fold}
use Rattle.track.specs.Beside.{with_products}
use Rattle.track.proofs.Sums.{multiplied, no_product, moments_are}
use Rattle.track.proofs.fit.products.Goals as goal

pub loop-fix-preserved : goal.loop-fix-preserved
loop-fix-preserved c =
    fold_turn (multiplied c.args.last c.means-mean.result) c.loop-fix.s _ c.args.fixes.now c.loop-fix.fix-index _ c.loop-fix-test.true
    (c.with-s.ensures ∙ ap (with_products c.means-mean.result c.loop-fix.s) c.local.ensures)
    ∙ c.loop-fix.invariant

pub returns : goal.returns
returns c =
    fold_end (multiplied c.args.last c.means-mean.result) c.loop-fix.s _ c.args.fixes.now c.loop-fix.fix-index
    (omega (arith, c.loop-fix-test.false, c.loop-fix.auto.fix-index-end)) c.loop-fix.invariant
    ∙ ap (λ m. fold (multiplied c.args.last m) no_product c.args.fixes.now) c.means-mean.ensures
    ∙ moments_are c.args.last c.args.fixes.now
