use mathlib.Core.Path.{ap, ◌∙◌}
use native.Mathlib.Omega.{arith}
use Rattle.laws.proofs.Fold.{fold_turn, fold_end}
use Rattle.assessment.specs.Picture as Picture
use Rattle.exports.specs.Picture.{with_answer, with_entry, pictured}
use Rattle.exports.proofs.picture.pictured.Goals as goal

pub loop-e-preserved : goal.loop-e-preserved
unfolding with_entry
loop-e-preserved c =
    fold_turn (with_entry c.args.own c.args.policy) _ _ c.args.t.now c.loop-e.e-index _ c.loop-e-test.true (c.add.ensures ∙ ap (with_answer (Picture.targets c.loop-e.p)) c.assess.ensures) ∙ c.loop-e.invariant

pub returns : goal.returns
unfolding pictured
returns c = fold_end (with_entry c.args.own c.args.policy) _ _ c.args.t.now c.loop-e.e-index (omega (arith, c.loop-e-test.false, c.loop-e.auto.e-index-end)) c.loop-e.invariant
