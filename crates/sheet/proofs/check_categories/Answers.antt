use mathlib.Core.Path.{refl, ◌∙◌}
use native.Mathlib.Omega.{arith}
use Rattle.motion.proofs.ArgumentCode.{handed_on}
use Rattle.motion.proofs.Lists.{passed, stopped, ended}
use Rattle.sheet.specs.Sheet.{category_checks}
use Rattle.sheet.proofs.SheetCode.{code_check}
use Rattle.sheet.proofs.check_categories.Goals as goal

pub loop-row-init : goal.loop-row-init
loop-row-init c = refl

pub loop-row-preserved : goal.loop-row-preserved
unfolding category_checks
loop-row-preserved c = passed code_check category_checks (λ r rs. refl) c.args.rows.now c.loop-row.row-index _ c.loop-row-test.true c.in_ok-ensure.ensures ∙ c.loop-row.invariant

pub returns-in_err-ensure : goal.returns-in_err-ensure
unfolding category_checks
returns-in_err-ensure c = handed_on _ _ c.from_residual.ensures.1 ∙ stopped code_check category_checks (λ r rs. refl) c.args.rows.now c.loop-row.row-index _ _ c.loop-row-test.true c.in_err-ensure.ensures ∙ c.loop-row.invariant

pub returns : goal.returns
unfolding category_checks
returns c = ended code_check category_checks (λ r rs. refl) c.args.rows.now c.loop-row.row-index (omega (arith, c.loop-row-test.false, c.loop-row.auto.row-index-end)) refl ∙ c.loop-row.invariant
