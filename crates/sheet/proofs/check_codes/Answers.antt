use Rattle.std.specs.Prelude.{[], ◌∷◌}
use Rattle.motion.specs.Check.{check}
use Rattle.sheet.specs.Sheet.{code_checks}
use Rattle.motion.proofs.ArgumentCode.{refused_by, accepted}
use Rattle.sheet.proofs.check_codes.Goals as goal

pub returns-in_err-ensure : goal.returns-in_err-ensure
unfolding code_checks
returns-in_err-ensure c = refused_by (check _ _ ∷ []) _ _ _ _ c.from_residual.ensures.1 c.in_err-ensure.ensures

pub returns-in_err-ensure-2 : goal.returns-in_err-ensure-2
unfolding code_checks
returns-in_err-ensure-2 c = accepted (check _ _ ∷ []) _ _ _ c.in_ok-ensure.ensures (refused_by (check _ _ ∷ []) _ _ _ _ c.from_residual-in_err-ensure-2.ensures.1 c.in_err-ensure-2.ensures)

pub returns : goal.returns
unfolding code_checks
returns c = accepted (check _ _ ∷ []) _ _ _ c.in_ok-ensure.ensures (accepted (check _ _ ∷ []) _ _ _ c.in_ok-ensure-2.ensures c.check_categories.ensures)
