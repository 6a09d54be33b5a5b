use Rattle.std.specs.Prelude.{[], ◌∷◌}
use Rattle.motion.specs.Check.{check}
use Rattle.motion.proofs.ArgumentCode.{refused_by, accepted}
use Rattle.motion.proofs.argument.check_vessel.Goals as goal

pub returns-in_err-ensure : goal.returns-in_err-ensure
returns-in_err-ensure c = refused_by (check _ _ ∷ []) _ _ _ _ c.from_residual.ensures.1 (rw c.is_direction.ensures at c.in_err-ensure.ensures)

pub returns : goal.returns
returns c = accepted (check _ _ ∷ []) _ _ _ (rw c.is_direction.ensures at c.in_ok-ensure.ensures) (rw c.is_speed.ensures at c.ensure-2.ensures)
