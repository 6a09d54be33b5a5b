use mathlib.Core.Path.{refl, sym, ◌∙◌}
use Rattle.motion.proofs.ArgumentCode.{handed_on}
use Rattle.assessment.specs.Policy.{policy_answer}
use Rattle.assessment.proofs.policy.CpaPolicy.new.Goals as goal

pub returns-in_err-check_policy : goal.returns-in_err-check_policy
unfolding policy_answer
returns-in_err-check_policy c = handed_on _ _ c.from_residual.ensures.1 ∙ rw (sym c.in_err-check_policy.ensures) refl

pub returns : goal.returns
unfolding policy_answer
returns c = rw (sym c.in_ok-check_policy.ensures) refl
