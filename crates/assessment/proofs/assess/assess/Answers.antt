use mathlib.Core.Path.{◌∙◌}
use Rattle.motion.specs.Check.{encounter_checks}
use Rattle.assessment.specs.Policy.{policy_checks}
use Rattle.motion.proofs.ArgumentCode.{handed_on, refused as refused_first, accepted}
use Rattle.assessment.proofs.AssessCode.{answered, refused}
use Rattle.assessment.proofs.assess.assess.Goals as goal

pub returns-in_err-check_encounter : goal.returns-in_err-check_encounter
returns-in_err-check_encounter c = handed_on _ _ c.from_residual.ensures.1 ∙ refused _ _ _ _ _ (refused_first (encounter_checks c.args.own c.args.contact c.args.target) (policy_checks c.args.policy) _ _ c.in_err-check_encounter.ensures)

pub returns-in_err-check_policy : goal.returns-in_err-check_policy
returns-in_err-check_policy c = handed_on _ _ c.from_residual-in_err-check_policy.ensures.1 ∙ refused _ _ _ _ _ (accepted (encounter_checks c.args.own c.args.contact c.args.target) (policy_checks c.args.policy) _ _ c.in_ok-check_encounter.ensures c.in_err-check_policy.ensures)

pub returns : goal.returns
returns c = answered _ _ _ _ _ (accepted (encounter_checks c.args.own c.args.contact c.args.target) (policy_checks c.args.policy) _ _ c.in_ok-check_encounter.ensures c.in_ok-check_policy.ensures) c.assessed.ensures
