-- What the code of the assessment owes.
use Rattle.std.specs.Prelude.{Err, Ok}
use mathlib.Core.Path.{◌≡◌, ap, ◌∙◌}
use mathlib.Core.List.{◌++◌}
use Rattle.elementary.specs.declared.error.Refusal.{Refusal}
use Rattle.motion.specs.declared.vessel.Vessel.{Vessel}
use Rattle.motion.specs.declared.vessel.Contact.{Contact}
use Rattle.motion.specs.Check.{encounter_checks, checked}
use Rattle.assessment.specs.declared.policy.CpaPolicy.{CpaPolicy}
use Rattle.assessment.specs.declared.assess.CollisionAssessment.{CollisionAssessment}
use Rattle.assessment.specs.Policy.{policy_checks}
use Rattle.assessment.specs.Assess.{assessment, assess_if_accepted, assess_answer}

-- ---- by the verdict on the arguments
module _ (own : Vessel) (contact : Contact) (target : Vessel) (policy : CpaPolicy) where
  pub answered : (a : CollisionAssessment) → Ok tt ≡ checked (encounter_checks own contact target ++ policy_checks policy) → a ≡ assessment own contact target policy → Ok a ≡ assess_answer own contact target policy
  unfolding assess_answer
  answered a h e = ap Ok e ∙ ap (λ v. assess_if_accepted v (assessment own contact target policy)) h

  pub refused : (why : Refusal) → Err why ≡ checked (encounter_checks own contact target ++ policy_checks policy) → Err why ≡ assess_answer own contact target policy
  unfolding assess_answer
  refused why h = ap (λ v. assess_if_accepted v (assessment own contact target policy)) h
