-- The limits of an assessment (assessment.rs, `CpaPolicy`; 01, the table's rows 3 and 6).
use Rattle.std.specs.Prelude.{List, [], ◌∷◌, Err, Ok}
use Rattle.math.specs.Clock.{is_accepted}
use Rattle.math.specs.declared.duration.Duration.{Duration}
use Rattle.elementary.specs.declared.error.Refusal.TheVariants as Why
use Rattle.motion.specs.declared.units.Distance.{Distance}
use Rattle.std.specs.declared.result.Result.{Result}
use Rattle.elementary.specs.declared.error.Refusal.{Refusal}
use Rattle.motion.specs.Check.{Check, check, verdict, is_distance}
use Rattle.assessment.specs.declared.policy.CpaPolicy.{CpaPolicy}

abbrev pub policy_checks : CpaPolicy → List Check
policy_checks p = check (is_distance p.cpa_limit) Why.Distance ∷ check (is_accepted p.tcpa_limit) Why.Time ∷ []

abbrev pub policy_if_accepted : Result (Unit {0}) Refusal → CpaPolicy → Result CpaPolicy Refusal
policy_if_accepted (Ok tt) p = Ok p
policy_if_accepted (Err why) p = Err why

unfoldable pub policy_answer : Distance → Duration → Result CpaPolicy Refusal
policy_answer limit time =
    let p : CpaPolicy = record { cpa_limit = limit; tcpa_limit = time } in
    policy_if_accepted (verdict (policy_checks p) (Ok tt)) p
