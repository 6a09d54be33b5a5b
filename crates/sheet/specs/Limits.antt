-- What a sheet asks for: the limits of the assessment and of the turn, and the id of the contact at
-- a place.
use Rattle.std.specs.Prelude.{List, map, ℕ, get_or, None, Some}
use Rattle.manoeuvre.specs.declared.constraints.ManoeuvreConstraints.{ManoeuvreConstraints}
use Rattle.std.specs.declared.option.Option.{Option}
use Rattle.std.specs.declared.result.Result.{Result}
use Rattle.elementary.specs.declared.error.Refusal.{Refusal}
use Rattle.assessment.specs.declared.policy.CpaPolicy.{CpaPolicy}
use Rattle.assessment.specs.Policy.{policy_answer}
use Rattle.manoeuvre.specs.declared.constraints.PermittedSides.TheVariants.{Either}
use Rattle.manoeuvre.specs.Constraints.{constraints_answer}
use Rattle.sheet_record.specs.declared.Header.{Header}
use Rattle.sheet_record.specs.declared.Row.{Row}
use Rattle.sheet.specs.Values.{scaled}

-- the id of the limiting contact; none is read where there is none
unfoldable pub id_at : List Row → Option ℕ → ℕ
id_at rs None = 0
id_at rs (Some place) = get_or (map (λ r. r.id) rs) place 0

unfoldable pub policy_of : Header → Result CpaPolicy Refusal
policy_of h = policy_answer (record { 0 = scaled h.cpa_limit }) (record { secs = h.tcpa_limit; nanos = 0 })

-- the ruled search takes no sides from its caller
unfoldable pub constraints_of : Header → Result ManoeuvreConstraints Refusal
constraints_of h = constraints_answer Either (record { 0 = scaled h.least }) (record { 0 = scaled h.most })
