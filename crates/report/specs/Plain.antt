-- What is printed on an accepted sheet, without the refusals that do not occur there (01,
-- 'Encounter sheet and its program').
use Rattle.std.specs.Prelude.{◌≡◌, ◌⊎◌, ℕ, None, Err}
use mathlib.Core.List.{List, ◌++◌, map, flat_map}
use Rattle.elementary.specs.declared.error.Refusal.{Refusal}
use Rattle.elementary.specs.declared.error.Refusal.TheVariants as Why
use Rattle.motion.specs.declared.units.Distance.{Distance}
use Rattle.assessment.specs.declared.policy.CpaPolicy.{CpaPolicy}
use Rattle.relative_motion.specs.Approach.{approach}
use Rattle.assessment.specs.Risk.{nearest, risk_of}
use Rattle.situation.specs.declared.party.Situation.{Situation}
use Rattle.situation.specs.Situation.{standard}
use Rattle.colregs.specs.Geometry.{geometry_of}
use Rattle.colregs.specs.Colregs.{ruling_of}
use Rattle.colregs.specs.Settled.{Settled}
use Rattle.manoeuvre.specs.declared.constraints.ManoeuvreConstraints.{ManoeuvreConstraints}
use Rattle.manoeuvre.specs.declared.constraints.PermittedSides.TheVariants.{Either}
use Rattle.std.specs.declared.result.Result.{Result}
use Rattle.ruled_search.specs.declared.RuledManoeuvre.{RuledManoeuvre}
use Rattle.ruled_search.specs.Demand3.{OnAccepted}
use Rattle.ruled_search.specs.Ruled.{situation_of, ruled}
use Rattle.sheet_record.specs.Word.{words}
use Rattle.sheet_record.specs.declared.Header.{Header}
use Rattle.sheet_record.specs.declared.Row.{Row}
use Rattle.sheet_record.specs.Record.{header_of, rows_of}
use Rattle.sheet.specs.Values.{scaled, visibility_of, own_of, wind_from, entry_of}
use Rattle.lines.specs.Lines.{contact_line}
use Rattle.report.specs.Report.{answer_line, report}

module _ (h : Header) where
  -- the limits of the assessment and of the turn, and the desired distance
  abbrev pub policy : CpaPolicy
  policy = record { cpa_limit = record { 0 = scaled h.cpa_limit }; tcpa_limit = record { secs = h.tcpa_limit; nanos = 0 } }

  abbrev pub constraints : ManoeuvreConstraints
  constraints = record { sides = Either; least_alteration = record { 0 = scaled h.least }; most_alteration = record { 0 = scaled h.most }; rate_of_turn = None }

  abbrev pub desired : Distance
  desired = record { 0 = scaled h.desired }

  -- the situation that a contact makes
  abbrev pub row_situation : Row → Situation
  row_situation row = situation_of (own_of h) (visibility_of h.visibility) (wind_from h) (entry_of row)

  -- a contact: how it approaches, the risk, the ruling
  unfoldable pub plain_line : Row → List ℕ
  plain_line row =
      let own = own_of h in
      let e = entry_of row in
      let a = approach own.motion e.contact e.target.motion in
      contact_line row.id a (risk_of policy (nearest a)) (ruling_of standard (geometry_of (row_situation row)))

  -- the ruled search's answer
  abbrev pub plain_answer : List Row → Result RuledManoeuvre Refusal
  plain_answer rs = ruled (own_of h) (map entry_of rs) (visibility_of h.visibility) (wind_from h) desired constraints

-- a line for each contact, in the sheet's order, then the ruled search's answer, which meets demand
-- 3 and refuses with 5 or 13 only; with the wind, no contact on a known tack is left undetermined
-- for own craft on one (R-1)
pub record Reported (s : List ℕ) (h : Header) (rs : List Row) : Type 0 where
  pub lines : report s ≡ flat_map (plain_line h) rs ++ answer_line rs (plain_answer h rs)
  pub demand : OnAccepted (own_of h) (map entry_of rs) (visibility_of h.visibility) (wind_from h) (desired h) (constraints h) (plain_answer h rs)
  pub settled : (r : Row) → Settled standard (row_situation h r)
  pub refusals : (why : Refusal) → plain_answer h rs ≡ Err why → (why ≡ Why.NoTrialClears) ⊎ (why ≡ Why.NoSharedSide)

abbrev pub AsReported : List ℕ → Type 0
AsReported s = Reported s (header_of (words s)) (rows_of (words s))
