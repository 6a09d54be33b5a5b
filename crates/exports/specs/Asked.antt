-- What the C exports ask, with limits and constraints that may be refused themselves: what document
-- 01 checks before them decides first ('The answers by number': the order of arguments).
use Rattle.std.specs.Prelude.{List, map, ℕ, length, Ok, Err}
use Rattle.std.specs.declared.option.Option.{Option}
use Rattle.std.specs.declared.result.Result.{Result}
use Rattle.elementary.specs.declared.error.Refusal.{Refusal}
use Rattle.motion.specs.Check.{checked, encounter_checks, distance_checks}
use Rattle.situation.specs.Arguments.{party_checks, optional_checks}
use Rattle.motion.specs.declared.side.BySide.{BySide}
use Rattle.motion.specs.declared.units.Direction.{Direction}
use Rattle.motion.specs.declared.units.Distance.{Distance}
use Rattle.motion.specs.declared.units.RelativeBearing.{RelativeBearing}
use Rattle.motion.specs.declared.vessel.Vessel.{Vessel}
use Rattle.relative_motion.specs.declared.approach.Cpa.{Cpa}
use Rattle.relative_motion.specs.declared.approach.Track.{Track}
use Rattle.relative_motion.specs.declared.plot.TargetSolution.{TargetSolution}
use Rattle.relative_motion.specs.Approach.{cpa_answer, approach_distance_answer, bearing_answer}
use Rattle.relative_motion.specs.Bow.{bow_answer}
use Rattle.relative_motion.specs.Plot.{plot_answer}
use Rattle.relative_motion.specs.Course.{course_answer}
use Rattle.situation.specs.declared.party.Circumstances.{Circumstances}
use Rattle.situation.specs.Situation.{with_contact}
use Rattle.colregs.specs.declared.answer.Ruling.{Ruling}
use Rattle.colregs.specs.Colregs.{ruling_answer}
use Rattle.assessment.specs.declared.assess.CollisionAssessment.{CollisionAssessment}
use Rattle.assessment.specs.Assess.{assess_answer}
use Rattle.manoeuvre.specs.declared.AvoidanceManoeuvre.{AvoidanceManoeuvre}
use Rattle.manoeuvre.specs.declared.constraints.ManoeuvreConstraints.{ManoeuvreConstraints}
use Rattle.manoeuvre.specs.Constraints.{permits}
use Rattle.clearance.specs.Clearing.{floor_of, moving}
use Rattle.clearance.specs.declared.traffic.Entry.{Entry}
use Rattle.clearance.specs.Traffic.{count_checks, contacts_checks, targets}
use Rattle.avoidance.specs.declared.search.Chosen.{Chosen}
use Rattle.avoidance.specs.Search.{smallest}
use Rattle.avoidance.specs.Avoid.{avoid_answer}
use Rattle.ruled_search.specs.declared.RuledManoeuvre.{RuledManoeuvre}
use Rattle.ruled_search.specs.Ruled.{ruled_answer}
use Rattle.slowing_search.specs.declared.SlowingManoeuvre.{SlowingManoeuvre}
use Rattle.slowing_search.specs.Slowing.{slowing_answer}
use Rattle.track.specs.Window.{latest}
use Rattle.track.specs.Run.{accepted}
use Rattle.track.specs.Fit.{fit_answer}
use Rattle.exports.specs.Plots.{Run, run}
use Rattle.exports.specs.Arguments.{plots, own, around, desired, sides, constraints, policy, least, most, contacts, entry, entries, elapsed, config, code}

-- what is asked of one that may be refused
abbrev pub given : {A B : Type 0} → Result A Refusal → (A → Result B Refusal) → Result B Refusal
given (Ok a) ask = ask a
given (Err why) ask = Err why

abbrev pub after : {B : Type 0} → Result (Unit {0}) Refusal → Result B Refusal → Result B Refusal
after (Ok tt) answer = answer
after (Err why) answer = Err why

-- ---- of own craft and the first contact, and for a plot the second
abbrev pub cpa_asked : List ℕ → Result (Track Cpa) Refusal
cpa_asked ws = cpa_answer (own ws).motion (entry ws 0).contact (entry ws 0).target.motion

abbrev pub approach_distance_asked : List ℕ → Result (Track Distance) Refusal
approach_distance_asked ws = approach_distance_answer (own ws).motion (entry ws 0).contact (entry ws 0).target.motion

abbrev pub bearing_asked : List ℕ → Result RelativeBearing Refusal
bearing_asked ws = bearing_answer (own ws).motion (entry ws 0).contact

abbrev pub bow_asked : List ℕ → Result Distance Refusal
bow_asked ws = bow_answer (own ws).motion (entry ws 0).contact (entry ws 0).target.motion

abbrev pub plot_asked : List ℕ → Result TargetSolution Refusal
plot_asked ws = plot_answer (own ws).motion (entry ws 0).contact (entry ws 1).contact (elapsed ws)

abbrev pub course_asked : List ℕ → Result (BySide (Option Direction)) Refusal
course_asked ws = course_answer (own ws).motion (entry ws 0).contact (entry ws 0).target.motion (desired ws)

abbrev pub ruling_asked : List ℕ → Result Ruling Refusal
ruling_asked ws = ruling_answer (with_contact (around ws) (entry ws 0).contact (entry ws 0).target) (config ws)

-- ---- own craft, contact and target, then the limits
abbrev pub assess_asked : List ℕ → Result CollisionAssessment Refusal
assess_asked ws =
    let v = (own ws).motion in
    let e = entry ws 0 in
    after (checked (encounter_checks v e.contact e.target.motion)) (given (policy ws) (assess_answer v e.contact e.target.motion))

-- own craft, contact, target and the desired distance, then the constraints
abbrev pub avoid_asked : List ℕ → Result AvoidanceManoeuvre Refusal
avoid_asked ws =
    let v = (own ws).motion in
    let e = entry ws 0 in
    after (checked (encounter_checks v e.contact e.target.motion))
    (after (checked (distance_checks (desired ws)))
    (given (constraints ws) (avoid_answer v e.contact e.target.motion (desired ws))))

-- the count, own craft, the contacts, the wind and the desired distance, then the constraints
abbrev pub search_constraints : List ℕ → Circumstances → List Entry → Distance → Result ManoeuvreConstraints Refusal
search_constraints ws a es d =
    after (checked (count_checks (length (contacts ws))))
    (after (checked (party_checks a.own))
    (after (checked (contacts_checks es))
    (after (checked (optional_checks a.wind_from))
    (after (checked (distance_checks d))
    (constraints ws)))))

abbrev pub ruled_asked : List ℕ → Result RuledManoeuvre Refusal
ruled_asked ws =
    let a = around ws in
    let es = entries ws in
    given (search_constraints ws a es (desired ws))
    (ruled_answer a.own (length es) es a.visibility a.wind_from (desired ws))

abbrev pub slowing_asked : List ℕ → Result SlowingManoeuvre Refusal
slowing_asked ws =
    let a = around ws in
    let es = entries ws in
    given (search_constraints ws a es (desired ws))
    (slowing_answer a.own (length es) es a.visibility a.wind_from (desired ws))

-- the search alone, on the sides and between the alterations that the words say
abbrev pub search_asked : List ℕ → Option Chosen
search_asked ws =
    smallest (own ws).motion (floor_of (desired ws)) (map moving (targets (entries ws))) (permits (sides (code ws 13)))
    (least ws) (most ws)

-- ---- of a run of plots: the verdict on the last, with what the window holds, which is the latest 8
-- of those that are accepted, and the motion that is fitted to these
abbrev pub window_asked : List ℕ → Run
window_asked ws = record { verdict = (run (plots ws)).verdict; held = latest 8 (accepted (plots ws)) }

abbrev pub fit_asked : List ℕ → Result (Option Vessel) Refusal
fit_asked ws = fit_answer (latest 8 (accepted (plots ws)))
