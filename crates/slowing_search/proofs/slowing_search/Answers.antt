use mathlib.Core.Path.{◌≡◌, sym, ap, ◌∙◌, subst}
use mathlib.Core.Bool.{true, ◌||◌}
use mathlib.Core.List.{List, map}
use Rattle.std.specs.Prelude.{Err, length}
use Rattle.std.proofs.Common.{rules}
use lib.Seq.{take_all}
use Rattle.std.specs.declared.result.Result.{Result}
use Rattle.elementary.specs.declared.error.Refusal.{Refusal}
use Rattle.motion.specs.declared.units.Distance.{Distance}
use Rattle.motion.specs.Capacity.{max_contacts}
use Rattle.motion.proofs.ArgumentCode.{handed_on}
use Rattle.situation.specs.declared.party.Circumstances.{Circumstances}
use Rattle.manoeuvre.specs.declared.constraints.ManoeuvreConstraints.{ManoeuvreConstraints}
use Rattle.clearance.specs.Clearing.{floor_of, moving}
use Rattle.clearance.specs.declared.traffic.Entry.{Entry}
use Rattle.clearance.specs.Traffic.{target_of, targets}
use Rattle.ruled_search.specs.Held.{HeldArguments}
use Rattle.ruled_search.specs.Ruled.{chosen_answer}
use Rattle.ruled_search.proofs.Accepted as Accepted
use Rattle.ruled_search.proofs.HeldThere.{is_held}
use Rattle.ruled_search.proofs.RuledCode.{is_good, is_bad}
use Rattle.slowing_search.specs.declared.SlowingManoeuvre.{SlowingManoeuvre}
use Rattle.slowing_search.specs.Computed.{smallest}
use Rattle.slowing_search.specs.Slowing.{trial_speeds, manoeuvre_of}
use Rattle.slowing_search.proofs.SlowingCode.{Owed, refused, no_side, searched}
use Rattle.slowing_search.proofs.slowing_search.Goals.{then-sides, else-sides}
use Rattle.slowing_search.proofs.slowing_search.Goals as goal

-- what an answer owes
abbrev Owes : Circumstances → List Entry → Distance → ManoeuvreConstraints → Result SlowingManoeuvre Refusal → Type 0
Owes around t desired c r = Owed around.own (length t) t around.visibility around.wind_from desired c r

-- ---- with a side
held : (c : goal.After-chosen_answer) → HeldArguments c.args.around.own c.args.t.now c.args.constraints
held c = record {
  vessel = record { course = is_held c.well_formed.0.1.1.0.1.1.0.1.1.0.1.1.0.1; speed = is_held c.well_formed.0.1.1.0.1.1.0.1.1.1.0.1.1.0.1 };
  each = c.in_ok-check_arguments.ensures.held;
  least = is_held c.well_formed.1.1.1.0.1.1.1.0.1.1.0.1;
  most = is_held c.well_formed.1.1.1.0.1.1.1.1.0.1.1.0.1;
}

-- what is asked: whether a side is shared
asked : (c : goal.After-chosen_answer) → c.if-sides.ensure ≡ c.shared_sides-sides.result.starboard || c.shared_sides-sides.result.port
asked c = elim c.if-sides.branch [ then-sides w ↦ search rules | else-sides w ↦ search rules ]

owed : (c : goal.After-chosen_answer) → Owes c.args.around c.args.t.now c.args.desired c.args.constraints c.chosen_answer.result
unfolding targets
owed c =
    searched _ _ _ _ _ _ _ (held c) c.in_ok-check_arguments.ensures.checked _ c.shared_sides-sides.ensures
    (sym (asked c) ∙ is_good _ _ c.in_ok-ensure.ensures) _
    (c.chosen_answer.ensures ∙ ap (chosen_answer (manoeuvre_of c.args.around.own.motion c.args.constraints)) c.chosen_pair.ensures
    ∙ ap (λ es. chosen_answer (manoeuvre_of c.args.around.own.motion c.args.constraints)
    (smallest c.args.around.own.motion (floor_of c.args.desired) (map moving (map target_of es)) c.shared_sides-sides.result
    (trial_speeds c.args.around.own.motion.speed true) c.args.constraints.least_alteration.0 c.args.constraints.most_alteration.0))
    (take_all max_contacts c.args.t.now (Accepted.few _ _ _ _ _ _ (sym c.in_ok-check_arguments.ensures.checked))))

pub returns : goal.returns
returns c = record { is = (owed c).is; pairs = (owed c).pairs; beside = (owed c).beside }

-- ---- without
held_2 : (c : goal.After-from_residual-in_err-ensure) → HeldArguments c.args.around.own c.args.t.now c.args.constraints
held_2 c = record {
  vessel = record { course = is_held c.well_formed.0.1.1.0.1.1.0.1.1.0.1.1.0.1; speed = is_held c.well_formed.0.1.1.0.1.1.0.1.1.1.0.1.1.0.1 };
  each = c.in_ok-check_arguments.ensures.held;
  least = is_held c.well_formed.1.1.1.0.1.1.1.0.1.1.0.1;
  most = is_held c.well_formed.1.1.1.0.1.1.1.1.0.1.1.0.1;
}

asked_2 : (c : goal.After-from_residual-in_err-ensure) → c.if-sides.ensure ≡ c.shared_sides-sides.result.starboard || c.shared_sides-sides.result.port
asked_2 c = elim c.if-sides.branch [ then-sides w ↦ search rules | else-sides w ↦ search rules ]

owed_2 : (c : goal.After-from_residual-in_err-ensure) → Owes c.args.around c.args.t.now c.args.desired c.args.constraints c.from_residual-in_err-ensure.result
owed_2 c =
    let bad = is_bad _ _ _ c.in_err-ensure.ensures in
    no_side _ _ _ _ _ _ _ (held_2 c) c.in_ok-check_arguments.ensures.checked _ c.shared_sides-sides.ensures (sym (asked_2 c) ∙ bad.0) _
    (handed_on _ _ c.from_residual-in_err-ensure.ensures.1 ∙ ap Err bad.1)

pub returns-in_err-ensure : goal.returns-in_err-ensure
returns-in_err-ensure c = record { is = (owed_2 c).is; pairs = (owed_2 c).pairs; beside = (owed_2 c).beside }

-- ---- refused
owed_3 : (c : goal.After-from_residual) → Owes c.args.around c.args.t.now c.args.desired c.args.constraints c.from_residual.result
owed_3 c = subst (Owed _ _ _ _ _ _ _) (sym (handed_on _ _ c.from_residual.ensures.1)) (refused _ _ _ _ _ _ _ _ c.in_err-check_arguments.ensures.checked)

pub returns-in_err-check_arguments : goal.returns-in_err-check_arguments
returns-in_err-check_arguments c = record { is = (owed_3 c).is; pairs = (owed_3 c).pairs; beside = (owed_3 c).beside }
