use mathlib.Core.Path.{◌≡◌, refl, sym, ap, ◌∙◌}
use mathlib.Core.Bool.{◌||◌}
use Rattle.std.specs.Prelude.{Err}
use Rattle.std.proofs.Common.{rules}
use mathlib.Core.List.{map}
use lib.Seq.{take_all}
use Rattle.motion.specs.Capacity.{max_contacts}
use Rattle.clearance.specs.Clearing.{moving}
use Rattle.clearance.specs.Traffic.{target_of, targets}
use Rattle.ruled_search.specs.Held.{HeldArguments}
use Rattle.ruled_search.proofs.Accepted as Accepted
use Rattle.motion.proofs.ArgumentCode.{handed_on}
use Rattle.ruled_search.proofs.HeldThere.{is_held}
use Rattle.ruled_search.proofs.RuledCode.{is_good, is_bad, no_side, searched, accepted, refused}
use Rattle.ruled_search.proofs.ruled_search.Goals.{then-sides, else-sides}
use Rattle.ruled_search.proofs.ruled_search.Goals as goal

-- the scene has all contacts
scene_is : (c : goal.After-chosen_answer) → c.scene_of-scene.result.items ≡ map moving (map target_of c.args.t.now)
unfolding targets
scene_is c = c.scene_of-scene.ensures ∙ ap (λ es. map moving (map target_of es)) (take_all max_contacts c.args.t.now (Accepted.few _ _ _ _ _ _ (sym c.in_ok-check_arguments.ensures.checked)))

held : (c : goal.After-chosen_answer) → HeldArguments c.args.around.own c.args.t.now c.args.constraints
held c = record {
  vessel = record { course = is_held c.well_formed.0.1.1.0.1.1.0.1.1.0.1.1.0.1; speed = is_held c.well_formed.0.1.1.0.1.1.0.1.1.1.0.1.1.0.1 };
  each = c.in_ok-check_arguments.ensures.held;
  least = is_held c.well_formed.1.1.1.0.1.1.1.0.1.1.0.1;
  most = is_held c.well_formed.1.1.1.0.1.1.1.1.0.1.1.0.1;
}

-- what is asked: whether a side is shared
asked : (c : goal.After-chosen_answer) → c.if-sides.ensure ≡ c.shared_sides-sides.result.starboard || c.shared_sides-sides.result.port
asked c = elim c.if-sides.branch [ then-sides w ↦ search rules | else-sides w ↦ search rules ]

pub returns : goal.returns
returns c = accepted _ _ _ _ _ _ _ (held c) _ c.in_ok-check_arguments.ensures.checked refl _
    (searched _ _ _ _ _ _ _ c.shared_sides-sides.ensures (sym (asked c) ∙ is_good _ _ c.in_ok-ensure.ensures) _ _ _ _ _ c.trials.ensures.least
    c.trials.ensures.most (c.deref.ensures.0 ∙ scene_is c)
    (rw (c.new-search.ensures.own, c.new-search.ensures.floor, c.new-search.ensures.scene) at c.smallest-choice.ensures) c.chosen_answer.ensures)

held_2 : (c : goal.After-from_residual-in_err-ensure) → HeldArguments c.args.around.own c.args.t.now c.args.constraints
held_2 c = record {
  vessel = record { course = is_held c.well_formed.0.1.1.0.1.1.0.1.1.0.1.1.0.1; speed = is_held c.well_formed.0.1.1.0.1.1.0.1.1.1.0.1.1.0.1 };
  each = c.in_ok-check_arguments.ensures.held;
  least = is_held c.well_formed.1.1.1.0.1.1.1.0.1.1.0.1;
  most = is_held c.well_formed.1.1.1.0.1.1.1.1.0.1.1.0.1;
}

asked_2 : (c : goal.After-from_residual-in_err-ensure) → c.if-sides.ensure ≡ c.shared_sides-sides.result.starboard || c.shared_sides-sides.result.port
asked_2 c = elim c.if-sides.branch [ then-sides w ↦ search rules | else-sides w ↦ search rules ]

pub returns-in_err-ensure : goal.returns-in_err-ensure
returns-in_err-ensure c =
    let bad = is_bad _ _ _ c.in_err-ensure.ensures in
    accepted _ _ _ _ _ _ _ (held_2 c) _ c.in_ok-check_arguments.ensures.checked refl _
    (handed_on _ _ c.from_residual-in_err-ensure.ensures.1 ∙ ap Err bad.1 ∙ no_side _ _ _ _ _ _ _ c.shared_sides-sides.ensures (sym (asked_2 c) ∙ bad.0))

pub returns-in_err-check_arguments : goal.returns-in_err-check_arguments
returns-in_err-check_arguments c = rw (handed_on _ _ c.from_residual.ensures.1) (refused _ _ _ _ _ _ _ _ c.in_err-check_arguments.ensures.checked)
