use mathlib.Core.Path.{◌≡◌, refl, sym, subst, ◌∙◌}
use mathlib.Core.Bool.{Bool, true}
use lib.Dec.{T}
use Rattle.motion.proofs.ArgumentCode.{handed_on}
use Rattle.avoidance.proofs.Seeded.{HeldEncounter, accepted, refused}
use Rattle.avoidance.proofs.avoid.Goals as goal

is_held : {b : Bool} → b ≡ true → T b
is_held e = subst T (sym e) tt

held : (c : goal.After-avoided) → HeldEncounter c.args.own c.args.contact c.args.target c.args.constraints
held c = record {
  vessel = record { course = is_held c.well_formed.0.1.1.0.1.1.0.1; speed = is_held c.well_formed.0.1.1.1.0.1.1.0.1 };
  seen = record { bearing = is_held c.well_formed.1.0.1.1.0.1.1.0.1; range = is_held c.well_formed.1.0.1.1.1.0.1.1.0.1 };
  other = record { course = is_held c.well_formed.1.1.0.1.1.0.1.1.0.1; speed = is_held c.well_formed.1.1.0.1.1.1.0.1.1.0.1 };
  least = is_held c.well_formed.1.1.1.1.0.1.1.1.0.1.1.0.1;
  most = is_held c.well_formed.1.1.1.1.0.1.1.1.1.0.1.1.0.1;
}

pub returns : goal.returns
returns c = accepted _ _ _ _ _ (held c) _ c.in_ok-check_arguments.ensures refl _ c.avoided.ensures

held_2 : (c : goal.After-from_residual) → HeldEncounter c.args.own c.args.contact c.args.target c.args.constraints
held_2 c = record {
  vessel = record { course = is_held c.well_formed.0.1.1.0.1.1.0.1; speed = is_held c.well_formed.0.1.1.1.0.1.1.0.1 };
  seen = record { bearing = is_held c.well_formed.1.0.1.1.0.1.1.0.1; range = is_held c.well_formed.1.0.1.1.1.0.1.1.0.1 };
  other = record { course = is_held c.well_formed.1.1.0.1.1.0.1.1.0.1; speed = is_held c.well_formed.1.1.0.1.1.1.0.1.1.0.1 };
  least = is_held c.well_formed.1.1.1.1.0.1.1.1.0.1.1.0.1;
  most = is_held c.well_formed.1.1.1.1.0.1.1.1.1.0.1.1.0.1;
}

pub returns-in_err-check_arguments : goal.returns-in_err-check_arguments
returns-in_err-check_arguments c = handed_on _ _ c.from_residual.ensures.1 ∙ refused _ _ _ _ _ (held_2 c) _ c.in_err-check_arguments.ensures _ refl
