use Rattle.motion.specs.Check.{encounter_checks, distance_checks}
use Rattle.avoidance.specs.Avoid.{avoid_checks}
use Rattle.motion.proofs.ArgumentCode.{refused_by, accepted}
use Rattle.avoidance.proofs.check_arguments.Goals as goal

pub returns-in_err-check_encounter : goal.returns-in_err-check_encounter
unfolding avoid_checks
returns-in_err-check_encounter c = refused_by (encounter_checks c.args.own c.args.contact c.args.target) _ _ _ _ c.from_residual.ensures.1 c.in_err-check_encounter.ensures

pub returns-in_err-check_distance : goal.returns-in_err-check_distance
unfolding avoid_checks
returns-in_err-check_distance c = accepted (encounter_checks c.args.own c.args.contact c.args.target) _ _ _ c.in_ok-check_encounter.ensures (refused_by (distance_checks c.args.desired) _ _ _ _ c.from_residual-in_err-check_distance.ensures.1 c.in_err-check_distance.ensures)

pub returns : goal.returns
unfolding avoid_checks
returns c = accepted (encounter_checks c.args.own c.args.contact c.args.target) _ _ _ c.in_ok-check_encounter.ensures (accepted (distance_checks c.args.desired) _ _ _ c.in_ok-check_distance.ensures c.check_constraints.ensures)
