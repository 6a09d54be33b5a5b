use Rattle.motion.specs.Check.{vessel_checks, contact_checks, encounter_checks}
use Rattle.motion.proofs.ArgumentCode.{refused_by, accepted}
use Rattle.motion.proofs.argument.check_encounter.Goals as goal

pub returns-in_err-check_vessel : goal.returns-in_err-check_vessel
unfolding encounter_checks
returns-in_err-check_vessel c = refused_by (vessel_checks c.args.own) _ _ _ _ c.from_residual.ensures.1 c.in_err-check_vessel.ensures

pub returns-in_err-check_contact : goal.returns-in_err-check_contact
unfolding encounter_checks
returns-in_err-check_contact c = accepted (vessel_checks c.args.own) _ _ _ c.in_ok-check_vessel.ensures (refused_by (contact_checks c.args.contact) _ _ _ _ c.from_residual-in_err-check_contact.ensures.1 c.in_err-check_contact.ensures)

pub returns : goal.returns
unfolding encounter_checks
returns c = accepted (vessel_checks c.args.own) _ _ _ c.in_ok-check_vessel.ensures (accepted (contact_checks c.args.contact) _ _ _ c.in_ok-check_contact.ensures c.check_vessel-2.ensures)
