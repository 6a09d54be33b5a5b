use Rattle.motion.specs.Check.{contact_checks}
use Rattle.clearance.specs.Traffic.{entry_checks}
use Rattle.motion.proofs.ArgumentCode.{refused_by, accepted}
use Rattle.clearance.proofs.Held.{entry_held}
use Rattle.clearance.proofs.traffic.check_entry.Goals as goal

pub returns-in_err-check_contact : goal.returns-in_err-check_contact
unfolding entry_checks
returns-in_err-check_contact c = record { checked = refused_by (contact_checks c.args.e.contact) _ _ _ _ c.from_residual.ensures.1 c.in_err-check_contact.ensures; held = entry_held _ _ c.well_formed.0 }

pub returns : goal.returns
unfolding entry_checks
returns c = record { checked = accepted (contact_checks c.args.e.contact) _ _ _ c.in_ok-check_contact.ensures c.check_party.ensures; held = entry_held _ _ c.well_formed.0 }
