use Rattle.motion.specs.Check.{vessel_checks, contact_checks}
use Rattle.relative_motion.specs.Plot.{plot_verdict, plot_checks}
use Rattle.motion.proofs.ArgumentCode.{refused_by, accepted}
use Rattle.relative_motion.proofs.plot.check_plots.Goals as goal

pub returns-in_err-check_vessel : goal.returns-in_err-check_vessel
unfolding plot_verdict plot_checks
returns-in_err-check_vessel c = refused_by (vessel_checks c.args.own) _ _ _ _ c.from_residual.ensures.1 c.in_err-check_vessel.ensures

pub returns-in_err-check_contact : goal.returns-in_err-check_contact
unfolding plot_verdict plot_checks
returns-in_err-check_contact c = accepted (vessel_checks c.args.own) _ _ _ c.in_ok-check_vessel.ensures (refused_by (contact_checks c.args.first) _ _ _ _ c.from_residual-in_err-check_contact.ensures.1 c.in_err-check_contact.ensures)

pub returns-in_err-check_contact-2 : goal.returns-in_err-check_contact-2
unfolding plot_verdict plot_checks
returns-in_err-check_contact-2 c = accepted (vessel_checks c.args.own) _ _ _ c.in_ok-check_vessel.ensures (accepted (contact_checks c.args.first) _ _ _ c.in_ok-check_contact.ensures (refused_by (contact_checks c.args.second) _ _ _ _ c.from_residual-in_err-check_contact-2.ensures.1 c.in_err-check_contact-2.ensures))

pub returns : goal.returns
unfolding plot_verdict plot_checks
returns c = accepted (vessel_checks c.args.own) _ _ _ c.in_ok-check_vessel.ensures (accepted (contact_checks c.args.first) _ _ _ c.in_ok-check_contact.ensures (accepted (contact_checks c.args.second) _ _ _ c.in_ok-check_contact-2.ensures (rw c.is_accepted.ensures at c.ensure.ensures)))
