use lib.ListN.{length}
use Rattle.motion.specs.Check.{distance_checks}
use Rattle.situation.specs.Arguments.{party_checks, optional_checks}
use Rattle.clearance.specs.Traffic.{count_checks, contacts_checks}
use Rattle.ruled_search.specs.Ruled.{ruled_checks}
use Rattle.motion.proofs.ArgumentCode.{refused_by, accepted}
use Rattle.ruled_search.proofs.check_arguments.Goals as goal

pub returns-in_err-check_count-clause-checked : goal.returns-in_err-check_count-clause-checked
unfolding ruled_checks
returns-in_err-check_count-clause-checked c = refused_by (count_checks (length c.args.t.now)) _ _ _ _ c.from_residual.ensures.1 c.in_err-check_count.ensures

pub returns-in_err-check_party-clause-checked : goal.returns-in_err-check_party-clause-checked
unfolding ruled_checks
returns-in_err-check_party-clause-checked c = accepted (count_checks (length c.args.t.now)) _ _ _ c.in_ok-check_count.ensures (refused_by (party_checks c.args.around.own) _ _ _ _ c.from_residual-in_err-check_party.ensures.1 c.in_err-check_party.ensures)

pub returns-in_err-check_contacts-clause-checked : goal.returns-in_err-check_contacts-clause-checked
unfolding ruled_checks
returns-in_err-check_contacts-clause-checked c = accepted (count_checks (length c.args.t.now)) _ _ _ c.in_ok-check_count.ensures (accepted (party_checks c.args.around.own) _ _ _ c.in_ok-check_party.ensures (refused_by (contacts_checks c.args.t.now) _ _ _ _ c.from_residual-in_err-check_contacts.ensures.1 c.in_err-check_contacts.ensures.checked))

pub returns-in_err-check_optional-clause-checked : goal.returns-in_err-check_optional-clause-checked
unfolding ruled_checks
returns-in_err-check_optional-clause-checked c = accepted (count_checks (length c.args.t.now)) _ _ _ c.in_ok-check_count.ensures (accepted (party_checks c.args.around.own) _ _ _ c.in_ok-check_party.ensures (accepted (contacts_checks c.args.t.now) _ _ _ c.in_ok-check_contacts.ensures.checked (refused_by (optional_checks c.args.around.wind_from) _ _ _ _ c.from_residual-in_err-check_optional.ensures.1 c.in_err-check_optional.ensures)))

pub returns-in_err-check_distance-clause-checked : goal.returns-in_err-check_distance-clause-checked
unfolding ruled_checks
returns-in_err-check_distance-clause-checked c = accepted (count_checks (length c.args.t.now)) _ _ _ c.in_ok-check_count.ensures (accepted (party_checks c.args.around.own) _ _ _ c.in_ok-check_party.ensures (accepted (contacts_checks c.args.t.now) _ _ _ c.in_ok-check_contacts.ensures.checked (accepted (optional_checks c.args.around.wind_from) _ _ _ c.in_ok-check_optional.ensures (refused_by (distance_checks c.args.desired) _ _ _ _ c.from_residual-in_err-check_distance.ensures.1 c.in_err-check_distance.ensures))))

pub returns-clause-checked : goal.returns-clause-checked
unfolding ruled_checks
returns-clause-checked c = accepted (count_checks (length c.args.t.now)) _ _ _ c.in_ok-check_count.ensures (accepted (party_checks c.args.around.own) _ _ _ c.in_ok-check_party.ensures (accepted (contacts_checks c.args.t.now) _ _ _ c.in_ok-check_contacts.ensures.checked (accepted (optional_checks c.args.around.wind_from) _ _ _ c.in_ok-check_optional.ensures (accepted (distance_checks c.args.desired) _ _ _ c.in_ok-check_distance.ensures c.check_constraints.ensures))))
