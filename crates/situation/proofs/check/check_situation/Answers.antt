use Rattle.motion.specs.Check.{contact_checks}
use Rattle.situation.specs.Arguments.{party_checks, situation_checks}
use Rattle.motion.proofs.ArgumentCode.{refused_by, accepted}
use Rattle.situation.proofs.check.check_situation.Goals as goal

pub returns-in_err-check_party : goal.returns-in_err-check_party
unfolding situation_checks
returns-in_err-check_party c = refused_by (party_checks c.args.s.own) _ _ _ _ c.from_residual.ensures.1 c.in_err-check_party.ensures

pub returns-in_err-check_contact : goal.returns-in_err-check_contact
unfolding situation_checks
returns-in_err-check_contact c = accepted (party_checks c.args.s.own) _ _ _ c.in_ok-check_party.ensures (refused_by (contact_checks c.args.s.contact) _ _ _ _ c.from_residual-in_err-check_contact.ensures.1 c.in_err-check_contact.ensures)

pub returns-in_err-check_party-2 : goal.returns-in_err-check_party-2
unfolding situation_checks
returns-in_err-check_party-2 c = accepted (party_checks c.args.s.own) _ _ _ c.in_ok-check_party.ensures (accepted (contact_checks c.args.s.contact) _ _ _ c.in_ok-check_contact.ensures (refused_by (party_checks c.args.s.target) _ _ _ _ c.from_residual-in_err-check_party-2.ensures.1 c.in_err-check_party-2.ensures))

pub returns : goal.returns
unfolding situation_checks
returns c = accepted (party_checks c.args.s.own) _ _ _ c.in_ok-check_party.ensures (accepted (contact_checks c.args.s.contact) _ _ _ c.in_ok-check_contact.ensures (accepted (party_checks c.args.s.target) _ _ _ c.in_ok-check_party-2.ensures c.check_optional.ensures))
