use Rattle.motion.specs.Check.{vessel_checks, distance_checks}
use Rattle.situation.specs.Arguments.{optional_checks}
use Rattle.manoeuvre.specs.Constraints.{alteration_checks}
use Rattle.sheet.specs.Values.{scaled, own_of, wind_from}
use Rattle.sheet.specs.Sheet.{limit_checks, value_checks}
use Rattle.motion.proofs.ArgumentCode.{refused_by, accepted}
use Rattle.sheet.proofs.SheetCode.{turn_accepted, turn_refused, limits_accepted, limits_refused}
use Rattle.sheet.proofs.check_values.Goals as goal

pub returns-in_err-check_vessel : goal.returns-in_err-check_vessel
unfolding value_checks
returns-in_err-check_vessel c = refused_by (vessel_checks (own_of c.args.h).motion) _ _ _ _ c.from_residual.ensures.1 (rw c.own_of-own.ensures at c.in_err-check_vessel.ensures)

pub returns-in_err-check_distance : goal.returns-in_err-check_distance
unfolding value_checks
returns-in_err-check_distance c = accepted (vessel_checks (own_of c.args.h).motion) _ _ _ (rw c.own_of-own.ensures at c.in_ok-check_vessel.ensures) (refused_by (distance_checks (record { 0 = scaled c.args.h.desired })) _ _ _ _ c.from_residual-in_err-check_distance.ensures.1 (rw c.scaled.ensures at c.in_err-check_distance.ensures))

pub returns-in_err-constraints_of : goal.returns-in_err-constraints_of
unfolding value_checks
returns-in_err-constraints_of c = accepted (vessel_checks (own_of c.args.h).motion) _ _ _ (rw c.own_of-own.ensures at c.in_ok-check_vessel.ensures) (accepted (distance_checks (record { 0 = scaled c.args.h.desired })) _ _ _ (rw c.scaled.ensures at c.in_ok-check_distance.ensures) (refused_by (alteration_checks (record { 0 = scaled c.args.h.least }) (record { 0 = scaled c.args.h.most })) _ _ _ _ c.from_residual-in_err-constraints_of.ensures.1 (turn_refused c.args.h _ c.in_err-constraints_of.ensures)))

pub returns-in_err-policy_of : goal.returns-in_err-policy_of
unfolding value_checks
returns-in_err-policy_of c = accepted (vessel_checks (own_of c.args.h).motion) _ _ _ (rw c.own_of-own.ensures at c.in_ok-check_vessel.ensures) (accepted (distance_checks (record { 0 = scaled c.args.h.desired })) _ _ _ (rw c.scaled.ensures at c.in_ok-check_distance.ensures) (accepted (alteration_checks (record { 0 = scaled c.args.h.least }) (record { 0 = scaled c.args.h.most })) _ _ _ (turn_accepted c.args.h _ c.in_ok-constraints_of.ensures) (refused_by (limit_checks c.args.h) _ _ _ _ c.from_residual-in_err-policy_of.ensures.1 (limits_refused c.args.h _ c.in_err-policy_of.ensures))))

pub returns-in_err-check_optional : goal.returns-in_err-check_optional
unfolding value_checks
returns-in_err-check_optional c = accepted (vessel_checks (own_of c.args.h).motion) _ _ _ (rw c.own_of-own.ensures at c.in_ok-check_vessel.ensures) (accepted (distance_checks (record { 0 = scaled c.args.h.desired })) _ _ _ (rw c.scaled.ensures at c.in_ok-check_distance.ensures) (accepted (alteration_checks (record { 0 = scaled c.args.h.least }) (record { 0 = scaled c.args.h.most })) _ _ _ (turn_accepted c.args.h _ c.in_ok-constraints_of.ensures) (accepted (limit_checks c.args.h) _ _ _ (limits_accepted c.args.h _ c.in_ok-policy_of.ensures) (refused_by (optional_checks (wind_from c.args.h)) _ _ _ _ c.from_residual-in_err-check_optional.ensures.1 (rw c.wind_from-wind.ensures at c.in_err-check_optional.ensures)))))

pub returns : goal.returns
unfolding value_checks
returns c = accepted (vessel_checks (own_of c.args.h).motion) _ _ _ (rw c.own_of-own.ensures at c.in_ok-check_vessel.ensures) (accepted (distance_checks (record { 0 = scaled c.args.h.desired })) _ _ _ (rw c.scaled.ensures at c.in_ok-check_distance.ensures) (accepted (alteration_checks (record { 0 = scaled c.args.h.least }) (record { 0 = scaled c.args.h.most })) _ _ _ (turn_accepted c.args.h _ c.in_ok-constraints_of.ensures) (accepted (limit_checks c.args.h) _ _ _ (limits_accepted c.args.h _ c.in_ok-policy_of.ensures) (accepted (optional_checks (wind_from c.args.h)) _ _ _ (rw c.wind_from-wind.ensures at c.in_ok-check_optional.ensures) c.check_contacts.ensures.checked))))
