-- What it means that a sheet is accepted: every check is good, and with them those of the functions that are asked.
use Rattle.std.specs.Prelude.{Err, Ok}
use mathlib.Core.Path.{◌≡◌, sym, ap}
use mathlib.Core.Bool.{Bool, true, false, true≢false}
use mathlib.Core.List.{List, [], ◌++◌, map}
use Prim.Native.Nat.{ℕ}
use lib.Dec.{le→leb}
use lib.ListN.{length}
use Rattle.std.specs.declared.result.Result.{Result}
use Rattle.elementary.specs.declared.error.Refusal.{Refusal}
use Rattle.motion.specs.Check.{Check, verdict, vessel_checks, distance_checks}
use Rattle.situation.specs.Arguments.{optional_checks, party_checks}
use Rattle.manoeuvre.specs.Constraints.{alteration_checks, constraint_checks}
use Rattle.motion.specs.Capacity.{max_contacts}
use Rattle.clearance.specs.declared.traffic.Entry.{Entry}
use Rattle.clearance.specs.Traffic.{contacts_checks}
use Rattle.relative_motion.specs.Sound.{AllGood}
use Rattle.relative_motion.proofs.Sizes.{all_good}
use Rattle.avoidance.proofs.Accepting.{good_front, good_back, good_both}
use Rattle.ruled_search.specs.Ruled.{ruled_checks}
use Rattle.sheet_record.specs.Word.{words}
use Rattle.sheet_record.specs.declared.Header.{Header}
use Rattle.sheet_record.specs.declared.Row.{Row}
use Rattle.sheet_record.specs.Record.{header_of, rows_of, readable}
use Rattle.sheet_record.proofs.RecordCode.{few-rows}
use Rattle.sheet.specs.Values.{scaled, own_of, party_of, wind_from, entry_of}
use Rattle.sheet.specs.Sheet.{code_checks, limit_checks, value_checks, if_readable, sheet_verdict}
use Rattle.report.specs.Plain.{constraints, desired}

abbrev accepts : Result (Unit {0}) Refusal → Bool
accepts (Ok tt) = true
accepts (Err why) = false

-- with a layout that is right the values' verdict decides
values_decide : (r : Result (Unit {0}) Refusal) (v : Result (Unit {0}) Refusal) → if_readable r v ≡ (Ok tt) → v ≡ (Ok tt)
values_decide (Ok tt) v e = e
values_decide (Err why) v e = absurd (true≢false (sym (ap accepts e)))

module _ (s : List ℕ) (ok : sheet_verdict s ≡ (Ok tt)) where
  abbrev h : Header
  h = header_of (words s)

  abbrev rs : List Row
  rs = rows_of (words s)

  abbrev es : List Entry
  es = map entry_of rs

  values_good : AllGood (value_checks h es)
  unfolding sheet_verdict
  values_good = good_back (code_checks h rs) (value_checks h es) (all_good (code_checks h rs ++ value_checks h es) (values_decide (readable s) (verdict (code_checks h rs ++ value_checks h es) (Ok tt)) ok))

  -- the checks from the desired distance on, from the alterations on, from the limits on
  abbrev from_limits : List Check
  from_limits = limit_checks h ++ (optional_checks (wind_from h) ++ contacts_checks es)

  abbrev alterations : List Check
  alterations = alteration_checks (record { 0 = scaled h.least }) (record { 0 = scaled h.most })

  abbrev from_desired : List Check
  from_desired = distance_checks (desired h) ++ (alterations ++ from_limits)

  own_good : AllGood (vessel_checks (own_of h).motion)
  unfolding value_checks
  own_good = good_front (vessel_checks (own_of h).motion) from_desired values_good

  after_own : AllGood from_desired
  unfolding value_checks
  after_own = good_back (vessel_checks (own_of h).motion) from_desired values_good

  desired_good : AllGood (distance_checks (desired h))
  desired_good = good_front (distance_checks (desired h)) (alterations ++ from_limits) after_own

  after-desired : AllGood (alterations ++ from_limits)
  after-desired = good_back (distance_checks (desired h)) (alterations ++ from_limits) after_own

  pub alterations_good : AllGood alterations
  alterations_good = good_front alterations from_limits after-desired

  after_alterations : AllGood from_limits
  after_alterations = good_back alterations from_limits after-desired

  pub limits_good : AllGood (limit_checks h)
  limits_good = good_front (limit_checks h) (optional_checks (wind_from h) ++ contacts_checks es) after_alterations

  after_limits : AllGood (optional_checks (wind_from h) ++ contacts_checks es)
  after_limits = good_back (limit_checks h) (optional_checks (wind_from h) ++ contacts_checks es) after_alterations

  wind_good : AllGood (optional_checks (wind_from h))
  wind_good = good_front (optional_checks (wind_from h)) (contacts_checks es) after_limits

  contacts_good : AllGood (contacts_checks es)
  contacts_good = good_back (optional_checks (wind_from h)) (contacts_checks es) after_limits

  -- a party without a heading is her motion
  party_good : AllGood (party_checks (own_of h))
  unfolding party_checks own_of party_of
  party_good = good_both (vessel_checks (own_of h).motion) [] own_good tt

  constraints_good : AllGood (constraint_checks (constraints h))
  unfolding constraint_checks
  constraints_good = good_both alterations [] alterations_good tt

  -- so the ruled search accepts its arguments
  pub ruled_good : AllGood (ruled_checks (own_of h) (length rs) es (wind_from h) (desired h) (constraints h))
  unfolding ruled_checks
  ruled_good =
      let turn = distance_checks (desired h) ++ constraint_checks (constraints h) in
      let winds = optional_checks (wind_from h) in (
        le→leb (length rs) max_contacts (few-rows (words s)),
        good_both (party_checks (own_of h)) (contacts_checks es ++ (winds ++ turn)) party_good
            (good_both (contacts_checks es) (winds ++ turn) contacts_good (good_both winds turn wind_good (good_both (distance_checks (desired h)) (constraint_checks (constraints h)) desired_good constraints_good))),
      )
