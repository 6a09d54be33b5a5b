-- On an accepted sheet the report has a plain line for each contact, and the answer of the ruled search, which meets demand 3.
use Rattle.std.specs.Prelude.{None, Some, Err, Ok}
use mathlib.Core.Path.{◌≡◌, refl, ap, ◌∙◌, subst}
use mathlib.Core.Bool.{Bool, true, false, ◌||◌, cond}
use mathlib.Core.Logic.{◌⊎◌, inl, inr}
use mathlib.Core.List.Memᴰ
use mathlib.Core.List.{List, [], ◌∷◌, ◌++◌, map, flat_map, Memᴰ}
use Prim.Native.Nat.{ℕ}
use lib.Dec.{T}
use lib.ListN.{length}
use lib.IntN.{pos}
use lib.Ieee.{binary64, fits, of_int}
use lib.Ieee.Fits.{div-fits}
use Rattle.elementary.specs.declared.error.Refusal.{Refusal}
use Rattle.elementary.specs.declared.error.Refusal.TheVariants as Why
use Rattle.motion.specs.declared.vessel.Vessel.{Vessel}
use Rattle.avoidance.specs.declared.search.Chosen.{Chosen}
use Rattle.std.specs.declared.option.Option.{Option}
use Rattle.std.specs.declared.result.Result.{Result}
use Rattle.ruled_search.specs.declared.RuledManoeuvre.{RuledManoeuvre}
use Rattle.motion.specs.Check.{verdict, vessel_checks, contact_checks, encounter_checks}
use Rattle.relative_motion.specs.Approach.{approach, cpa_if_accepted, cpa_answer}
use Rattle.assessment.specs.Policy.{policy_checks, policy_if_accepted, policy_answer}
use Rattle.situation.specs.declared.party.Visibility.{Visibility}
use Rattle.situation.specs.Situation.{standard}
use Rattle.colregs.specs.Geometry.{geometry_of}
use Rattle.colregs.specs.Colregs.{ruling_of, ruling_answer}
use Rattle.colregs.proofs.Settled.{settled}
use Rattle.manoeuvre.specs.declared.constraints.ManoeuvreConstraints.{ManoeuvreConstraints}
use Rattle.manoeuvre.specs.Constraints.{alteration_checks, constraints_if_accepted, constraints_answer}
use Rattle.motion.specs.declared.side.BySide.{BySide}
use Rattle.avoidance.specs.Search.{search}
use Rattle.clearance.specs.declared.traffic.Entry.{Entry}
use Rattle.clearance.specs.Traffic.{target_of}
use Rattle.relative_motion.specs.Sound.{HeldVessel}
use Rattle.avoidance.proofs.Accepting.{good_both}
use Rattle.avoidance.proofs.Prepared.{accepted}
use Rattle.ruled_search.specs.Demand3.{OnAccepted}
use Rattle.ruled_search.specs.Ruled.{situation_of, shared_sides, ruled_checks, manoeuvre_of, chosen_answer, answered, ruled, ruled_if_accepted, ruled_answer}
use Rattle.ruled_search.specs.Held.{HeldEntry, HeldArguments}
use Rattle.ruled_search.proofs.Accepted as Ruling
use Rattle.ruled_search.proofs.Demanded.{demanded}
use Rattle.sheet_record.specs.Word.{words}
use Rattle.sheet_record.specs.declared.Header.{Header}
use Rattle.sheet_record.specs.declared.Row.{Row}
use Rattle.sheet_record.specs.Record.{header_of, rows_of}
use Rattle.sheet.specs.Values.{scaled, visibility_of, vessel_of, party_of, own_of, wind_from, entry_of}
use Rattle.sheet.specs.Sheet.{sheet_verdict}
use Rattle.report.specs.Contacts.{line_if_answered, line_of, contact_lines}
use Rattle.report.specs.Report.{search_answer, answer_line, policy_of, constraints_of, lines_under, lines_of, lines_if_accepted, report}
use Rattle.report.specs.Plain.{policy, constraints, desired, row_situation, plain_line, plain_answer, AsReported}
use Rattle.report.proofs.Accepted.{alterations_good, limits_good, ruled_good}

-- ---- a sheet's numbers are f64s
number_fits : (n : ℕ) → T (fits binary64 (scaled n))
unfolding scaled
number_fits n = div-fits binary64 (of_int binary64 (pos n)) _

own_held : (h : Header) → HeldVessel (own_of h).motion
unfolding own_of party_of vessel_of
own_held h = record { course = number_fits h.course; speed = number_fits h.speed }

row-held : (r : Row) → HeldEntry (entry_of r)
unfolding entry_of party_of vessel_of
row-held r = record {
  contact = record { bearing = number_fits r.bearing; range = number_fits r.range };
  vessel = record { course = number_fits r.course; speed = number_fits r.speed };
}

held : (h : Header) (rs : List Row) → HeldArguments (own_of h) (map entry_of rs) (constraints h)
held h rs = record {
  vessel = own_held h;
  each = λ e m. let u = Memᴰ.of_map entry_of rs m in subst HeldEntry u.2 (row-held u.0);
  least = number_fits h.least;
  most = number_fits h.most;
}

-- ---- the ruled search refuses with 5 and 13 only
abbrev Expected : Result RuledManoeuvre Refusal → Type 0
Expected (Ok m) = Unit
Expected (Err why) = (why ≡ Why.NoTrialClears) ⊎ (why ≡ Why.NoSharedSide)

chosen_expected : (own : Vessel) (c : ManoeuvreConstraints) (choice : Option Chosen) → Expected (chosen_answer (manoeuvre_of own c) choice)
chosen_expected own c None = inl refl
chosen_expected own c (Some chosen) = tt

answered_expected : (own : Vessel) (c : ManoeuvreConstraints) (sides : BySide Bool) (choice : Option Chosen) → Expected (answered (manoeuvre_of own c) sides choice)
unfolding answered
answered_expected own c sides choice = go (sides.starboard || sides.port)
  where
    go : (b : Bool) → Expected (cond b (chosen_answer (manoeuvre_of own c) choice) (Err Why.NoSharedSide))
    go true = chosen_expected own c choice
    go false = inr refl

-- ---- lines that are the same for every row
same_lines : (f g : Row → List ℕ) (rs : List Row) → ((r : Row) → Memᴰ r rs → f r ≡ g r) → flat_map f rs ≡ flat_map g rs
unfolding flat_map
same_lines f g [] e = refl
same_lines f g (r ∷ rs) e = ap (λ l. l ++ flat_map f rs) (e r (Memᴰ.head refl)) ∙ ap (λ l. g r ++ l) (same_lines f g rs (λ x m. e x (Memᴰ.tail m)))

in_map : (r : Row) (rs : List Row) → Memᴰ r rs → Memᴰ (entry_of r) (map entry_of rs)
in_map r (x ∷ rs) (Memᴰ.head e) = Memᴰ.head (ap entry_of e)
in_map r (x ∷ rs) (Memᴰ.tail m) = Memᴰ.tail (in_map r rs m)
in_map r [] x' = elim x' [ ]

module _ (s : List ℕ) (ok : sheet_verdict s ≡ (Ok tt)) where
  abbrev h : Header
  h = header_of (words s)

  abbrev rs : List Row
  rs = rows_of (words s)

  abbrev visibility : Visibility
  visibility = visibility_of h.visibility

  search_accepted : verdict (ruled_checks (own_of h) (length rs) (map entry_of rs) (wind_from h) (desired h) (constraints h)) (Ok tt) ≡ (Ok tt)
  search_accepted = accepted (ruled_checks (own_of h) (length rs) (map entry_of rs) (wind_from h) (desired h) (constraints h)) (ruled_good s ok)

  -- ---- one contact
  module _ (r : Row) (m : Memᴰ r rs) where
    abbrev e : Entry
    e = entry_of r

    in-traffic : Memᴰ e (map entry_of rs)
    in-traffic = in_map r rs m

    approaches : cpa_answer (own_of h).motion e.contact e.target.motion ≡ Ok (approach (own_of h).motion e.contact e.target.motion)
    unfolding cpa_answer encounter_checks
    approaches =
        let g = Ruling.each_good (own_of h) (length rs) (map entry_of rs) (wind_from h) (desired h) (constraints h) search_accepted e in-traffic in
        ap (λ v. cpa_if_accepted v (approach (own_of h).motion e.contact e.target.motion))
        (accepted (encounter_checks (own_of h).motion e.contact e.target.motion)
        (good_both (vessel_checks (own_of h).motion) (contact_checks e.contact ++ vessel_checks e.target.motion)
        (Ruling.party-vessel (own_of h) (Ruling.own_good (own_of h) (length rs) (map entry_of rs) (wind_from h) (desired h) (constraints h) search_accepted))
        (good_both (contact_checks e.contact) (vessel_checks e.target.motion) g.0 (Ruling.party-vessel e.target g.1))))

    rules : ruling_answer (situation_of (own_of h) visibility (wind_from h) e) standard ≡ Ok (ruling_of standard (geometry_of (situation_of (own_of h) visibility (wind_from h) e)))
    rules = Ruling.ruled (own_of h) (length rs) (map entry_of rs) (wind_from h) (desired h) (constraints h) search_accepted visibility e in-traffic

    same_line : line_of (own_of h) visibility (wind_from h) (policy h) r ≡ plain_line h r
    unfolding line_of plain_line
    same_line =
        ap (λ a. line_if_answered r.id (policy h) a (ruling_answer (situation_of (own_of h) visibility (wind_from h) e) standard)) approaches
        ∙ ap (λ g. line_if_answered r.id (policy h) (Ok (approach (own_of h).motion e.contact e.target.motion)) g) rules

  all_lines : contact_lines (own_of h) visibility (wind_from h) (policy h) rs ≡ flat_map (plain_line h) rs
  unfolding contact_lines
  all_lines = same_lines (line_of (own_of h) visibility (wind_from h) (policy h)) (plain_line h) rs same_line

  -- ---- the answer
  same_answer : search_answer h rs (constraints h) ≡ plain_answer h rs
  unfolding search_answer ruled_answer
  same_answer = ap (λ v. ruled_if_accepted v (plain_answer h rs)) search_accepted

  demand : OnAccepted (own_of h) (map entry_of rs) visibility (wind_from h) (desired h) (constraints h) (plain_answer h rs)
  unfolding ruled_answer
  demand =
      subst (OnAccepted (own_of h) (map entry_of rs) visibility (wind_from h) (desired h) (constraints h)) (ap (λ v. ruled_if_accepted v (plain_answer h rs)) search_accepted)
      ((demanded (own_of h) (length rs) (map entry_of rs) visibility (wind_from h) (desired h) (constraints h) (held h rs)).accepted search_accepted)

  refusals : (why : Refusal) → plain_answer h rs ≡ Err why → (why ≡ Why.NoTrialClears) ⊎ (why ≡ Why.NoSharedSide)
  unfolding ruled
  refusals why q =
      let sides = shared_sides (own_of h) visibility (wind_from h) (map entry_of rs) in
      subst Expected q (answered_expected (own_of h).motion (constraints h) sides (search (own_of h).motion (map target_of (map entry_of rs)) (desired h) sides (scaled h.least) (scaled h.most)))

  -- ---- the limits
  same_policy : policy_of h ≡ Ok (policy h)
  unfolding policy_of policy_answer
  same_policy = ap (λ v. policy_if_accepted v (policy h)) (accepted (policy_checks (policy h)) (limits_good s ok))

  same_constraints : constraints_of h ≡ Ok (constraints h)
  unfolding constraints_of constraints_answer
  same_constraints = ap (λ v. constraints_if_accepted v (constraints h)) (accepted (alteration_checks (record { 0 = scaled h.least }) (record { 0 = scaled h.most })) (alterations_good s ok))

  same_report : report s ≡ flat_map (plain_line h) rs ++ answer_line rs (plain_answer h rs)
  unfolding report lines_of
  same_report =
      ap (λ v. lines_if_accepted v (lines_under h rs (policy_of h) (constraints_of h))) ok ∙ ap (λ p. lines_under h rs p (constraints_of h)) same_policy ∙ ap (lines_under h rs (Ok (policy h))) same_constraints
      ∙ ap (λ l. l ++ answer_line rs (search_answer h rs (constraints h))) all_lines ∙ ap (λ a. flat_map (plain_line h) rs ++ answer_line rs a) same_answer

  pub reported : AsReported s
  reported = record { lines = same_report; demand = demand; settled = λ r. settled standard (row_situation h r); refusals = refusals }
