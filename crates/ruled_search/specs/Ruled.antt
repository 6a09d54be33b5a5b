-- The ruled search (01, 'Trial list': 'a side is permitted, or shared, if `rule_of_the_road` …
-- permits it for every contact, standard config (both sides without contacts); the caller's own
-- sides take no part; no seeds. All its contacts share own craft, visibility and wind').
use Rattle.std.specs.Prelude.{Bool, true, false, ◌&&◌, ◌||◌, cond, List, ◌++◌, map, ℕ, None, Some, Err, Ok}
use Rattle.laws.specs.Fold.{fold}
use Rattle.elementary.specs.declared.error.Refusal.TheVariants as Why
use Rattle.motion.specs.declared.units.Distance.{Distance}
use Rattle.motion.specs.declared.vessel.Vessel.{Vessel}
use Rattle.colregs.specs.declared.answer.Ruling.{Ruling}
use Rattle.std.specs.declared.option.Option.{Option}
use Rattle.std.specs.declared.result.Result.{Result}
use Rattle.elementary.specs.declared.error.Refusal.{Refusal}
use Rattle.motion.specs.declared.units.Direction.{Direction}
use Rattle.motion.specs.Check.{Check, verdict, distance_checks}
use Rattle.situation.specs.declared.party.Party.{Party}
use Rattle.situation.specs.declared.party.Visibility.{Visibility}
use Rattle.situation.specs.declared.party.Situation.{Situation}
use Rattle.situation.specs.Situation.{standard}
use Rattle.situation.specs.Arguments.{optional_checks, party_checks}
use Rattle.colregs.specs.Colregs.{ruling_answer}
use Rattle.manoeuvre.specs.declared.constraints.ManoeuvreConstraints.{ManoeuvreConstraints}
use Rattle.manoeuvre.specs.Constraints.{constraint_checks}
use Rattle.manoeuvre.specs.Manoeuvre.{turn_time}
use Rattle.clearance.specs.Clearing.{altered, floor_of, moving}
use Rattle.motion.specs.declared.side.BySide.{BySide}
use Rattle.avoidance.specs.declared.search.Chosen.{Chosen}
use Rattle.avoidance.specs.Search.{signed, search, smallest}
use Rattle.clearance.specs.declared.traffic.Entry.{Entry}
use Rattle.clearance.specs.Traffic.{target_of, count_checks, contacts_checks}
use Rattle.ruled_search.specs.declared.RuledManoeuvre.{RuledManoeuvre}

-- ---- the sides
abbrev pub situation_of : Party → Visibility → Option Direction → Entry → Situation
situation_of own visibility wind e = record { own = own; target = e.target; contact = e.contact; visibility = visibility; wind_from = wind }

abbrev pub permitted_sides : Result Ruling Refusal → BySide Bool
permitted_sides (Ok r) = record { starboard = r.manoeuvre.starboard; port = r.manoeuvre.port }
permitted_sides (Err why) = record { starboard = false; port = false }

unfoldable pub sides_of : Party → Visibility → Option Direction → Entry → BySide Bool
sides_of own visibility wind e = permitted_sides (ruling_answer (situation_of own visibility wind e) standard)

unfoldable pub in_both : BySide Bool → BySide Bool → BySide Bool
in_both a b = record { starboard = a.starboard && b.starboard; port = a.port && b.port }

abbrev pub either : BySide Bool
either = record { starboard = true; port = true }

abbrev pub join_sides : Party → Visibility → Option Direction → BySide Bool → Entry → BySide Bool
join_sides own visibility wind s e = in_both s (sides_of own visibility wind e)

unfoldable pub shared_sides : Party → Visibility → Option Direction → List Entry → BySide Bool
shared_sides own visibility wind entries = fold (join_sides own visibility wind) either entries

-- ---- the checks: the count of contacts, own, entry by entry contact then target, wind, desired,
-- constraints
unfoldable pub ruled_checks : Party → ℕ → List Entry → Option Direction → Distance → ManoeuvreConstraints → List Check
ruled_checks own count entries wind desired c =
    count_checks count
    ++ (party_checks own ++ (contacts_checks entries ++ (optional_checks wind ++ (distance_checks desired ++ constraint_checks c))))

-- ---- the answer
-- on accepted arguments: 13 where no side is shared, 5 where nothing on a shared side clears, and
-- else what is said of the choice
abbrev pub manoeuvre_of : Vessel → ManoeuvreConstraints → Chosen → RuledManoeuvre
manoeuvre_of own c chosen = record {
  side = chosen.side;
  magnitude = chosen.magnitude;
  course = (altered own (signed chosen.side chosen.magnitude.0)).course;
  turn_time = turn_time chosen.magnitude.0 c.rate_of_turn;
  least_passing = chosen.clearance.distance;
  limiting = chosen.clearance.limiting;
}

abbrev pub chosen_answer : {A M : Type 0} → (A → M) → Option A → Result M Refusal
chosen_answer of None = Err Why.NoTrialClears
chosen_answer of (Some chosen) = Ok (of chosen)

unfoldable pub answered : {A M : Type 0} → (A → M) → BySide Bool → Option A → Result M Refusal
answered of sides choice = cond (sides.starboard || sides.port) (chosen_answer of choice) (Err Why.NoSharedSide)

unfoldable pub ruled : Party → List Entry → Visibility → Option Direction → Distance → ManoeuvreConstraints → Result RuledManoeuvre Refusal
ruled own entries visibility wind desired c =
    let sides = shared_sides own visibility wind entries in
    answered (manoeuvre_of own.motion c) sides (search own.motion (map target_of entries) desired sides c.least_alteration.0 c.most_alteration.0)

-- ---- the answer
abbrev pub ruled_if_accepted : Result (Unit {0}) Refusal → Result RuledManoeuvre Refusal → Result RuledManoeuvre Refusal
ruled_if_accepted (Ok tt) a = a
ruled_if_accepted (Err why) a = Err why

unfoldable pub ruled_answer : Party → ℕ → List Entry → Visibility → Option Direction → Distance → ManoeuvreConstraints → Result RuledManoeuvre Refusal
ruled_answer own count entries visibility wind desired c =
    ruled_if_accepted (verdict (ruled_checks own count entries wind desired c) (Ok tt))
    (ruled own entries visibility wind desired c)

-- ---- what is computed, from offsets and velocities; the same on accepted arguments
unfoldable pub ruled_computed : Party → List Entry → Visibility → Option Direction → Distance → ManoeuvreConstraints → Result RuledManoeuvre Refusal
ruled_computed own entries visibility wind desired c =
    let sides = shared_sides own visibility wind entries in
    answered (manoeuvre_of own.motion c) sides
    (smallest own.motion (floor_of desired) (map moving (map target_of entries)) sides c.least_alteration.0 c.most_alteration.0)
