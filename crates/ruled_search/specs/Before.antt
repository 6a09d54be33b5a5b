-- The ruled search over the rulings before request R-2 (`colregs/specs/Before.antt`): the
-- definitions of `Ruled.antt` as they stand there, with those rulings.
use Rattle.std.specs.Prelude.{Bool, List, map, ℕ, Ok}
use Rattle.laws.specs.Fold.{fold}
use Rattle.motion.specs.declared.side.BySide.{BySide}
use Rattle.motion.specs.declared.units.Distance.{Distance}
use Rattle.motion.specs.declared.units.Direction.{Direction}
use Rattle.motion.specs.Check.{verdict}
use Rattle.elementary.specs.declared.error.Refusal.{Refusal}
use Rattle.std.specs.declared.option.Option.{Option}
use Rattle.std.specs.declared.result.Result.{Result}
use Rattle.situation.specs.declared.party.Party.{Party}
use Rattle.situation.specs.declared.party.Visibility.{Visibility}
use Rattle.situation.specs.Situation.{standard}
use Rattle.colregs.specs.Before.{ruling_answer}
use Rattle.manoeuvre.specs.declared.constraints.ManoeuvreConstraints.{ManoeuvreConstraints}
use Rattle.avoidance.specs.Search.{search}
use Rattle.clearance.specs.declared.traffic.Entry.{Entry}
use Rattle.clearance.specs.Traffic.{target_of}
use Rattle.ruled_search.specs.declared.RuledManoeuvre.{RuledManoeuvre}
use Rattle.ruled_search.specs.Ruled.{situation_of, permitted_sides, in_both, either, ruled_checks, manoeuvre_of, answered, ruled_if_accepted}

unfoldable pub sides_of : Party → Visibility → Option Direction → Entry → BySide Bool
sides_of own visibility wind e = permitted_sides (ruling_answer (situation_of own visibility wind e) standard)

abbrev pub join_sides : Party → Visibility → Option Direction → BySide Bool → Entry → BySide Bool
join_sides own visibility wind s e = in_both s (sides_of own visibility wind e)

unfoldable pub shared_sides : Party → Visibility → Option Direction → List Entry → BySide Bool
shared_sides own visibility wind entries = fold (join_sides own visibility wind) either entries

unfoldable pub ruled : Party → List Entry → Visibility → Option Direction → Distance → ManoeuvreConstraints → Result RuledManoeuvre Refusal
ruled own entries visibility wind desired c =
    let sides = shared_sides own visibility wind entries in
    answered (manoeuvre_of own.motion c) sides (search own.motion (map target_of entries) desired sides c.least_alteration.0 c.most_alteration.0)

unfoldable pub ruled_answer : Party → ℕ → List Entry → Visibility → Option Direction → Distance → ManoeuvreConstraints → Result RuledManoeuvre Refusal
ruled_answer own count entries visibility wind desired c =
    ruled_if_accepted (verdict (ruled_checks own count entries wind desired c) (Ok tt))
    (ruled own entries visibility wind desired c)
