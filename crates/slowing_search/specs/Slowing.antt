-- The slowing search (02, R-3: 'a new search tries course and speed together. … The course trials
-- are those of the ruled search. The answer is the clearing pair with the smallest turn, then the
-- highest speed, then starboard, with the ruled search's other fields worked out at that pair. It
-- is refused with 5 exactly if no pair clears, and with 13 as before').
use Rattle.std.specs.Prelude.{Bool, false, ◌&&◌, cond, List, [], ◌∷◌, map, ℕ, zero, suc, Float, Err, Ok, true}
use Rattle.std.specs.Option.{option_map}
use Rattle.laws.specs.Eighths.{eighth}
use Rattle.laws.specs.First.{first}
use Rattle.laws.specs.Fold.{fold}
use Rattle.laws.specs.Ops.{◌⊗◌}
use Rattle.elementary.specs.declared.error.Refusal.{Refusal}
use Rattle.motion.specs.declared.units.Distance.{Distance}
use Rattle.motion.specs.declared.units.Speed.{Speed}
use Rattle.motion.specs.declared.units.Direction.{Direction}
use Rattle.motion.specs.declared.vessel.Vessel.{Vessel}
use Rattle.motion.specs.declared.side.BySide.{BySide}
use Rattle.motion.specs.declared.side.Side.{Side}
use Rattle.motion.specs.Check.{verdict}
use Rattle.std.specs.declared.option.Option.{Option}
use Rattle.std.specs.declared.result.Result.{Result}
use Rattle.situation.specs.declared.party.Party.{Party}
use Rattle.situation.specs.declared.party.Visibility.{Visibility}
use Rattle.situation.specs.Situation.{standard}
use Rattle.colregs.specs.declared.answer.Ruling.{Ruling}
use Rattle.colregs.specs.Colregs.{ruling_answer}
use Rattle.manoeuvre.specs.declared.constraints.ManoeuvreConstraints.{ManoeuvreConstraints}
use Rattle.manoeuvre.specs.Trials.{trials}
use Rattle.clearance.specs.declared.Clearance.{Clearance}
use Rattle.clearance.specs.declared.contact.Target.{Target}
use Rattle.clearance.specs.declared.traffic.Entry.{Entry}
use Rattle.clearance.specs.Traffic.{target_of}
use Rattle.avoidance.specs.declared.search.Chosen.{Chosen}
use Rattle.avoidance.specs.Search.{both, trial_clears}
use Rattle.ruled_search.specs.Ruled.{situation_of, shared_sides, ruled_checks, answered}
use Rattle.ruled_search.specs.Ruled as Ruled
use Rattle.slowing_search.specs.declared.SlowingManoeuvre.{SlowingManoeuvre}
use Rattle.slowing_search.specs.declared.pairs.Pair.{Pair}

-- ---- the speeds: 'own speed times 8/8, 7/8 and so on to 1/8, each rounded once'
abbrev pub trial_speed : Speed → ℕ → Speed
trial_speed own k = record { 0 = own.0 ⊗ eighth k }

-- from k eighths down to one
unfoldable pub down_from : Speed → ℕ → List Speed
down_from own zero = []
down_from own (suc k) = trial_speed own (suc k) ∷ down_from own k

-- 'those below 8/8 only where every ruling, taken at the present speed, permits slowing'
unfoldable pub trial_speeds : Speed → Bool → List Speed
trial_speeds own slowing = cond slowing (down_from own 8) (trial_speed own 8 ∷ [])

-- 'as the Rust's ruling says', which is never silent on speed (docs/DECISIONS.md)
abbrev pub permits_slowing : Result Ruling Refusal → Bool
permits_slowing (Ok r) = r.manoeuvre.slow_down
permits_slowing (Err why) = false

abbrev pub join_slowing : Party → Visibility → Option Direction → Bool → Entry → Bool
join_slowing own visibility wind s e = s && permits_slowing (ruling_answer (situation_of own visibility wind e) standard)

unfoldable pub all_permit_slowing : Party → Visibility → Option Direction → List Entry → Bool
all_permit_slowing own visibility wind entries = fold (join_slowing own visibility wind) true entries

-- ---- the pairs
abbrev pub at_speed : Vessel → Speed → Vessel
at_speed own s = record { course = own.course; speed = s }

-- a trial clears at a speed, as it does for a craft of that speed
unfoldable pub pair_clears : Vessel → List Target → Distance → Speed → Side → Float → Option Clearance
pair_clears own targets desired s = trial_clears (at_speed own s) targets desired

abbrev pub with_speed : Speed → Chosen → Pair
with_speed s c = record { trial = c; speed = s }

-- of one magnitude and speed: starboard first
unfoldable pub at_pair : BySide Bool → (Speed → Side → Float → Option Clearance) → Float → Speed → Option Pair
at_pair sides clears magnitude s = option_map (with_speed s) (both sides (clears s) magnitude)

-- of one magnitude: the highest speed first
unfoldable pub fastest : BySide Bool → (Speed → Side → Float → Option Clearance) → List Speed → Float → Option Pair
fastest sides clears speeds magnitude = first (at_pair sides clears magnitude) speeds

-- the smallest magnitude first
unfoldable pub choice : BySide Bool → (Speed → Side → Float → Option Clearance) → List Speed → List Float → Option Pair
choice sides clears speeds magnitudes = first (fastest sides clears speeds) magnitudes

unfoldable pub search : Vessel → List Target → Distance → BySide Bool → List Speed → Float → Float → Option Pair
search own targets desired sides speeds least most = choice sides (pair_clears own targets desired) speeds (trials least most)

-- ---- the answer
abbrev pub manoeuvre_of : Vessel → ManoeuvreConstraints → Pair → SlowingManoeuvre
manoeuvre_of own c p = record { turn = Ruled.manoeuvre_of own c p.trial; speed = p.speed }

-- on accepted arguments; the sides and whether slowing is permitted are those at the present speed
unfoldable pub slowing : Party → List Entry → Visibility → Option Direction → Distance → ManoeuvreConstraints → Result SlowingManoeuvre Refusal
slowing own entries visibility wind desired c =
    let sides = shared_sides own visibility wind entries in
    let speeds = trial_speeds own.motion.speed (all_permit_slowing own visibility wind entries) in
    answered (manoeuvre_of own.motion c) sides
    (search own.motion (map target_of entries) desired sides speeds c.least_alteration.0 c.most_alteration.0)

abbrev pub slowing_if_accepted : Result (Unit {0}) Refusal → Result SlowingManoeuvre Refusal → Result SlowingManoeuvre Refusal
slowing_if_accepted (Ok tt) a = a
slowing_if_accepted (Err why) a = Err why

unfoldable pub slowing_answer : Party → ℕ → List Entry → Visibility → Option Direction → Distance → ManoeuvreConstraints → Result SlowingManoeuvre Refusal
slowing_answer own count entries visibility wind desired c =
    slowing_if_accepted (verdict (ruled_checks own count entries wind desired c) (Ok tt))
    (slowing own entries visibility wind desired c)
