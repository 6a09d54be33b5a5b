-- Demand 3 of the order, a field for each of its clauses, in terms of `trials`, `rule_of_the_road`,
-- `closest_point_of_approach` and the list of contacts alone.
use Rattle.std.specs.Prelude.{◌≡◌, ℕ, length, T, Float, None, Some, Err, Ok}
use mathlib.Core.List.{List, [], ◌∷◌, ◌++◌, Memᴰ}
use Rattle.std.specs.Float.Ieee.{eq, lt, le}
use Rattle.laws.specs.Ops.{◌⊕◌}
use Rattle.math.specs.Fold.{whole_fold}
use Rattle.elementary.specs.declared.error.Refusal.{Refusal}
use Rattle.elementary.specs.declared.error.Refusal.TheVariants as Why
use Rattle.motion.specs.declared.units.Distance.{Distance}
use Rattle.motion.specs.declared.vessel.Vessel.{Vessel}
use Rattle.std.specs.declared.option.Option.{Option}
use Rattle.std.specs.declared.result.Result.{Result}
use Rattle.motion.specs.declared.units.Direction.{Direction}
use Rattle.motion.specs.Check.{verdict}
use Rattle.relative_motion.specs.declared.approach.Cpa.{Cpa}
use Rattle.relative_motion.specs.declared.approach.Track.{Track}
use Rattle.relative_motion.specs.Approach.{cpa_answer}
use Rattle.situation.specs.declared.party.Party.{Party}
use Rattle.situation.specs.declared.party.Visibility.{Visibility}
use Rattle.situation.specs.Situation.{standard}
use Rattle.colregs.specs.declared.answer.Ruling.{Ruling}
use Rattle.colregs.specs.Colregs.{ruling_answer}
use Rattle.motion.specs.declared.side.Side.{Side}
use Rattle.motion.specs.declared.side.Side.TheVariants.{Starboard, Port}
use Rattle.manoeuvre.specs.declared.constraints.ManoeuvreConstraints.{ManoeuvreConstraints}
use Rattle.manoeuvre.specs.Manoeuvre.{turn_time}
use Rattle.manoeuvre.specs.Trials.{trials}
use Rattle.clearance.specs.Clearing.{largest, floor_of, altered}
use Rattle.avoidance.specs.Search.{signed}
use Rattle.clearance.specs.declared.traffic.Entry.{Entry}
use Rattle.ruled_search.specs.declared.RuledManoeuvre.{RuledManoeuvre}
use Rattle.ruled_search.specs.Ruled.{situation_of, ruled_checks}

abbrev pub Permits : Side → Ruling → Type 0
Permits Starboard r = T r.manoeuvre.starboard
Permits Port r = T r.manoeuvre.port

-- 'its CPA on that course if closing there, else its present range'
abbrev pub cpa_or_range : Result (Track Cpa) Refusal → Distance → Distance
cpa_or_range (Ok (Track.Closing cpa)) range = cpa.distance
cpa_or_range (Ok (Track.Opening r)) range = range
cpa_or_range (Ok (Track.Stationary r)) range = range
cpa_or_range (Err why) range = range

abbrev pub approach_to : Vessel → Entry → Result (Track Cpa) Refusal
approach_to v e = cpa_answer v e.contact e.target.motion

abbrev pub passing_distance : Vessel → Entry → Distance
passing_distance v e = cpa_or_range (approach_to v e) e.contact.range

-- a contact closes under desired minus 1e-9
pub record ClosesUnder (desired : Distance) (v : Vessel) (e : Entry) : Type 0 where
  pub cpa : Cpa
  pub closing : approach_to v e ≡ Ok (Track.Closing cpa)
  pub under : T (lt cpa.distance.0 (floor_of desired))

-- the first contact of a list that passes at a distance
pub record FirstAt (contacts : List Entry) (v : Vessel) (d : Distance) (place : ℕ) : Type 0 where
  pub before : List Entry
  pub it : Entry
  pub after : List Entry
  pub split : contacts ≡ before ++ (it ∷ after)
  pub placed : place ≡ length before
  pub passes : passing_distance v it ≡ d
  pub earlier : (e : Entry) → Memᴰ e before → T (lt d.0 (passing_distance v e).0)

module _ (own : Party) (contacts : List Entry) (visibility : Visibility) (wind : Option Direction) (desired : Distance) (c : ManoeuvreConstraints) where
  -- 'the rulings share' a side: the ruling on every contact permits it
  pub record Ruled (e : Entry) (side : Side) : Type 0 where
    pub ruling : Ruling
    pub answer : ruling_answer (situation_of own visibility wind e) standard ≡ Ok ruling
    pub permits : Permits side ruling

  abbrev pub Shared : Side → Type 0
  Shared side = (e : Entry) → Memᴰ e contacts → Ruled e side

  -- 'the least alteration plus whole degrees, as 01 lists them'
  abbrev pub Trial : Float → Type 0
  Trial m = Memᴰ m (trials c.least_alteration.0 c.most_alteration.0)

  -- own craft on a trial's altered course
  abbrev pub on : Side → Float → Vessel
  on side m = altered own.motion (signed side m)

  -- 'clears every contact'
  abbrev pub Clears : Side → Float → Type 0
  Clears side m = (e : Entry) → Memᴰ e contacts → ClosesUnder desired (on side m) e → ⊥

  -- what is said of the trial that is returned
  pub record Smallest (m : RuledManoeuvre) : Type 0 where
    -- 'it returns a trial …
    pub listed : Trial m.magnitude.0
    -- … that clears every contact,
    pub clear : Clears m.side m.magnitude.0
    -- on a side that every contact's ruling permits,
    pub permitted : Shared m.side
    -- and no smaller trial on such a side clears;
    pub least : (side : Side) (x : Float) → Shared side → Trial x → T (lt x m.magnitude.0) → Clears side x → ⊥
    -- of equal ones that clear it returns starboard'
    pub starboard : (x : Float) → Shared Starboard → Trial x → T (eq x m.magnitude.0) → Clears Starboard x → m.side ≡ Starboard
    -- 'its new course is that trial's altered course, as 01 has it;
    pub course : m.course.0 ≡ whole_fold (own.motion.course.0 ⊕ signed m.side m.magnitude.0)
    -- its passing distance is the smallest over the contacts at that alteration,
    pub passing : (e : Entry) → Memᴰ e contacts → T (le m.least_passing.0 (passing_distance (on m.side m.magnitude.0) e).0)
    -- the largest f64 if there are none;
    pub free : contacts ≡ [] → m.least_passing.0 ≡ largest
    -- its limiting contact is the first with that distance,
    pub limiting : (contacts ≡ [] → ⊥) → (place : ℕ) × (m.limiting ≡ Some place) × FirstAt contacts (on m.side m.magnitude.0) m.least_passing place
    -- none if there are none'
    pub nobody : contacts ≡ [] → m.limiting ≡ None
    -- the turn takes its time at the rate of the constraints
    pub turn_time : m.turn_time ≡ turn_time m.magnitude.0 c.rate_of_turn

  -- 'if 01's argument checks accept them'
  pub record OnAccepted (answer : Result RuledManoeuvre Refusal) : Type 0 where
    -- every contact has a ruling
    pub each_ruled : (e : Entry) → Memᴰ e contacts → (r : Ruling) × (ruling_answer (situation_of own visibility wind e) standard ≡ Ok r)
    -- and on every trial's course `closest_point_of_approach` answers for it, so that 'no contact
    -- closes' is never said of a refusal
    pub each_approach : (side : Side) (m : Float) → Trial m → (e : Entry) → Memᴰ e contacts → (a : Track Cpa) × (approach_to (on side m) e ≡ Ok a)
    -- 'the ruled search refuses with 13 exactly if the rulings share no side,
    pub no_side : answer ≡ Err Why.NoSharedSide → (side : Side) → Shared side → ⊥
    pub «13_if» : ((side : Side) → Shared side → ⊥) → answer ≡ Err Why.NoSharedSide
    -- and otherwise with 5 exactly if no trial on a shared side clears'
    pub some_side : answer ≡ Err Why.NoTrialClears → (side : Side) × Shared side
    pub no_trial : answer ≡ Err Why.NoTrialClears → (side : Side) (m : Float) → Shared side → Trial m → Clears side m → ⊥
    pub «5_if» : (side : Side) × Shared side → ((side : Side) (m : Float) → Shared side → Trial m → Clears side m → ⊥)
        → answer ≡ Err Why.NoTrialClears
    -- 'in every other case it returns a trial …'
    pub otherwise : (answer ≡ Err Why.NoSharedSide → ⊥) → (answer ≡ Err Why.NoTrialClears → ⊥) → (m : RuledManoeuvre) × (answer ≡ Ok m)
    -- and whatever it returns is such a trial
    pub smallest : (m : RuledManoeuvre) → answer ≡ Ok m → Smallest m

  -- 'whatever the own craft, contacts, visibility, wind, desired distance and constraints': the
  -- first bad argument decides, and with none bad the clauses hold
  pub record Demand3 (count : ℕ) (answer : Result RuledManoeuvre Refusal) : Type 0 where
    pub refused : (why : Refusal) → verdict (ruled_checks own count contacts wind desired c) (Ok tt) ≡ Err why → answer ≡ Err why
    pub accepted : verdict (ruled_checks own count contacts wind desired c) (Ok tt) ≡ (Ok tt) → OnAccepted answer
