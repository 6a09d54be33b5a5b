-- What request R-3 states of the slowing search, a field for each of its clauses, in terms of
-- `trials`, the trial speeds, `rule_of_the_road`, `closest_point_of_approach` and the list of
-- contacts alone. The words of demand 3 stand in `Demand3.antt`, here over pairs.
use Rattle.std.specs.Prelude.{◌≡◌, ℕ, ◌<◌, ◌≤◌, T, Float, None, Some, Err, Ok}
use mathlib.Core.List.{List, [], Memᴰ}
use Rattle.std.specs.Float.Ieee.{eq, lt, le}
use Rattle.laws.specs.Ops.{◌⊕◌, ◌⊗◌}
use Rattle.laws.specs.Eighths.{eighth}
use Rattle.math.specs.Fold.{whole_fold}
use Rattle.elementary.specs.declared.error.Refusal.{Refusal}
use Rattle.elementary.specs.declared.error.Refusal.TheVariants as Why
use Rattle.motion.specs.declared.units.Distance.{Distance}
use Rattle.motion.specs.declared.units.Direction.{Direction}
use Rattle.motion.specs.declared.units.Speed.{Speed}
use Rattle.motion.specs.declared.vessel.Vessel.{Vessel}
use Rattle.motion.specs.declared.side.Side.{Side}
use Rattle.motion.specs.declared.side.Side.TheVariants.{Starboard}
use Rattle.motion.specs.Check.{verdict}
use Rattle.std.specs.declared.option.Option.{Option}
use Rattle.std.specs.declared.result.Result.{Result}
use Rattle.relative_motion.specs.declared.approach.Cpa.{Cpa}
use Rattle.relative_motion.specs.declared.approach.Track.{Track}
use Rattle.situation.specs.declared.party.Party.{Party}
use Rattle.situation.specs.declared.party.Visibility.{Visibility}
use Rattle.situation.specs.Situation.{standard}
use Rattle.colregs.specs.declared.answer.Ruling.{Ruling}
use Rattle.colregs.specs.Colregs.{ruling_answer}
use Rattle.manoeuvre.specs.declared.constraints.ManoeuvreConstraints.{ManoeuvreConstraints}
use Rattle.manoeuvre.specs.Manoeuvre.{turn_time}
use Rattle.clearance.specs.Clearing.{largest, altered}
use Rattle.clearance.specs.declared.traffic.Entry.{Entry}
use Rattle.avoidance.specs.Search.{signed}
use Rattle.ruled_search.specs.declared.RuledManoeuvre.{RuledManoeuvre}
use Rattle.ruled_search.specs.Ruled.{situation_of, ruled_checks, ruled_answer}
use Rattle.ruled_search.specs.Demand3.{approach_to, passing_distance, ClosesUnder, FirstAt, Shared, Trial}
use Rattle.slowing_search.specs.declared.SlowingManoeuvre.{SlowingManoeuvre}

module _ (own : Party) (contacts : List Entry) (visibility : Visibility) (wind : Option Direction) (desired : Distance) (c : ManoeuvreConstraints) where
  -- the ruling on a contact, taken at the present speed, permits slowing
  pub record PermitsSlowing (e : Entry) : Type 0 where
    pub ruling : Ruling
    pub answer : ruling_answer (situation_of own visibility wind e) standard ≡ Ok ruling
    pub permits : T ruling.manoeuvre.slow_down

  -- 'own speed times 8/8, 7/8 and so on to 1/8, each rounded once, those below 8/8 only where every
  -- ruling permits slowing'
  pub record TrialSpeed (s : Speed) : Type 0 where
    pub eighths : ℕ
    pub some : 1 ≤ eighths
    pub few : eighths ≤ 8
    pub is : s.0 ≡ own.motion.speed.0 ⊗ eighth eighths
    pub slowing : eighths < 8 → (e : Entry) → Memᴰ e contacts → PermitsSlowing e

  -- a side that the rulings share, taken at the present speed, and a trial: the ruled search's
  abbrev pub SharedSide : Side → Type 0
  SharedSide side = Shared own contacts visibility wind desired c side

  abbrev pub CourseTrial : Float → Type 0
  CourseTrial m = Trial own contacts visibility wind desired c m

  -- own craft on a trial's altered course, at a speed
  abbrev pub on : Side → Float → Speed → Vessel
  on side m s = altered (record { course = own.motion.course; speed = s }) (signed side m)

  -- 'clears every contact'
  abbrev pub ClearsAll : Side → Float → Speed → Type 0
  ClearsAll side m s = (e : Entry) → Memᴰ e contacts → ClosesUnder desired (on side m s) e → ⊥

  -- what is said of the pair that is returned
  pub record SmallestPair (m : SlowingManoeuvre) : Type 0 where
    -- 'the clearing pair …': its turn and its speed are on the lists,
    pub listed : CourseTrial m.turn.magnitude.0
    pub speed : TrialSpeed m.speed
    -- it clears every contact,
    pub clear : ClearsAll m.turn.side m.turn.magnitude.0 m.speed
    -- and every contact's ruling permits its side;
    pub permitted : SharedSide m.turn.side
    -- '… with the smallest turn': no pair with a smaller turn on such a side clears;
    pub least : (side : Side) (x : Float) (s : Speed) → SharedSide side → CourseTrial x → TrialSpeed s
        → T (lt x m.turn.magnitude.0) → ClearsAll side x s → ⊥
    -- 'then the highest speed': of equal turns no faster one clears;
    pub fastest : (side : Side) (x : Float) (s : Speed) → SharedSide side → CourseTrial x → TrialSpeed s
        → T (eq x m.turn.magnitude.0) → T (lt m.speed.0 s.0) → ClearsAll side x s → ⊥
    -- 'then starboard': of equal turns and speeds that clear it is starboard's
    pub starboard : (x : Float) (s : Speed) → SharedSide Starboard → CourseTrial x → TrialSpeed s
        → T (eq x m.turn.magnitude.0) → T (eq s.0 m.speed.0) → ClearsAll Starboard x s → m.turn.side ≡ Starboard
    -- 'the ruled search's other fields worked out at that pair': the new course,
    pub course : m.turn.course.0 ≡ whole_fold (own.motion.course.0 ⊕ signed m.turn.side m.turn.magnitude.0)
    -- the passing distance, the smallest over the contacts, the largest f64 if there are none,
    pub passing : (e : Entry) → Memᴰ e contacts
        → T (le m.turn.least_passing.0 (passing_distance (on m.turn.side m.turn.magnitude.0 m.speed) e).0)
    pub free : contacts ≡ [] → m.turn.least_passing.0 ≡ largest
    -- the limiting contact, the first with that distance, none if there are none,
    pub limiting : (contacts ≡ [] → ⊥) → (place : ℕ) × (m.turn.limiting ≡ Some place)
        × FirstAt contacts (on m.turn.side m.turn.magnitude.0 m.speed) m.turn.least_passing place
    pub nobody : contacts ≡ [] → m.turn.limiting ≡ None
    -- and the time that the turn takes at the rate of the constraints
    pub turn_time : m.turn.turn_time ≡ turn_time m.turn.magnitude.0 c.rate_of_turn

  -- some pair on the lists, on a shared side, clears
  pub record SomePair : Type 0 where
    pub side : Side
    pub magnitude : Float
    pub speed : Speed
    pub shared : SharedSide side
    pub listed : CourseTrial magnitude
    pub at_speed : TrialSpeed speed
    pub clear : ClearsAll side magnitude speed

  -- on arguments that 01's checks accept
  pub record OnAccepted (answer : Result SlowingManoeuvre Refusal) : Type 0 where
    -- every contact has a ruling, which permits slowing, so that all eight speeds are trial speeds
    pub each_permits : (e : Entry) → Memᴰ e contacts → PermitsSlowing e
    -- on every pair's course and speed `closest_point_of_approach` answers for every contact, so
    -- that 'no contact closes' is never said of a refusal
    pub each_approach : (side : Side) (m : Float) (s : Speed) → CourseTrial m → TrialSpeed s → (e : Entry) → Memᴰ e contacts
        → (a : Track Cpa) × (approach_to (on side m s) e ≡ Ok a)
    -- 'refused … with 13 as before': exactly if the rulings share no side
    pub no_side : answer ≡ Err Why.NoSharedSide → (side : Side) → SharedSide side → ⊥
    pub «13_if» : ((side : Side) → SharedSide side → ⊥) → answer ≡ Err Why.NoSharedSide
    -- 'refused with 5 exactly if no pair clears'
    pub some_side : answer ≡ Err Why.NoTrialClears → (side : Side) × SharedSide side
    pub no_pair : answer ≡ Err Why.NoTrialClears → SomePair → ⊥
    pub «5_if» : (side : Side) × SharedSide side → (SomePair → ⊥) → answer ≡ Err Why.NoTrialClears
    -- in every other case it returns a pair,
    pub otherwise : (answer ≡ Err Why.NoSharedSide → ⊥) → (answer ≡ Err Why.NoTrialClears → ⊥) → (m : SlowingManoeuvre) × (answer ≡ Ok m)
    -- and whatever it returns is such a pair
    pub smallest : (m : SlowingManoeuvre) → answer ≡ Ok m → SmallestPair m

  -- the first bad argument decides, as in the ruled search, and with none bad the clauses hold
  pub record Pairs (count : ℕ) (answer : Result SlowingManoeuvre Refusal) : Type 0 where
    pub refused : (why : Refusal) → verdict (ruled_checks own count contacts wind desired c) (Ok tt) ≡ Err why → answer ≡ Err why
    pub accepted : verdict (ruled_checks own count contacts wind desired c) (Ok tt) ≡ (Ok tt) → OnAccepted answer

  -- beside the ruled search's answer m: a turn that is no larger, and where it is as large that
  -- answer at full speed
  pub record NoLarger (m : RuledManoeuvre) (answer : Result SlowingManoeuvre Refusal) : Type 0 where
    pub it : SlowingManoeuvre
    pub answered : answer ≡ Ok it
    pub no_larger : T (le it.turn.magnitude.0 m.magnitude.0)
    pub as_large : T (eq it.turn.magnitude.0 m.magnitude.0) → it ≡ record { turn = m; speed = own.motion.speed }

  abbrev pub BesideRuled : ℕ → Result SlowingManoeuvre Refusal → Type 0
  BesideRuled count answer = (m : RuledManoeuvre) → ruled_answer own count contacts visibility wind desired c ≡ Ok m → NoLarger m answer
