-- The answers of the C exports, as lists of words: word 0 is the refusal's number, or 0 where there
-- is an answer; the others are 0 where it is refused. Floats are bit patterns, what may be missing
-- has a word before it that says whether it is there.
use Rattle.std.specs.Prelude.{cond, List, [], ◌∷◌, ◌++◌, ℕ, zero, suc, ◌+◌, ◌%◌, get_or, replicate, Float, None, Some, Ok, Err}
use Rattle.std.specs.Int.{from_bool}
use Rattle.std.specs.Float.{binary64}
use Rattle.std.specs.Float.Ieee.{eq, to_bits}
use Rattle.std.specs.declared.option.Option.{Option}
use Rattle.std.specs.declared.result.Result.{Result}
use Rattle.elementary.specs.Refusal.{number_of}
use Rattle.elementary.specs.declared.error.Refusal.{Refusal}
use Rattle.math.specs.declared.duration.Duration.{Duration}
use Rattle.motion.specs.declared.units.Direction.{Direction}
use Rattle.motion.specs.declared.units.Distance.{Distance}
use Rattle.motion.specs.declared.units.RelativeBearing.{RelativeBearing}
use Rattle.motion.specs.declared.vessel.Vessel.{Vessel}
use Rattle.motion.specs.declared.side.Side.{Side}
use Rattle.motion.specs.declared.side.BySide.{BySide}
use Rattle.relative_motion.specs.declared.approach.Cpa.{Cpa}
use Rattle.relative_motion.specs.declared.approach.Track.{Track}
use Rattle.relative_motion.specs.declared.plot.TargetSolution.{TargetSolution}
use Rattle.colregs.specs.declared.answer.Encounter.{Encounter}
use Rattle.colregs.specs.declared.answer.Encounter.TheVariants.{Overtaking, BeingOvertaken, HeadOn, Crossing}
use Rattle.colregs.specs.declared.answer.Responsibility.{Responsibility}
use Rattle.colregs.specs.declared.answer.Responsibility.TheVariants.{GiveWay, StandOn, Both, Undetermined}
use Rattle.colregs.specs.declared.answer.Ruling.{Ruling}
use Rattle.colregs.specs.Ruling.{rule_number}
use Rattle.assessment.specs.declared.assess.CollisionAssessment.{CollisionAssessment}
use Rattle.assessment.specs.Risk.{rank}
use Rattle.manoeuvre.specs.declared.AvoidanceManoeuvre.{AvoidanceManoeuvre}
use Rattle.manoeuvre.specs.Manoeuvre.{side_of}
use Rattle.avoidance.specs.declared.search.Chosen.{Chosen}
use Rattle.ruled_search.specs.declared.RuledManoeuvre.{RuledManoeuvre}
use Rattle.slowing_search.specs.declared.SlowingManoeuvre.{SlowingManoeuvre}

-- ---- a word
-- the word of a place, 0 for one beyond the last
abbrev pub word : List ℕ → ℕ → ℕ
word ws part = get_or ws part 0

-- one pattern stands for every NaN
unfoldable pub pattern : Float → ℕ
pattern x = cond (eq x x) (to_bits binary64 x) 0x7ff8_0000_0000_0000

-- a refusal's number and no values, in so many words
abbrev pub refused : ℕ → Refusal → List ℕ
refused zero why = []
refused (suc n) why = number_of why ∷ replicate n 0

-- ---- an approach: 0 closing, 1 opening, 2 stationary; the distance; where it closes the bearing,
-- seconds and nanoseconds
abbrev pub closing : Cpa → List ℕ
closing cpa = 0 ∷ 0 ∷ pattern cpa.distance.0 ∷ pattern cpa.bearing.0 ∷ cpa.time_to_go.secs ∷ cpa.time_to_go.nanos ∷ []

abbrev pub at_distance : ℕ → Distance → List ℕ
at_distance kind distance = 0 ∷ kind ∷ pattern distance.0 ∷ 0 ∷ 0 ∷ 0 ∷ []

abbrev pub approach : Track Cpa → List ℕ
approach (Track.Closing cpa) = closing cpa
approach (Track.Opening range) = at_distance 1 range
approach (Track.Stationary range) = at_distance 2 range

abbrev pub approach_words : Result (Track Cpa) Refusal → List ℕ
approach_words (Ok a) = approach a
approach_words (Err why) = refused 6 why

-- the same without bearing and time
abbrev pub approach_distance : Track Distance → List ℕ
approach_distance (Track.Closing d) = at_distance 0 d
approach_distance (Track.Opening d) = at_distance 1 d
approach_distance (Track.Stationary d) = at_distance 2 d

abbrev pub approach_distance_words : Result (Track Distance) Refusal → List ℕ
approach_distance_words (Ok a) = approach_distance a
approach_distance_words (Err why) = refused 6 why

-- ---- one figure
abbrev pub figure : Float → List ℕ
figure x = 0 ∷ pattern x ∷ []

abbrev pub bearing_words : Result RelativeBearing Refusal → List ℕ
bearing_words (Ok b) = figure b.0
bearing_words (Err why) = refused 2 why

abbrev pub range_words : Result Distance Refusal → List ℕ
range_words (Ok d) = figure d.0
range_words (Err why) = refused 2 why

-- ---- the target's course and speed, her relative course and speed, and the aspect
abbrev pub solution : TargetSolution → List ℕ
solution s =
    0 ∷ pattern s.vessel.course.0 ∷ pattern s.vessel.speed.0 ∷ pattern s.relative_course.0 ∷ pattern s.relative_speed.0 ∷ pattern s.aspect.0 ∷ []

abbrev pub solution_words : Result TargetSolution Refusal → List ℕ
solution_words (Ok s) = solution s
solution_words (Err why) = refused 6 why

-- ---- whether there is a course to starboard, and it; and the same to port
abbrev pub is_course : Option Direction → ℕ
is_course None = 0
is_course (Some d) = 1

abbrev pub course : Option Direction → ℕ
course None = 0
course (Some d) = pattern d.0

abbrev pub courses : BySide (Option Direction) → List ℕ
courses a = 0 ∷ is_course a.starboard ∷ course a.starboard ∷ is_course a.port ∷ course a.port ∷ []

abbrev pub courses_words : Result (BySide (Option Direction)) Refusal → List ℕ
courses_words (Ok a) = courses a
courses_words (Err why) = refused 5 why

-- ---- a ruling: the encounter, 0 overtaking, 1 being overtaken, 2 head-on, 3 crossing from
-- starboard, 4 from port; the responsibility, 0 give way, 1 stand on, 2 both, 3 undetermined; the
-- rule's number; whether starboard, port, slowing down and holding on are permitted
abbrev pub encounter_code : Encounter → ℕ
encounter_code Overtaking = 0
encounter_code BeingOvertaken = 1
encounter_code HeadOn = 2
encounter_code (Crossing Side.Starboard) = 3
encounter_code (Crossing Side.Port) = 4

abbrev pub responsibility_code : Responsibility → ℕ
responsibility_code GiveWay = 0
responsibility_code StandOn = 1
responsibility_code Both = 2
responsibility_code Undetermined = 3

abbrev pub ruling : Ruling → List ℕ
ruling r =
    0 ∷ encounter_code r.encounter ∷ responsibility_code r.responsibility ∷ rule_number r.rule
    ∷ from_bool r.manoeuvre.starboard ∷ from_bool r.manoeuvre.port ∷ from_bool r.manoeuvre.slow_down ∷ from_bool r.manoeuvre.hold ∷ []

abbrev pub ruling_words : Result Ruling Refusal → List ℕ
ruling_words (Ok r) = ruling r
ruling_words (Err why) = refused 8 why

-- the rank of a category
abbrev pub rank_words : ℕ → List ℕ
rank_words rank = 0 ∷ rank ∷ []

-- ---- an assessment: relative course and speed, bearing drift; whether there is a closest
-- approach, its distance, bearing, seconds and nanoseconds; whether there is a bow crossing, its
-- distance; the risk's rank; range and bearing
abbrev pub nearest : Option Cpa → List ℕ
nearest None = 0 ∷ 0 ∷ 0 ∷ 0 ∷ 0 ∷ []
nearest (Some cpa) = 1 ∷ pattern cpa.distance.0 ∷ pattern cpa.bearing.0 ∷ cpa.time_to_go.secs ∷ cpa.time_to_go.nanos ∷ []

abbrev pub crossing : Option Distance → List ℕ
crossing None = 0 ∷ 0 ∷ []
crossing (Some d) = 1 ∷ pattern d.0 ∷ []

abbrev pub assessment : CollisionAssessment → List ℕ
assessment a =
    0 ∷ pattern a.relative_course.0 ∷ pattern a.relative_speed.0 ∷ pattern a.bearing_drift.0
    ∷ nearest a.cpa ++ crossing a.bow_crossing ++ rank a.risk ∷ pattern a.range.0 ∷ pattern a.bearing.0 ∷ []

abbrev pub assessment_words : Result CollisionAssessment Refusal → List ℕ
assessment_words (Ok a) = assessment a
assessment_words (Err why) = refused 14 why

-- ---- a manoeuvre: the side, 0 starboard, 1 port; the alteration or its magnitude, the course, the
-- passing distance; whether there is a turn time, its seconds and nanoseconds; the limiting
-- contact's place and one, 0 for nobody
abbrev pub side : Side → ℕ
side Side.Starboard = 0
side Side.Port = 1

abbrev pub limiting : Option ℕ → ℕ
limiting None = 0
limiting (Some place) = place % 64 + 1

abbrev pub turn : ℕ → ℕ → ℕ → ℕ → Option Duration → ℕ → List ℕ
turn side size course passing None limiting = 0 ∷ side ∷ size ∷ course ∷ passing ∷ 0 ∷ 0 ∷ 0 ∷ limiting ∷ []
turn side size course passing (Some d) limiting = 0 ∷ side ∷ size ∷ course ∷ passing ∷ 1 ∷ d.secs ∷ d.nanos ∷ limiting ∷ []

abbrev pub avoidance : AvoidanceManoeuvre → List ℕ
avoidance m =
    turn (side (side_of m.alteration)) (pattern m.alteration.0) (pattern m.course.0) (pattern m.least_passing.0)
    m.turn_time (limiting m.limiting)

abbrev pub avoidance_words : Result AvoidanceManoeuvre Refusal → List ℕ
avoidance_words (Ok m) = avoidance m
avoidance_words (Err why) = refused 9 why

abbrev pub ruled : RuledManoeuvre → List ℕ
ruled m = turn (side m.side) (pattern m.magnitude.0) (pattern m.course.0) (pattern m.least_passing.0) m.turn_time (limiting m.limiting)

abbrev pub ruled_words : Result RuledManoeuvre Refusal → List ℕ
ruled_words (Ok m) = ruled m
ruled_words (Err why) = refused 9 why

-- the slowing search: the same, and the speed
abbrev pub slowing : SlowingManoeuvre → List ℕ
slowing m = ruled m.turn ++ (pattern m.speed.0 ∷ [])

abbrev pub slowing_words : Result SlowingManoeuvre Refusal → List ℕ
slowing_words (Ok m) = slowing m
slowing_words (Err why) = refused 10 why

-- the search alone, which refuses nothing: whether a trial was found, its side and magnitude, the
-- passing distance, the limiting contact
abbrev pub chosen_words : Option Chosen → List ℕ
chosen_words None = 0 ∷ 0 ∷ 0 ∷ 0 ∷ 0 ∷ 0 ∷ []
chosen_words (Some c) = 0 ∷ 1 ∷ side c.side ∷ pattern c.magnitude.0 ∷ pattern c.clearance.distance.0 ∷ limiting c.clearance.limiting ∷ []

-- ---- how many trials there are
abbrev pub count_words : ℕ → List ℕ
count_words count = 0 ∷ count ∷ []

-- ---- the motion that is fitted: whether there is one, its course and speed
abbrev pub motion : Option Vessel → List ℕ
motion None = 0 ∷ 0 ∷ 0 ∷ 0 ∷ []
motion (Some v) = 0 ∷ 1 ∷ pattern v.course.0 ∷ pattern v.speed.0 ∷ []

abbrev pub motion_words : Result (Option Vessel) Refusal → List ℕ
motion_words (Ok m) = motion m
motion_words (Err why) = refused 4 why
