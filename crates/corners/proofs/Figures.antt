-- What the rows of the table are written with: arguments in whole numbers or by the bits of a float, and figures that are read off the answers.
use Rattle.std.specs.Prelude.{None, Some, Err, Ok}
use mathlib.Core.Bool.{true, false}
use mathlib.Core.List.{List, [], ◌∷◌}
use Prim.Native.Nat.{ℕ, suc, ◌+◌, ◌*◌, ◌/◌, ◌%◌}
use lib.Ieee.{Float, binary64, of_bits, to_bits}
use Rattle.motion.specs.declared.units.Angle.{Angle}
use Rattle.motion.specs.declared.units.Direction.{Direction}
use Rattle.motion.specs.declared.units.Distance.{Distance}
use Rattle.motion.specs.declared.units.RateOfTurn.{RateOfTurn}
use Rattle.motion.specs.declared.vessel.Vessel.{Vessel}
use Rattle.motion.specs.declared.vessel.Contact.{Contact}
use Rattle.relative_motion.specs.declared.approach.Track.{Track}
use Rattle.relative_motion.specs.declared.approach.Cpa.{Cpa}
use Rattle.assessment.specs.declared.assess.CollisionAssessment.{CollisionAssessment}
use Rattle.std.specs.declared.option.Option.{Option}
use Rattle.std.specs.declared.result.Result.{Result}
use Rattle.elementary.specs.declared.error.Refusal.{Refusal}
use Rattle.manoeuvre.specs.declared.AvoidanceManoeuvre.{AvoidanceManoeuvre}
use Rattle.math.specs.declared.duration.Duration.{Duration}
use Rattle.motion.specs.declared.side.BySide.{BySide}
use Rattle.assessment.specs.declared.policy.CpaPolicy.{CpaPolicy}
use Rattle.assessment.specs.Risk.{rank}
use Rattle.situation.specs.declared.party.Tack.TheVariants as Tack
use Rattle.situation.specs.declared.party.VesselCategory.TheVariants.{PowerDriven, Sailing}
use Rattle.situation.specs.declared.party.Party.{Party}
use Rattle.situation.specs.declared.party.Situation.{Situation}
use Rattle.situation.specs.declared.party.Visibility.TheVariants.{InSight}
use Rattle.situation.specs.declared.config.ColregsConfig.{ColregsConfig}
use Rattle.situation.specs.Situation.{party, situation, with_wind_from}
use Rattle.colregs.specs.declared.answer.Encounter.{Encounter}
use Rattle.colregs.specs.declared.answer.Responsibility.{Responsibility}
use Rattle.colregs.specs.declared.answer.Rule.{Rule}
use Rattle.colregs.specs.declared.answer.Ruling.{Ruling}
use Rattle.manoeuvre.specs.declared.constraints.PermittedSides.{PermittedSides}
use Rattle.manoeuvre.specs.declared.constraints.PermittedSides.TheVariants as Sides
use Rattle.manoeuvre.specs.declared.constraints.ManoeuvreConstraints.{ManoeuvreConstraints}
use Rattle.motion.specs.declared.side.Side.{Side}
use Rattle.manoeuvre.specs.Constraints.{with_rate_of_turn}
use Rattle.clearance.specs.declared.traffic.Entry.{Entry}
use Rattle.ruled_search.specs.declared.RuledManoeuvre.{RuledManoeuvre}
use Rattle.ruled_search.specs.Ruled.{ruled_answer}
use Rattle.colregs.proofs.Rows.{number, direction, vessel, contact, a, power}

-- ---- arguments
abbrev pub bits : ℕ → Float
bits n = of_bits binary64 n

-- on course 0 at a speed by its bits
abbrev pub north : ℕ → Vessel
north speed = record { course = direction 0; speed = record { 0 = bits speed } }

abbrev pub moving : ℕ → ℕ → Vessel
moving course speed = vessel (direction course) speed

abbrev pub at : ℕ → ℕ → Contact
at bearing range = contact (direction bearing) range

-- on a course by its bits; at a range by its bits
abbrev pub steering : ℕ → ℕ → Vessel
steering course speed = vessel (record { 0 = bits course }) speed

abbrev pub away : ℕ → ℕ → Contact
away bearing range = record { bearing = direction bearing; range = record { 0 = bits range } }

abbrev pub miles : ℕ → Distance
miles n = record { 0 = number n }

abbrev pub degrees : ℕ → Angle
degrees n = record { 0 = number n }

-- limits, of which the distance is given by its bits; 1 nm and 1,800 s; a closest approach by the bits of its distance
abbrev pub within : ℕ → ℕ → ℕ → CpaPolicy
within distance secs nanos = record { cpa_limit = record { 0 = bits distance }; tcpa_limit = record { secs = secs; nanos = nanos } }

abbrev pub limits : CpaPolicy
limits = within 0x3ff0_0000_0000_0000 1800 0

abbrev pub nearing : ℕ → ℕ → ℕ → Cpa
nearing distance secs nanos = record { distance = record { 0 = bits distance }; time_to_go = record { secs = secs; nanos = nanos }; bearing = direction 0 }

-- a power-driven vessel on a course by its bits; own craft north at 10 knots and a contact off a bearing by its bits, 5 nm away
abbrev pub on : ℕ → ℕ → Party
on course speed = party (steering course speed) PowerDriven

abbrev pub off : ℕ → Party → Situation
off bearing target = situation (power 0 10) target (contact (record { 0 = bits bearing }) 5) InSight

-- own craft under sail on the port tack, and beside her at the same velocity one whose tack is not known; the wind
abbrev pub unsure : ℕ → ℕ → Situation
unsure bearing from =
    with_wind_from (situation (a (Sailing Tack.Port) 0 5) (a (Sailing Tack.Unknown) 0 5) (contact (record { 0 = bits bearing }) 2) InSight) (direction from)

abbrev pub widths : ℕ → ℕ → ColregsConfig
widths overtaking head_on = record { overtaking_abaft_beam = record { 0 = number overtaking }; head_on_half_width = record { 0 = number head_on } }

-- a power-driven vessel in the traffic; one at rest 4 nm ahead
abbrev pub meets : Contact → Vessel → Entry
meets c v = record { contact = c; target = record { motion = v; heading = None; category = PowerDriven } }

abbrev pub ahead : Entry
ahead = meets (at 0 4) (moving 0 0)

abbrev pub between : PermittedSides → ℕ → ℕ → ManoeuvreConstraints
between sides least most = record { sides = sides; least_alteration = degrees least; most_alteration = degrees most; rate_of_turn = None }

-- the ruled search of own craft north at 10 knots, in sight, wind unknown
abbrev pub searched : ℕ → List Entry → Distance → ℕ → ℕ → Result RuledManoeuvre Refusal
searched count entries desired least most = ruled_answer (record { motion = moving 0 10; heading = None; category = PowerDriven }) count entries InSight None desired (between Sides.Either least most)

abbrev pub with_rate : Result ManoeuvreConstraints Refusal → ℕ → Result ManoeuvreConstraints Refusal
with_rate (Ok c) r = with_rate_of_turn c (record { 0 = bits r })
with_rate (Err why) r = Err why

abbrev pub turning : ℕ → RateOfTurn
turning r = record { 0 = bits r }

-- an approach by the bits of its distance; a ruling that permits both sides; a turn, its figures by their bits
abbrev pub closing : ℕ → ℕ → ℕ → Track Cpa
closing distance secs nanos = Track.Closing (nearing distance secs nanos)

abbrev pub ruling : Encounter → Responsibility → Rule → Ruling
ruling encounter duty rule = record { encounter = encounter; responsibility = duty; rule = rule; manoeuvre = record { starboard = true; port = true; slow_down = true; hold = false } }

abbrev pub turn : Side → ℕ → ℕ → ℕ → Option ℕ → RuledManoeuvre
turn side magnitude course passing limiting = record { side = side; magnitude = record { 0 = bits magnitude }; course = record { 0 = bits course }; turn_time = None; least_passing = record { 0 = bits passing }; limiting = limiting }

-- a sheet of words
abbrev pub sheet : List ℕ → List ℕ
sheet [] = []
sheet (w ∷ ws) = w % 256 ∷ w / 256 % 256 ∷ w / 65536 % 256 ∷ w / 16777216 ∷ sheet ws

-- ---- figures
abbrev pub pattern : Float → ℕ
pattern x = to_bits binary64 x

-- a text as one number, to the base 256, with a 1 in front
unfoldable pub spelled : ℕ → List ℕ → ℕ
spelled n [] = n
spelled n (b ∷ bs) = spelled (n * 256 + b) bs

-- 0 closing, 1 opening, 2 stationary, 9 refused
abbrev pub kind : Result (Track Cpa) Refusal → ℕ
kind (Ok (Track.Closing cpa)) = 0
kind (Ok (Track.Opening range)) = 1
kind (Ok (Track.Stationary range)) = 2
kind (Err why) = 9

abbrev seconds_in : Option Cpa → ℕ
seconds_in None = 0
seconds_in (Some c) = c.time_to_go.secs

-- the risk's rank, the drift by its bits, and the whole seconds to go
abbrev pub risk_in : Result CollisionAssessment Refusal → ℕ
risk_in (Ok a) = rank a.risk
risk_in (Err why) = 9

abbrev pub drift_in : Result CollisionAssessment Refusal → ℕ
drift_in (Ok a) = pattern a.bearing_drift.0
drift_in (Err why) = 9

abbrev pub time_in : Result CollisionAssessment Refusal → ℕ
time_in (Ok a) = seconds_in a.cpa
time_in (Err why) = 9

-- whole seconds, and 1 where there is no time
abbrev pub seconds : Option Duration → ℕ
seconds None = 1
seconds (Some d) = d.secs

-- 1 starboard, 2 port
abbrev pub side_code : Side → ℕ
side_code Side.Starboard = 1
side_code Side.Port = 2

-- a contact's place from 1 on, 0 for nobody
abbrev limiting_code : Option ℕ → ℕ
limiting_code None = 0
limiting_code (Some place) = suc place

-- a course by its bits, 0 where there is none
abbrev course_bits : Option Direction → ℕ
course_bits None = 0
course_bits (Some d) = pattern d.0

-- of an answer: its parts, or 9 where it is refused
abbrev pub starboard_in : Result (BySide (Option Direction)) Refusal → ℕ
starboard_in (Ok c) = course_bits c.starboard
starboard_in (Err why) = 9

abbrev pub port_in : Result (BySide (Option Direction)) Refusal → ℕ
port_in (Ok c) = course_bits c.port
port_in (Err why) = 9

abbrev pub alteration_in : Result AvoidanceManoeuvre Refusal → ℕ
alteration_in (Ok m) = pattern m.alteration.0
alteration_in (Err why) = 9

abbrev pub side_in : Result RuledManoeuvre Refusal → ℕ
side_in (Ok m) = side_code m.side
side_in (Err why) = 9

abbrev pub magnitude_in : Result RuledManoeuvre Refusal → ℕ
magnitude_in (Ok m) = pattern m.magnitude.0
magnitude_in (Err why) = 9

abbrev pub course_in : Result RuledManoeuvre Refusal → ℕ
course_in (Ok m) = pattern m.course.0
course_in (Err why) = 9

abbrev pub passing_in : Result RuledManoeuvre Refusal → ℕ
passing_in (Ok m) = pattern m.least_passing.0
passing_in (Err why) = 9

abbrev pub limiting_in : Result RuledManoeuvre Refusal → ℕ
limiting_in (Ok m) = limiting_code m.limiting
limiting_in (Err why) = 9
