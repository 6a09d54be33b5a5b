-- Rows of a table of rulings: a situation, and what the ruling on it must be.
use Rattle.std.specs.Prelude.{Err, Ok}
use mathlib.Core.Bool.{Bool, true, false}
use Prim.Native.Nat.{ℕ, ◌+◌, ◌*◌}
use lib.IntN.{pos}
use lib.Ieee.{Float, binary64, of_int}
use Rattle.laws.specs.Rows.{Row, row}
use Rattle.elementary.specs.Refusal.{number_of}
use Rattle.motion.specs.declared.units.Direction.{Direction}
use Rattle.motion.specs.declared.vessel.Vessel.{Vessel}
use Rattle.motion.specs.declared.vessel.Contact.{Contact}
use Rattle.situation.specs.declared.party.VesselCategory.{VesselCategory}
use Rattle.situation.specs.declared.party.VesselCategory.TheVariants.{PowerDriven}
use Rattle.situation.specs.declared.party.Party.{Party}
use Rattle.situation.specs.declared.party.Visibility.TheVariants as Visibility
use Rattle.situation.specs.declared.party.Situation.{Situation}
use Rattle.situation.specs.declared.config.ColregsConfig.{ColregsConfig}
use Rattle.situation.specs.Situation.{party, with_heading, situation, with_wind_from, standard}
use Rattle.motion.specs.declared.side.Side.TheVariants.{Port, Starboard}
use Rattle.colregs.specs.declared.answer.Encounter.{Encounter}
use Rattle.colregs.specs.declared.answer.Encounter.TheVariants.{Overtaking, BeingOvertaken, HeadOn, Crossing}
use Rattle.colregs.specs.declared.answer.Responsibility.{Responsibility}
use Rattle.colregs.specs.declared.answer.Rule.{Rule}
use Rattle.colregs.specs.declared.answer.Ruling.{Ruling}
use Rattle.std.specs.declared.result.Result.{Result}
use Rattle.elementary.specs.declared.error.Refusal.{Refusal}
use Rattle.colregs.specs.Ruling.{rule_number}
use Rattle.colregs.specs.Text as Text
use Rattle.colregs.specs.Colregs.{ruling_answer}

-- ---- situations, in whole degrees, knots and nautical miles
abbrev pub number : ℕ → Float
number n = of_int binary64 (pos n)

abbrev pub direction : ℕ → Direction
direction degrees = record { 0 = number degrees }

abbrev pub vessel : Direction → ℕ → Vessel
vessel course speed = record { course = course; speed = record { 0 = number speed } }

abbrev pub contact : Direction → ℕ → Contact
contact bearing range = record { bearing = bearing; range = record { 0 = number range } }

-- a vessel of a category; a power-driven one; one that heads where she does not go
abbrev pub a : VesselCategory → ℕ → ℕ → Party
a category course speed = party (vessel (direction course) speed) category

abbrev pub power : ℕ → ℕ → Party
power course speed = a PowerDriven course speed

abbrev pub heads : ℕ → Party → Party
heads heading p = with_heading p (direction heading)

-- own craft, the contact's bearing and range, the target
abbrev pub seen : Party → ℕ → ℕ → Party → Situation
seen own bearing range target = situation own target (contact (direction bearing) range) Visibility.InSight

abbrev pub unseen : Party → ℕ → ℕ → Party → Situation
unseen own bearing range target = situation own target (contact (direction bearing) range) Visibility.Restricted

abbrev pub wind : ℕ → Situation → Situation
wind from s = with_wind_from s (direction from)

-- ---- rulings as figures: encounter, duty, rule, and what is permitted: starboard, port, slowing down, holding on
abbrev encounter_code : Encounter → ℕ
encounter_code Overtaking = 0
encounter_code BeingOvertaken = 1
encounter_code HeadOn = 2
encounter_code (Crossing Port) = 3
encounter_code (Crossing Starboard) = 4

abbrev bit : Bool → ℕ
bit true = 1
bit false = 0

abbrev code : Encounter → Responsibility → Rule → Bool → Bool → Bool → Bool → ℕ
code e duty rule starboard port slow_down hold =
    10000000 + (((((encounter_code e * 10 + Text.code duty) * 100 + rule_number rule) * 10 + bit starboard) * 10 + bit port) * 10 + bit slow_down) * 10 + bit hold

abbrev code_of : Result Ruling Refusal → ℕ
code_of (Ok r) = code r.encounter r.responsibility r.rule r.manoeuvre.starboard r.manoeuvre.port r.manoeuvre.slow_down r.manoeuvre.hold
code_of (Err why) = number_of why

abbrev pub rules_by : ColregsConfig → Situation → Encounter → Responsibility → Rule → Bool → Bool → Bool → Bool → Row
rules_by config s e duty rule starboard port slow_down hold = row (code_of (ruling_answer s config)) (code e duty rule starboard port slow_down hold)

abbrev pub rules : Situation → Encounter → Responsibility → Rule → Bool → Bool → Bool → Bool → Row
rules s e duty rule starboard port slow_down hold = rules_by standard s e duty rule starboard port slow_down hold

abbrev pub refuses : Situation → ColregsConfig → ℕ → Row
refuses s config wanted = row (code_of (ruling_answer s config)) wanted
