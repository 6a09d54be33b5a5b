-- How long the lines are at most, so that a program can show that what it prints fits the room: the lines on 57 contacts and the answer do.
use Rattle.std.specs.Prelude.{None, Some}
use Prim.Native.Nat.{ℕ, ◌+◌, ◌*◌, ◌≤◌}
use native.Mathlib.Omega.{arith}
use lib.Dec.{lit≤}
use lib.ListN.{length, length-append}
use lib.Ieee.{Float}
use Rattle.text.specs.Thousandths.{thousandths_of}
use Rattle.text.specs.Text.{room, bytes}
use Rattle.text.specs.Decimal.{decimal_of, digits_up_to}
use Rattle.text.proofs.Digits.{decimal_short, decimals_short}
use Rattle.lines.specs.Approach.{quantity_field, approach_field, distance_of, seconds_field, risk_field}
use Rattle.lines.specs.Ruling.{encounter_field, responsibility_field}
use Rattle.elementary.specs.declared.error.Refusal.{Refusal}
use Rattle.elementary.specs.Refusal.{number_of}
use Rattle.motion.specs.declared.units.Distance.{Distance}
use Rattle.relative_motion.specs.declared.approach.Cpa.{Cpa}
use Rattle.relative_motion.specs.declared.approach.Track.{Track}
use Rattle.assessment.specs.declared.risk.CollisionRisk.{CollisionRisk}
use Rattle.assessment.specs.declared.risk.CollisionRisk.TheVariants as Risk
use Rattle.colregs.specs.declared.answer.Ruling.{Ruling}
use Rattle.colregs.specs.declared.answer.Encounter.{Encounter}
use Rattle.colregs.specs.declared.answer.Responsibility.{Responsibility}
use Rattle.colregs.specs.declared.answer.Rule.{Rule}
use Rattle.colregs.specs.Ruling.{rule_number}
use Rattle.motion.specs.declared.side.Side.{Side}
use Rattle.std.specs.declared.option.Option.{Option}
use Rattle.ruled_search.specs.declared.RuledManoeuvre.{RuledManoeuvre}
use Rattle.lines.specs.Lines.{contact_line, side_field, passing_field, limiting_field, alter_line, refused_line}

quantity_short : (x : Float) → length (quantity_field x) ≤ 24
quantity_short x = decimals_short (thousandths_of x)

approach_short : (a : Track Cpa) → length (approach_field a) ≤ 10
unfolding bytes
approach_short (Track.Closing cpa) = lit≤ tt
approach_short (Track.Opening range) = lit≤ tt
approach_short (Track.Stationary range) = lit≤ tt

seconds_short : (a : Track Cpa) → length (seconds_field a) ≤ 20
unfolding bytes
seconds_short (Track.Closing cpa) = decimal_short cpa.time_to_go.secs
seconds_short (Track.Opening range) = lit≤ tt
seconds_short (Track.Stationary range) = lit≤ tt

risk_short : (k : CollisionRisk) → length (risk_field k) ≤ 10
unfolding bytes
risk_short Risk.Opening = lit≤ tt
risk_short Risk.Passing = lit≤ tt
risk_short Risk.Developing = lit≤ tt
risk_short Risk.Dangerous = lit≤ tt

encounter_short : (e : Encounter) → length (encounter_field e) ≤ 15
unfolding bytes
encounter_short Encounter.Overtaking = lit≤ tt
encounter_short Encounter.BeingOvertaken = lit≤ tt
encounter_short Encounter.HeadOn = lit≤ tt
encounter_short (Encounter.Crossing Side.Starboard) = lit≤ tt
encounter_short (Encounter.Crossing Side.Port) = lit≤ tt

responsibility_short : (d : Responsibility) → length (responsibility_field d) ≤ 12
unfolding bytes
responsibility_short Responsibility.GiveWay = lit≤ tt
responsibility_short Responsibility.StandOn = lit≤ tt
responsibility_short Responsibility.Both = lit≤ tt
responsibility_short Responsibility.Undetermined = lit≤ tt

rule_short : (r : Rule) → length (decimal_of (rule_number r)) ≤ 2
unfolding decimal_of digits_up_to
rule_short Rule.Rule12 = lit≤ tt
rule_short Rule.Rule13 = lit≤ tt
rule_short Rule.Rule14 = lit≤ tt
rule_short Rule.Rule15 = lit≤ tt
rule_short Rule.Rule17 = lit≤ tt
rule_short Rule.Rule18 = lit≤ tt
rule_short Rule.Rule19 = lit≤ tt

pub contact_short : (id : ℕ) (a : Track Cpa) (k : CollisionRisk) (g : Ruling) → length (contact_line id a k g) ≤ 129
unfolding contact_line bytes
contact_short id a k g = simp length-append (omega (arith, decimal_short id, approach_short a, quantity_short (distance_of a).0, seconds_short a, risk_short k, encounter_short g.encounter, responsibility_short g.responsibility, rule_short g.rule))

side_short : (s : Side) → length (side_field s) ≤ 1
unfolding bytes
side_short Side.Starboard = lit≤ tt
side_short Side.Port = lit≤ tt

passing_short : (l : Option ℕ) (d : Distance) → length (passing_field l d) ≤ 24
unfolding bytes
passing_short None d = lit≤ tt
passing_short (Some place) d = quantity_short d.0

limiting_short : (l : Option ℕ) (id : ℕ) → length (limiting_field l id) ≤ 20
unfolding bytes
limiting_short None id = lit≤ tt
limiting_short (Some place) id = decimal_short id

pub alter_short : (m : RuledManoeuvre) (id : ℕ) → length (alter_line m id) ≤ 104
unfolding alter_line bytes
alter_short m id = simp length-append (omega (arith, side_short m.side, quantity_short m.magnitude.0, quantity_short m.course.0, passing_short m.limiting m.least_passing, limiting_short m.limiting id))

pub refused_short : (why : Refusal) → length (refused_line why) ≤ 29
unfolding refused_line bytes
refused_short why = simp length-append (omega (arith, decimal_short (number_of why)))

-- the lines on 57 contacts and one more line
pub fits : 57 * 129 + 104 ≤ room
fits = lit≤ tt
