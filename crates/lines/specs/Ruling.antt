-- The fields of a contact's line that come from its ruling, after document 01, 'Encounter sheet and
-- its program': 'encounter (others: BEING-OVERTAKEN, HEAD-ON, CROSSING-S, CROSSING-P),
-- responsibility (STANDON, BOTH, UNDETERMINED)', after OVERTAKING and GIVEWAY.
use Rattle.std.specs.Prelude.{List, ℕ}
use Rattle.text.specs.Text.{bytes}
use Rattle.motion.specs.declared.side.Side.{Side}
use Rattle.colregs.specs.declared.answer.Encounter.{Encounter}
use Rattle.colregs.specs.declared.answer.Responsibility.{Responsibility}

-- by the side of own craft on which the target is
abbrev pub crossing_field : Side → List ℕ
crossing_field Side.Starboard = bytes "CROSSING-S"
crossing_field Side.Port = bytes "CROSSING-P"

abbrev pub encounter_field : Encounter → List ℕ
encounter_field Encounter.Overtaking = bytes "OVERTAKING"
encounter_field Encounter.BeingOvertaken = bytes "BEING-OVERTAKEN"
encounter_field Encounter.HeadOn = bytes "HEAD-ON"
encounter_field (Encounter.Crossing side) = crossing_field side

abbrev pub responsibility_field : Responsibility → List ℕ
responsibility_field Responsibility.GiveWay = bytes "GIVEWAY"
responsibility_field Responsibility.StandOn = bytes "STANDON"
responsibility_field Responsibility.Both = bytes "BOTH"
responsibility_field Responsibility.Undetermined = bytes "UNDETERMINED"
