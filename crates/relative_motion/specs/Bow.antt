-- The range ahead at which a contact crosses own track (relative_motion.rs, `bow_crossing_range`),
-- operation by operation.
use Rattle.std.specs.Prelude.{cond, ◌||◌, Float, Err, Ok}
use Rattle.std.specs.Float.{binary64}
use Rattle.std.specs.Float.Ieee.{neg, lt, le, of_bits}
use Rattle.laws.specs.Ops.{◌⊕◌, ◌⊖◌, ◌⊗◌, ◌⊘◌}
use Rattle.math.specs.Sign.{abs}
use Rattle.math.specs.Test.{larger}
use Rattle.elementary.specs.declared.error.Refusal.TheVariants as Why
use Rattle.std.specs.declared.result.Result.{Result}
use Rattle.elementary.specs.declared.error.Refusal.{Refusal}
use Rattle.motion.specs.declared.units.Distance.{Distance}
use Rattle.motion.specs.declared.vessel.Vessel.{Vessel}
use Rattle.motion.specs.declared.vessel.Contact.{Contact}
use Rattle.motion.specs.declared.vessel.Components.{Components}
use Rattle.motion.specs.Check.{zero, verdict, encounter_checks}
use Rattle.motion.specs.Vessel.{unit, offset, relative_velocity}

-- 1e-12 and 1e-9
abbrev pub parallel : Float
parallel = of_bits binary64 0x3d71_9799_812d_ea11

abbrev pub tolerance : Float
tolerance = of_bits binary64 0x3e11_2e0b_e826_d695

-- `.max(0.0)`: what is below 0, and what is no number, is 0
abbrev pub not_negative : Float → Float
not_negative x = larger zero x

unfoldable pub determinant : Components → Components → Float
determinant relative ahead = relative.north ⊗ neg ahead.east ⊖ relative.east ⊗ neg ahead.north

unfoldable pub crossing : Float → Components → Components → Components → Result Distance Refusal
crossing range position relative ahead =
    let d = determinant relative ahead in
    let time = (neg position.north ⊗ neg ahead.east ⊕ position.east ⊗ neg ahead.north) ⊘ d in
    let range_ahead = (relative.east ⊗ position.north ⊖ relative.north ⊗ position.east) ⊘ d in
    cond (lt (abs d) parallel) (Err Why.AlongOwnTrack)
    (cond (le time zero || lt range_ahead (neg (range ⊗ tolerance))) (Err Why.NotAhead)
    (Ok (record { 0 = not_negative range_ahead })))

abbrev pub bow_if_accepted : Result (Unit {0}) Refusal → Result Distance Refusal → Result Distance Refusal
bow_if_accepted (Ok tt) a = a
bow_if_accepted (Err why) a = Err why

unfoldable pub bow_answer : Vessel → Contact → Vessel → Result Distance Refusal
bow_answer own contact target =
    bow_if_accepted (verdict (encounter_checks own contact target) (Ok tt))
    (crossing contact.range.0 (offset contact) (relative_velocity own target) (unit own.course.0))
