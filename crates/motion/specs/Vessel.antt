-- Velocities and offsets (relative_motion.rs, `Vessel::velocity`, `Vessel::from_velocity`,
-- `Contact::offset`, `relative_velocity`; 01, the leaf helpers: 'a direction's `radians` is
-- `to_radians` of its degrees, its `components` are speed × cosine and speed × sine').
use Rattle.std.specs.Prelude.{Float}
use Rattle.std.specs.Float.Ieee.{neg}
use Rattle.laws.specs.Ops.{◌⊕◌, ◌⊖◌, ◌⊗◌, ◌⊘◌}
use Rattle.math.specs.Convert.{to_radians, to_degrees}
use Rattle.math.specs.Fold.{whole_fold}
use Rattle.roots.specs.Hypot.{hypot}
use Rattle.trigonometry.specs.Sine.{sin, cos}
use Rattle.inverse_trigonometry.specs.Atan2.{atan2}
use Rattle.motion.specs.declared.units.Direction.{Direction}
use Rattle.motion.specs.declared.vessel.Vessel.{Vessel}
use Rattle.motion.specs.declared.vessel.Contact.{Contact}
use Rattle.motion.specs.declared.vessel.Components.{Components}

-- the length, the inner and the outer product
abbrev pub size : Components → Float
size c = hypot c.north c.east

abbrev pub dot : Components → Components → Float
dot a b = a.north ⊗ b.north ⊕ a.east ⊗ b.east

abbrev pub cross : Components → Components → Float
cross a b = a.north ⊗ b.east ⊖ a.east ⊗ b.north

-- part by part
abbrev pub sum : Components → Components → Components
sum a b = record { north = a.north ⊕ b.north; east = a.east ⊕ b.east }

unfoldable pub difference : Components → Components → Components
difference a b = record { north = a.north ⊖ b.north; east = a.east ⊖ b.east }

abbrev pub opposite : Components → Components
opposite c = record { north = neg c.north; east = neg c.east }

abbrev pub times : Components → Float → Components
times c k = record { north = c.north ⊗ k; east = c.east ⊗ k }

abbrev pub scaled : Float → Components → Components
scaled k c = record { north = k ⊗ c.north; east = k ⊗ c.east }

abbrev pub divided : Components → Float → Components
divided c k = record { north = c.north ⊘ k; east = c.east ⊘ k }

unfoldable pub unit : Float → Components
unit degrees = let radians = to_radians degrees in record { north = cos radians; east = sin radians }

unfoldable pub resolved : Float → Direction → Components
resolved size direction = let u = unit direction.0 in record { north = size ⊗ u.north; east = size ⊗ u.east }

unfoldable pub direction_of : Components → Direction
direction_of c = record { 0 = whole_fold (to_degrees (atan2 c.east c.north)) }

unfoldable pub velocity : Vessel → Components
velocity v = resolved v.speed.0 v.course

unfoldable pub from_velocity : Components → Vessel
from_velocity c = record { course = direction_of c; speed = record { 0 = hypot c.north c.east } }

unfoldable pub offset : Contact → Components
offset c = resolved c.range.0 c.bearing

unfoldable pub relative_velocity : Vessel → Vessel → Components
relative_velocity own target = difference (velocity target) (velocity own)
