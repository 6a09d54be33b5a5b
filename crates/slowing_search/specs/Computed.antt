-- What is computed for the slowing search, from offsets, velocities and the courses' sines and
-- cosines; the same on accepted arguments (proofs/Computed.antt).
use Rattle.std.specs.Prelude.{Bool, cond, List, Float, None, Some}
use Rattle.std.specs.Option.{option_map, option_or}
use Rattle.laws.specs.First.{first}
use Rattle.laws.specs.Ops.{◌⊗◌}
use Rattle.motion.specs.declared.units.Speed.{Speed}
use Rattle.motion.specs.declared.vessel.Vessel.{Vessel}
use Rattle.motion.specs.declared.vessel.Components.{Components}
use Rattle.motion.specs.Vessel.{scaled, unit}
use Rattle.motion.specs.declared.side.BySide.{BySide}
use Rattle.motion.specs.declared.side.Side.{Side}
use Rattle.motion.specs.declared.side.Side.TheVariants.{Starboard, Port}
use Rattle.std.specs.declared.option.Option.{Option}
use Rattle.manoeuvre.specs.Trials.{trials}
use Rattle.clearance.specs.declared.contact.Moving.{Moving}
use Rattle.clearance.specs.Clearing.{altered, clears_computed}
use Rattle.avoidance.specs.declared.search.Chosen.{Chosen}
use Rattle.avoidance.specs.Search.{signed, chosen}
use Rattle.slowing_search.specs.declared.pairs.Altered.{Altered}
use Rattle.slowing_search.specs.declared.pairs.Pair.{Pair}
use Rattle.slowing_search.specs.Slowing.{with_speed}

abbrev pub part_of : Speed → Float → Speed
part_of own eighths = record { 0 = own.0 ⊗ eighths }

abbrev pub course : Vessel → Bool → Side → Float → Option Components
course own permitted side magnitude = cond permitted (Some (unit (altered own (signed side magnitude)).course.0)) None

-- of a course that is held, and of both sides'
abbrev pub towards : Option Altered → Option Components
towards None = None
towards (Some c) = Some c.towards

abbrev pub towards_both : BySide (Option Altered) → BySide (Option Components)
towards_both on = record { starboard = towards on.starboard; port = towards on.port }

abbrev pub courses : Vessel → BySide Bool → Float → BySide (Option Components)
courses own sides magnitude = record { starboard = course own sides.starboard Starboard magnitude; port = course own sides.port Port magnitude }

unfoldable pub on_side : Float → List Moving → Side → Float → Option Components → Speed → Option Chosen
on_side floor scene side magnitude None s = None
on_side floor scene side magnitude (Some u) s = chosen side magnitude (clears_computed (scaled s.0 u) floor scene)

unfoldable pub on_sides : Float → List Moving → Float → BySide (Option Components) → Speed → Option Chosen
on_sides floor scene magnitude towards s =
    option_or (on_side floor scene Starboard magnitude towards.starboard s) (on_side floor scene Port magnitude towards.port s)

abbrev pub at_speed : Float → List Moving → Float → BySide (Option Components) → Speed → Option Pair
at_speed floor scene magnitude towards s = option_map (with_speed s) (on_sides floor scene magnitude towards s)

unfoldable pub fastest : Vessel → Float → List Moving → BySide Bool → List Speed → Float → Option Pair
fastest own floor scene sides speeds magnitude = first (at_speed floor scene magnitude (courses own sides magnitude)) speeds

unfoldable pub smallest : Vessel → Float → List Moving → BySide Bool → List Speed → Float → Float → Option Pair
smallest own floor scene sides speeds least most = first (fastest own floor scene sides speeds) (trials least most)
