-- The seeds of `avoid` and the choice of a side and of both (avoidance.rs, `avoid` and `search`;
-- 01, 'Trial list': 'in `avoid` a side's seed (from `course_for_cpa`, on that side, raised to
-- least, not above most) is its choice if it clears, else the first grid trial that clears. The
-- smaller choice wins, starboard on equality').
use Rattle.std.specs.Prelude.{Bool, true, false, cond, List, Float, None, Some, Err, Ok}
use Rattle.std.specs.Option.{option_or}
use Rattle.std.specs.Float.Ieee.{lt, le}
use Rattle.laws.specs.Ops.{◌⊖◌}
use Rattle.math.specs.Sign.{abs}
use Rattle.math.specs.Test.{larger}
use Rattle.math.specs.Fold.{half_fold}
use Rattle.motion.specs.declared.units.Direction.{Direction}
use Rattle.motion.specs.declared.vessel.Vessel.{Vessel}
use Rattle.motion.specs.Check.{zero}
use Rattle.avoidance.specs.declared.search.Chosen.{Chosen}
use Rattle.clearance.specs.declared.Clearance.{Clearance}
use Rattle.std.specs.declared.option.Option.{Option}
use Rattle.std.specs.declared.result.Result.{Result}
use Rattle.elementary.specs.declared.error.Refusal.{Refusal}
use Rattle.motion.specs.declared.side.Side.{Side}
use Rattle.motion.specs.declared.side.Side.TheVariants.{Starboard, Port}
use Rattle.manoeuvre.specs.declared.constraints.ManoeuvreConstraints.{ManoeuvreConstraints}
use Rattle.manoeuvre.specs.Constraints.{permits_starboard, permits_port}
use Rattle.manoeuvre.specs.Trials.{trials}
use Rattle.motion.specs.declared.side.BySide.{BySide}
use Rattle.avoidance.specs.Search.{signed, chosen, first, smaller}

-- ---- the seeds: the exact courses, none where there is no such course
abbrev pub no_courses : BySide (Option Direction)
no_courses = record { starboard = None; port = None }

abbrev pub courses_or_none : Result (BySide (Option Direction)) Refusal → BySide (Option Direction)
courses_or_none (Ok a) = a
courses_or_none (Err why) = no_courses

-- on that side, raised to least
abbrev pub raised : Float → Float → Float
raised least a = larger a least

unfoldable pub seed : Side → Float → Float → Option Float
seed side least alteration = cond (lt zero (signed side alteration)) (Some (raised least (abs alteration))) None

abbrev pub optional_seed : Direction → Side → Float → Option Direction → Option Float
optional_seed own side least None = None
optional_seed own side least (Some course) = seed side least (half_fold (course.0 ⊖ own.0))

-- not above most, and it clears
abbrev pub seed_choice : (Float → Option Clearance) → Side → Float → Option Float → Option Chosen
seed_choice clears side most None = None
seed_choice clears side most (Some m) = cond (le m most) (chosen side m (clears m)) None

-- ---- the choice of a side, and of both
unfoldable pub seeded_side : Bool → (Float → Option Clearance) → Side → Float → Option Float → List Float → Option Chosen
seeded_side permitted clears side most seed magnitudes =
    cond permitted (option_or (seed_choice clears side most seed) (first clears side magnitudes)) None

unfoldable pub seeded_choice : Vessel → (Side → Float → Option Clearance) → BySide (Option Direction) → ManoeuvreConstraints → Option Chosen
seeded_choice own clears courses c =
    let least = c.least_alteration.0 in
    let most = c.most_alteration.0 in
    let to_starboard = optional_seed own.course Starboard least courses.starboard in
    let to_port = optional_seed own.course Port least courses.port in
    smaller
    (seeded_side (permits_starboard c.sides) (clears Starboard) Starboard most to_starboard (trials least most))
    (seeded_side (permits_port c.sides) (clears Port) Port most to_port (trials least most))

abbrev pub only : Side → BySide Bool
only Starboard = record { starboard = true; port = false }
only Port = record { starboard = false; port = true }
