-- The smallest alteration to either side among the courses that are offered (relative_motion.rs,
-- `course_for_cpa`).
use Rattle.std.specs.Prelude.{cond, Float, None, Some}
use Rattle.std.specs.Float.Ieee.{lt}
use Rattle.laws.specs.Ops.{◌⊖◌}
use Rattle.math.specs.Fold.{half_fold}
use Rattle.relative_motion.specs.declared.best_course.Best.{Best}
use Rattle.std.specs.declared.option.Option.{Option}
use Rattle.motion.specs.declared.side.BySide.{BySide}
use Rattle.motion.specs.Check.{zero}

-- a course, by how much it alters own course, to port a negative number
abbrev pub best : Float → Float → Best
best alteration course = record { alteration = alteration; course = course }

abbrev pub smaller : Option Best → Float → Float → Option Best
smaller None alteration course = Some (best alteration course)
smaller (Some least) alteration course = cond (lt alteration least.alteration) (Some (best alteration course)) (Some least)

abbrev pub larger : Option Best → Float → Float → Option Best
larger None alteration course = Some (best alteration course)
larger (Some most) alteration course = cond (lt most.alteration alteration) (Some (best alteration course)) (Some most)

unfoldable pub offered : Float → Float → BySide (Option Best) → BySide (Option Best)
offered own_course course choice =
    let alteration = half_fold (course ⊖ own_course) in
    cond (lt zero alteration) (record { starboard = smaller choice.starboard alteration course; port = choice.port })
    (cond (lt alteration zero) (record { starboard = choice.starboard; port = larger choice.port alteration course })
    (record { starboard = choice.starboard; port = choice.port }))
