use Rattle.std.specs.Prelude.{◌≡◌, drop}
use Rattle.motion.specs.Check.{checked}
use Rattle.sheet.specs.Sheet.{category_checks}
use Rattle.sheet.proofs.check_categories.Given as goal

abbrev pub invariant-loop-row : goal.invariant-loop-row
invariant-loop-row l = checked (category_checks (drop l.row-index l.rows)) ≡ checked (category_checks l.rows)
