use mathlib.Core.Path.{ap, ◌∙◌}
use Rattle.math.specs.Fold.{turned}
use Rattle.math.proofs.AngleCode.{full, not_full}
use Rattle.math.proofs.angle.wrap360.Goals as goal

pub returns-then-turned : goal.returns-then-turned
returns-then-turned c =
    full c.args.degrees c.not_below_zero-turned.result (c.not_below_zero-turned.ensures ∙ ap turned c.remainder-rest.ensures) c.if-turned.true

pub returns-else-turned : goal.returns-else-turned
returns-else-turned c =
    not_full c.args.degrees c.not_below_zero-turned.result (c.not_below_zero-turned.ensures ∙ ap turned c.remainder-rest.ensures) c.if-turned.false
