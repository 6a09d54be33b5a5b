use mathlib.Core.Path.{sym, ◌∙◌}
use Rattle.clearance.proofs.ClearsCode.{some_blocks}
use Rattle.clearance.proofs.clears.Goals as goal

pub returns-then-is_some : goal.returns-then-is_some
returns-then-is_some c = sym (some_blocks c.args.own c.args.floor c.args.scene.now _ c.blocker.ensures (sym c.is_some.ensures ∙ c.if-is_some.true))
