use mathlib.Core.Path.{sym}
use Rattle.clearance.proofs.ClearsCode.{asked_blocks}
use Rattle.clearance.proofs.clears_from.Goals as goal

pub returns-then-is_blocker : goal.returns-then-is_blocker
returns-then-is_blocker c =
    sym (asked_blocks c.args.own c.args.floor c.args.scene.now _ _ c.if-place-scene.true (c.is_blocker.ensures c.if-is_blocker.true))
