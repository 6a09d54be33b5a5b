use Rattle.std.specs.Prelude.{◌≡◌}
use Rattle.motion.proofs.Made.{made}
use Rattle.clearance.proofs.Loops.{moving_of}
use Rattle.clearance.proofs.traffic.scene_of.Given as goal

abbrev pub invariant-loop-e : goal.invariant-loop-e
invariant-loop-e l = l.scene.items ≡ made moving_of l.held l.e-index
