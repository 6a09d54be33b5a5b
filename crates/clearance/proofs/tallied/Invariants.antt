use Rattle.std.specs.Prelude.{◌≡◌, None}
use Rattle.clearance.specs.Clearing.{contact_clears_computed}
use Rattle.clearance.proofs.ClearsCode.{left}
use Rattle.clearance.proofs.tallied.Given as goal

abbrev pub invariant-loop-place : goal.invariant-loop-place
invariant-loop-place l = left (contact_clears_computed l.own l.floor) l.scene l.place l.closest ≡ left (contact_clears_computed l.own l.floor) l.scene 0 None
