use Rattle.std.specs.Prelude.{◌≡◌}
use Rattle.motion.proofs.Made.{made}
use Rattle.sheet.specs.Values.{entry_of}
use Rattle.sheet.proofs.values.traffic_of.Given as goal

abbrev pub invariant-loop-row : goal.invariant-loop-row
invariant-loop-row l = l.t.items ≡ made entry_of l.listed l.row-index
