use Rattle.std.specs.Prelude.{◌≡◌, take, drop}
use Rattle.motion.specs.Check.{checked}
use Rattle.clearance.specs.Traffic.{HeldEntries, contacts_checks}
use Rattle.clearance.proofs.traffic.check_contacts.Given as goal

abbrev pub invariant-loop-e : goal.invariant-loop-e
invariant-loop-e l = HeldEntries (take l.e-index l.t) × (checked (contacts_checks (drop l.e-index l.t)) ≡ checked (contacts_checks l.t))
