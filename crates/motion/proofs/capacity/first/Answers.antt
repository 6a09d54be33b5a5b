use mathlib.Core.Path.{ap, ◌∙◌}
use native.Mathlib.Omega.{arith}
use lib.ListN.{take}
use Rattle.motion.specs.Capacity.{max_contacts}
use Rattle.std.proofs.lemmas.List.{take_min}
use Rattle.motion.proofs.capacity.first.Goals as goal

pub returns-clause-value : goal.returns-clause-value
returns-clause-value g c = ap (λ n. take n c.args.list.now) (omega (arith, c.held.ensures)) ∙ take_min max_contacts c.args.list.now
