use Rattle.laws.proofs.Bools.{holds}
use lib.Ieee.{of_bits}
use Rattle.std.proofs.Common.{rules}
use Rattle.std.proofs.lemmas.Option.{IfSome_then}
use Rattle.trigonometry.proofs.SineCode.{castable, units_answer}
use Rattle.trigonometry.proofs.units.Goals as goal

pub then-requires : goal.then-requires
unfolding of_bits
then-requires c = λ t _ _ _ _. let held = castable c.args.x c.abs-a.result (holds c.abs-a.type_inv) c.abs-a.ensures t in (held.0, held.1)

pub returns : goal.returns
unfolding of_bits
returns c = units_answer c.args.x c.abs-a.result (holds c.abs-a.type_inv) c.abs-a.ensures c.then.result c.then.ensures.variant (IfSome_then c.then.result c.then.ensures.some (λ n h. search (rules, h)))
