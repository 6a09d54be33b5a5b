use Rattle.std.proofs.Common.{rules}
use lib.Ieee.{of_bits}
use Rattle.laws.proofs.Bools.{holds}
use Rattle.trigonometry.proofs.SineCode.{asked, cos_answer}
use Rattle.trigonometry.proofs.cos.Goals as goal

pub map_or-requires : goal.map_or-requires
map_or-requires c = λ n e _ _ _. asked c.args.x (holds c.well_formed.0.1) n c.units.result e c.units.ensures

pub returns : goal.returns
unfolding of_bits
returns c = cos_answer c.args.x (holds c.well_formed.0.1) c.units.result c.units.ensures c.map_or.result _ c.map_or.ensures (λ n h. search (rules, h))
