use lib.Ieee.{of_bits}
use Rattle.laws.proofs.Bools.{holds}
use Rattle.laws.proofs.Pattern.{no_nan_bits}
use Rattle.roots.proofs.SqrtCode.{infinite_root, taken_fits, taken_root, zero_root, no_root}
use Rattle.roots.proofs.sqrt.Goals as goal

pub returns-then-x-2 : goal.returns-then-x-2
unfolding of_bits
returns-then-x-2 c = infinite_root c.args.x c.if-x-2.true

pub of-n-requires : goal.of-n-requires
unfolding of_bits
of-n-requires c = taken_fits c.args.x (holds c.well_formed.0.1) c.if-x.true c.if-x-2.false c.of_pattern.result c.of_pattern.ensures

pub float_from_bits-result : goal.float_from_bits-result
float_from_bits-result c = no_nan_bits c.root_pattern.result c.root_pattern.ensures.1

pub returns-then-x : goal.returns-then-x
unfolding of_bits
returns-then-x c = let n = c.of-n.result in taken_root c.args.x (holds c.well_formed.0.1) c.if-x.true c.if-x-2.false c.of_pattern.result c.of_pattern.ensures n.m n.j c.root_pattern.result c.of-n.ensures n.leading n.digits n.least n.most c.root_pattern.ensures.0

pub returns-then-x-3 : goal.returns-then-x-3
unfolding of_bits
returns-then-x-3 c = zero_root c.args.x c.if-x-3.true

pub returns : goal.returns
unfolding of_bits
returns c = no_root c.args.x c.if-x.false c.if-x-3.false
