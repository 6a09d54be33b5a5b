use Rattle.std.proofs.Common.{arith}
use lib.Ieee.{of_bits}
use Rattle.laws.proofs.Bools.{holds}
use Rattle.trigonometry.proofs.SineCode.{small-rest, sin-tiny, sin-negative, sin_positive, sin_outside}
use Rattle.trigonometry.proofs.sin.Goals as goal

pub returns-then-abs : goal.returns-then-abs
returns-then-abs c = sin-tiny c.args.x c.abs.result c.abs.ensures c.if-abs.true

pub turned-y-requires : goal.turned-y-requires
turned-y-requires c = let u = c.in-Some.ensures in (u.2, omega arith, small-rest c.args.x (holds c.well_formed.0.1) u.0 c.in-Some.n u.1)

pub returns-then-x : goal.returns-then-x
returns-then-x c = let u = c.in-Some.ensures in sin-negative c.args.x (holds c.well_formed.0.1) u.0 c.in-Some.n u.1 c.abs.result _ c.abs.ensures c.if-abs.false c.turned-y.ensures c.if-x.true

pub returns-else-x : goal.returns-else-x
returns-else-x c = let u = c.in-Some.ensures in sin_positive c.args.x (holds c.well_formed.0.1) u.0 c.in-Some.n u.1 c.abs.result _ c.abs.ensures c.if-abs.false c.turned-y.ensures c.if-x.false

pub returns-in_default : goal.returns-in_default
unfolding of_bits
returns-in_default c = sin_outside c.args.x c.abs.result c.abs.ensures c.if-abs.false c.in_default.ensures
