use native.Mathlib.Omega.{arith}
use Rattle.laws.proofs.Bools.{holds}
use Rattle.text.proofs.Places.{place_le, too_small, by_parts}
use Rattle.text.proofs.decimal.fraction.Goals as goal

pub returns-then-place-lt1011 : goal.returns-then-place-lt1011
returns-then-place-lt1011 c = too_small c.args.x (holds c.well_formed.0.1) c.requires.0 c.requires.1 c.of_pattern-digits.result c.of_pattern-digits.ensures c.if-place-lt1011.true

pub overflow_sub-place : goal.overflow_sub-place
overflow_sub-place c = omega (arith, place_le c.args.x (holds c.well_formed.0.1) c.requires.0 c.requires.1 c.of_pattern-digits.result c.of_pattern-digits.ensures)

pub returns : goal.returns
returns c = by_parts c.args.x (holds c.well_formed.0.1) c.requires.0 c.requires.1 c.of_pattern-digits.result c.of_pattern-digits.ensures _ _ (c.power_of_two.ensures.power (omega arith)) c.nearest.ensures
