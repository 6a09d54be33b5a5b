use mathlib.Core.Path.{refl}
use lib.Ieee.{of_bits}
use Rattle.text.specs.Thousandths.{thousandths_of}
use Rattle.text.proofs.decimal.thousandths.Goals as goal

pub fraction-requires : goal.fraction-requires
unfolding of_bits
fraction-requires c = (c.if-x.true, c.if-x-2.true)

pub returns-then-x : goal.returns-then-x
unfolding thousandths_of
returns-then-x c = rw (c.if-x.true, c.if-x-2.false) refl

pub returns : goal.returns
unfolding thousandths_of
returns c = rw c.if-x.false refl
