use Rattle.text.specs.Decimal.{three_decimals}
use Rattle.text.proofs.Appending.{then}
use Rattle.text.proofs.Text.thousandths.Goals as goal

pub returns : goal.returns
unfolding three_decimals
returns c =
    rw (← c.last_digit-3.ensures, ← c.last_digit-2.ensures, ← c.last_digit.ensures)
    (then _ _ _ c.number.ensures c.put.ensures)
