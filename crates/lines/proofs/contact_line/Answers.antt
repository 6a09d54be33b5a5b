use Rattle.text.specs.Text.{bytes}
use Rattle.text.proofs.Appending.{then}
use Rattle.lines.specs.Lines.{contact_line}
use Rattle.lines.proofs.contact_line.Goals as goal

pub returns : goal.returns
unfolding bytes contact_line
returns c =
    rw (← c.number-2.ensures, ← c.distance.ensures)
    (then _ _ _ c.put.ensures
    (then _ _ _ c.number.ensures
    (then _ _ _ c.approach.ensures
    (then _ _ _ c.quantity.ensures
    (then _ _ _ c.seconds.ensures
    (then _ _ _ c.risk.ensures
    (then _ _ _ c.encounter.ensures
    (then _ _ _ c.responsibility.ensures
    (then _ _ _ c.number-3.ensures c.byte.ensures)))))))))
