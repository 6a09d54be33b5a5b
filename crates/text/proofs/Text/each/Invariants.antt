use Rattle.std.specs.Prelude.{◌≡◌, drop}
use Rattle.laws.specs.Fold.{fold}
use Rattle.text.proofs.Joined.{with_piece}
use Rattle.text.proofs.Text.each.Given as goal

abbrev pub invariant-loop-x : goal.invariant-loop-x
invariant-loop-x g l =
    fold (with_piece (g.P.Pieces.piece l.pieces)) l.self (drop l.x-index l.items) ≡ fold (with_piece (g.P.Pieces.piece l.pieces)) l.initial.self l.items
