use mathlib.Core.Path.{refl, ap, ◌∙◌}
use native.Mathlib.Omega.{arith}
use Rattle.laws.proofs.Fold.{fold_turn, fold_end}
use Rattle.text.specs.Text.{appended}
use Rattle.text.proofs.Joined.{with_piece, joined}
use Rattle.text.proofs.Text.each.Goals as goal

pub loop-x-init : goal.loop-x-init
loop-x-init g c = refl

pub loop-x-preserved : goal.loop-x-preserved
loop-x-preserved g c =
    fold_turn (with_piece _) c.loop-x.self _ c.args.items.now c.loop-x.x-index c.x-item.result c.loop-x-test.true (c.put.ensures ∙ ap (λ x. appended c.loop-x.self (g.P.Pieces.piece c.args.pieces.now x)) c.x-item.is)
    ∙ c.loop-x.invariant

pub returns : goal.returns
returns g c =
    fold_end _ _ _ c.args.items.now c.loop-x.x-index (omega (arith, c.loop-x-test.false, c.loop-x.auto.x-index-end)) c.loop-x.invariant
    ∙ joined _ c.args.self.now c.args.items.now (rw (← c.as_bytes.ensures.value) c.as_bytes.ensures.fits)
