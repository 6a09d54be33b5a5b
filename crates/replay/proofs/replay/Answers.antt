use Rattle.std.proofs.Common.{refl, [], ◌∷◌, ◌++◌}
use Rattle.std.proofs.lemmas.Fn.{FoldsTo-push}
use Rattle.replay.specs.Record.{Answered}
use Rattle.replay.proofs.replay.Goals as goal

pub loop-init : goal.loop-init
loop-init g c = ([], refl)

pub returns-then-not-branch : goal.returns-then-not-branch
returns-then-not-branch g c = (_, c.loop.invariant.0, rw (← c.in_ok-next.ensures.ended c.if-not-branch.true) at c.loop.invariant.1)

pub loop-preserved : goal.loop-preserved
loop-preserved g c = (
  c.loop.invariant.0 ++ (c.next.new.room ∷ []),
  FoldsTo-push (Answered (g.F.Replayed.Answers c.args.f.now) _) _ c.loop.invariant.0 _ c.next.new.room _ c.loop.invariant.1
      (rw c.loop.auto.room at c.in_ok-next.ensures.answered c.if-not-branch.false),
)

pub returns : goal.returns
returns g c = (_, c.loop.invariant.0, c.loop.invariant.1)
