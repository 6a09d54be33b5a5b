use Rattle.std.specs.Prelude.{ℕ, List, length}
use Rattle.std.specs.List.{FoldsTo}
use Rattle.replay.specs.Record.{Answered}
use Rattle.replay.proofs.replay.Given as goal

abbrev pub invariant-loop : goal.invariant-loop
invariant-loop g l =
    (records : List (List ℕ)) × FoldsTo (Answered (g.F.Replayed.Answers l.f) (length l.initial.room))
    (g.R.Read.remaining l.initial.input, g.W.Write.contents l.initial.output) records (g.R.Read.remaining l.input, g.W.Write.contents l.output)
