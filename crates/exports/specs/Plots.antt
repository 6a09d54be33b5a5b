-- A run of plots that is handed to an empty window, one after the other, and what is read off it.
use Rattle.std.specs.Prelude.{cond, List, [], ℕ, ◌-◌, ◌/◌, ◌%◌, eqb, length, slice_get, Some, None, Ok}
use Rattle.std.specs.declared.option.Option.{Option}
use Rattle.std.specs.declared.result.Result.{Result}
use Rattle.laws.specs.Fold.{fold}
use Rattle.elementary.specs.Refusal.{answer_number}
use Rattle.elementary.specs.declared.error.Refusal.{Refusal}
use Rattle.track.specs.declared.window.Fix.{Fix}
use Rattle.track.specs.declared.window.Plot.{Plot}
use Rattle.track.specs.declared.window.Added.{Added}
use Rattle.track.specs.Window.{fixes, verdict_on, added}
use Rattle.exports.specs.Answers.{pattern}

-- the verdict on the last plot, and what the window holds after it
pub record Run : Type 0 where
  pub verdict : Result (Unit {0}) Refusal
  pub held : List Fix

abbrev pub before : Run
before = record { verdict = Ok tt; held = [] }

abbrev pub with_plot : Run → Plot → Run
with_plot r p = record { verdict = verdict_on r.held p; held = added r.held p }

unfoldable pub run : List Plot → Run
run ps = fold with_plot before ps

-- what a run's answer shows
abbrev pub seen : Added → Run
seen a = record { verdict = a.verdict; held = fixes a.window }

-- ---- its words: 0 the number of the verdict, 1 how many plots the window holds, then three for each
-- of these, north, east and the second; 0 beyond the last
abbrev pub of_fix : Option Fix → ℕ → ℕ
of_fix None place = 0
of_fix (Some f) place = cond (eqb place 0) (pattern f.offset.north) (cond (eqb place 1) (pattern f.offset.east) f.seconds)

unfoldable pub window_word : Run → ℕ → ℕ
window_word r part =
    cond (eqb part 0) (answer_number r.verdict)
    (cond (eqb part 1) (length r.held)
    (of_fix (slice_get r.held ((part - 2) / 3)) ((part - 2) % 3)))
