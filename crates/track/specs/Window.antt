-- The window of the latest plots (track.rs, `extend`, with document 02's 8 in place of 12: 'A ninth
-- plot pushes out the oldest. A refused plot leaves the window as it was').
use Rattle.std.specs.Prelude.{◌≡◌, ℕ, ◌-◌, ◌<◌, List, [], ◌∷◌, ◌++◌, length, take, drop, slice_get, Ok, Err}
use Rattle.std.specs.declared.option.Option.{Option}
use Rattle.std.specs.declared.result.Result.{Result}
use Rattle.elementary.specs.declared.error.Refusal.{Refusal}
use Rattle.motion.specs.Check.{checked}
use Rattle.track.specs.declared.window.Fix.{Fix}
use Rattle.track.specs.declared.window.Plot.{Plot}
use Rattle.track.specs.declared.window.Window.{Window}
use Rattle.track.specs.Limits.{max_track_history}
use Rattle.track.specs.Plot.{plot_checks, fix_of}

-- what a window holds, oldest first
abbrev pub fixes : Window → List Fix
fixes w = take w.count w.fixes

abbrev pub newest : List Fix → Option Fix
newest fs = slice_get fs (length fs - 1)

-- the last n of a list
unfoldable pub latest : {A : Type 0} → ℕ → List A → List A
latest n xs = drop (length xs - n) xs

-- what a list says of a plot that is handed in next
abbrev pub verdict_on : List Fix → Plot → Result (Unit {0}) Refusal
verdict_on fs p = checked (plot_checks (newest fs) p)

abbrev pub if_kept : Result (Unit {0}) Refusal → List Fix → List Fix → List Fix
if_kept (Ok tt) new old = new
if_kept (Err why) new old = old

-- a window after a plot
unfoldable pub added : List Fix → Plot → List Fix
added fs p = if_kept (verdict_on fs p) (latest max_track_history (fs ++ fix_of p ∷ [])) fs

-- document 02's sentences on a plot that is handed to a window, and what the window holds after it
pub record Adds (before : List Fix) (p : Plot) (verdict : Result (Unit {0}) Refusal) (after : List Fix) : Type 0 where
  -- 'a refused plot leaves the window as it was'
  pub refused : (why : Refusal) → verdict ≡ Err why → after ≡ before
  -- a plot that is accepted is the newest after that, behind those before it while there is room
  pub accepted : verdict ≡ Ok tt → length before < 8 → after ≡ before ++ fix_of p ∷ []
  -- 'a ninth plot pushes out the oldest'
  pub ninth : (oldest : Fix) (others : List Fix) → before ≡ oldest ∷ others → verdict ≡ Ok tt → length before ≡ 8 → after ≡ others ++ fix_of p ∷ []
