-- Runs of plots (document 02, R-5: 'After any run of plots from an empty window the fit equals the
-- fit worked out afresh over the latest 8 accepted ones').
use Rattle.std.specs.Prelude.{◌≡◌, List, [], ◌∷◌, ◌++◌}
use Rattle.laws.specs.Fold.{fold}
use Rattle.track.specs.declared.window.Fix.{Fix}
use Rattle.track.specs.declared.window.Plot.{Plot}
use Rattle.track.specs.Plot.{fix_of}
use Rattle.track.specs.Window.{latest, verdict_on, if_kept, added}
use Rattle.track.specs.Fit.{fit_answer}

-- the plots of a run that are accepted, all of them, each checked against the last one before it
abbrev pub accept : List Fix → Plot → List Fix
accept fs p = if_kept (verdict_on fs p) (fs ++ fix_of p ∷ []) fs

unfoldable pub accepted : List Plot → List Fix
accepted ps = fold accept [] ps

-- what a window holds after a run that is handed to an empty one, plot by plot
unfoldable pub window_after : List Plot → List Fix
window_after ps = fold added [] ps

pub record OverRuns (ps : List Plot) : Type 0 where
  pub window : window_after ps ≡ latest 8 (accepted ps)
  pub fit : fit_answer (window_after ps) ≡ fit_answer (latest 8 (accepted ps))
  -- a plot that is handed in next gets the same verdict from both
  pub verdict : (p : Plot) → verdict_on (window_after ps) p ≡ verdict_on (accepted ps) p
