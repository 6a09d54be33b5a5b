-- After any run of plots the window holds the latest of those that were accepted, by induction on the run: what a window keeps of
-- the plots so far decides of the next one as all of them do.
use Rattle.std.specs.Prelude.{Ok, Err}
use mathlib.Core.Path.{◌≡◌, refl, ap, ◌∙◌}
use mathlib.Core.List.{List, [], ◌∷◌, ◌++◌}
use Prim.Native.Nat.{◌-◌}
use Rattle.std.specs.declared.result.Result.{Result}
use Rattle.laws.specs.Fold.{fold}
use Rattle.elementary.specs.declared.error.Refusal.{Refusal}
use Rattle.motion.specs.Check.{checked}
use Rattle.track.specs.declared.window.Fix.{Fix}
use Rattle.track.specs.declared.window.Plot.{Plot}
use Rattle.track.specs.Limits.{max_track_history}
use Rattle.track.specs.Plot.{plot_checks, fix_of}
use Rattle.track.specs.Window.{latest, verdict_on, if_kept, added}
use Rattle.track.specs.Fit.{fit_answer}
use Rattle.track.specs.Run.{accept, accepted, window_after, OverRuns}
use Rattle.track.proofs.Latest.{latest_next, last_of_latest}

-- the latest of all decide as all do: the newest is the same
same_verdict : (fs : List Fix) (p : Plot) → verdict_on (latest max_track_history fs) p ≡ verdict_on fs p
same_verdict fs p = ap (λ o. checked (plot_checks o p)) (last_of_latest (max_track_history - 1) fs)

latest_of : (v : Result (Unit {0}) Refusal) (new old : List Fix)
    → if_kept v (latest max_track_history new) (latest max_track_history old) ≡ latest max_track_history (if_kept v new old)
latest_of (Ok tt) new old = refl
latest_of (Err why) new old = refl

step : (fs : List Fix) (p : Plot) → added (latest max_track_history fs) p ≡ latest max_track_history (accept fs p)
unfolding added
step fs p =
    (λ i. if_kept (same_verdict fs p i) (latest_next max_track_history fs (fix_of p) i) (latest max_track_history fs))
    ∙ latest_of (verdict_on fs p) (fs ++ fix_of p ∷ []) fs

run_from : (ps : List Plot) (fs : List Fix) → fold added (latest max_track_history fs) ps ≡ latest max_track_history (fold accept fs ps)
unfolding fold
run_from [] fs = refl
run_from (p ∷ ps) fs = ap (λ w. fold added w ps) (step fs p) ∙ run_from ps (accept fs p)

pub window_is : (ps : List Plot) → window_after ps ≡ latest max_track_history (accepted ps)
unfolding window_after accepted latest
window_is ps = run_from ps []

-- the promise over runs
pub over_runs : (ps : List Plot) → OverRuns ps
over_runs ps = record {
  window = window_is ps;
  fit = ap fit_answer (window_is ps);
  verdict = λ p. ap (λ fs. verdict_on fs p) (window_is ps) ∙ same_verdict (accepted ps) p;
}
