-- What the code of a run of plots owes: the loop over its words is the run, and the window holds the latest of the plots that are accepted.
use mathlib.Core.Path.{◌≡◌, refl, ap, ◌∙◌}
use mathlib.Core.List.{List, [], ◌∷◌, map}
use Prim.Native.Nat.{ℕ}
use Rattle.laws.specs.Fold.{fold}
use Rattle.track.specs.declared.window.Plot.{Plot}
use Rattle.track.specs.Fit.{fit_answer}
use Rattle.track.specs.Window.{latest, added}
use Rattle.track.specs.Run.{window_after, accepted}
use Rattle.track.proofs.Runs.{over_runs}
use Rattle.exports.specs.Arguments.{plots, plot_of}
use Rattle.exports.specs.Asked.{window_asked, fit_asked}
use Rattle.exports.specs.Plots.{Run, before, with_plot, run}

-- with the plot that three words are
abbrev pub with_words : Run → List ℕ → Run
with_words r c = with_plot r (plot_of c)

words_run : (r : Run) (cs : List (List ℕ)) → fold with_words r cs ≡ fold with_plot r (map plot_of cs)
unfolding fold
words_run r [] = refl
words_run r (c ∷ cs) = words_run (with_words r c) cs

pub run_of_words : (cs : List (List ℕ)) → fold with_words before cs ≡ run (map plot_of cs)
unfolding run
run_of_words cs = words_run before cs

held_from : (r : Run) (ps : List Plot) → (fold with_plot r ps).held ≡ fold added r.held ps
unfolding fold
held_from r [] = refl
held_from r (p ∷ ps) = held_from (with_plot r p) ps

held_is : (ps : List Plot) → (run ps).held ≡ latest 8 (accepted ps)
unfolding run window_after
held_is ps = held_from before ps ∙ (over_runs ps).window

pub window_is : (ws : List ℕ) → run (plots ws) ≡ window_asked ws
window_is ws = ap (λ held. record { verdict = (run (plots ws)).verdict; held = held }) (held_is (plots ws))

pub fit_is : (ws : List ℕ) → fit_answer (run (plots ws)).held ≡ fit_asked ws
fit_is ws = ap fit_answer (held_is (plots ws))
