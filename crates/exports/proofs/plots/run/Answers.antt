use Rattle.std.proofs.Common.{◌≡◌, ap, ◌∙◌}
use native.Mathlib.Omega.{arith}
use mathlib.Core.List.{map}
use Rattle.laws.proofs.Fold.{fold_turn, fold_end}
use Rattle.exports.specs.Arguments.{plot_of}
use Rattle.exports.specs.Plots.{seen, with_plot, run}
use Rattle.exports.proofs.PlotsCode.{with_words, run_of_words}
use Rattle.exports.proofs.plots.run.Goals as goal

pub loop-plot-preserved : goal.loop-plot-preserved
loop-plot-preserved c =
    let a = c.add-run.ensures in
    let next : seen c.add-run.result ≡ with_plot (seen c.loop-plot.run) c.plot_of.result = (λ i. record { verdict = a.verdict i; held = a.window i }) in
    fold_turn with_words (seen c.loop-plot.run) _ c.plot_words-plots.result.now c.loop-plot.plot-index _ c.loop-plot-test.true
    (next ∙ ap (with_plot (seen c.loop-plot.run)) c.plot_of.ensures)
    ∙ c.loop-plot.invariant

pub returns : goal.returns
returns c =
    fold_end with_words (seen c.loop-plot.run) _ c.plot_words-plots.result.now c.loop-plot.plot-index
    (omega (arith, c.loop-plot-test.false, c.loop-plot.auto.plot-index-end)) c.loop-plot.invariant
    ∙ run_of_words c.plot_words-plots.result.now
    ∙ ap (λ cs. run (map plot_of cs)) c.plot_words-plots.ensures
