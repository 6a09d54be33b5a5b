use Rattle.std.proofs.Common.{◌≡◌, drop}
use Rattle.laws.specs.Fold.{fold}
use Rattle.exports.specs.Plots.{seen, before}
use Rattle.exports.proofs.PlotsCode.{with_words}
use Rattle.exports.proofs.plots.run.Given as goal

abbrev pub invariant-loop-plot : goal.invariant-loop-plot
invariant-loop-plot l = fold with_words (seen l.run) (drop l.plot-index l.plots) ≡ fold with_words before l.plots
