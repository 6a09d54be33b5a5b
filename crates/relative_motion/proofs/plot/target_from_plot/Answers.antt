use mathlib.Core.Path.{◌∙◌}
use Rattle.motion.proofs.ArgumentCode.{handed_on}
use Rattle.relative_motion.proofs.PlotCode.{plotted, plot_refused}
use Rattle.relative_motion.proofs.plot.target_from_plot.Goals as goal

pub returns-in_err-check_plots : goal.returns-in_err-check_plots
returns-in_err-check_plots c = handed_on _ _ c.from_residual.ensures.1 ∙ plot_refused _ _ _ _ _ c.in_err-check_plots.ensures

pub returns : goal.returns
returns c = plotted c.args.own c.args.first c.args.second c.args.elapsed _ _ c.in_ok-check_plots.ensures c.hours.ensures c.solved.ensures
