use Rattle.std.proofs.Common.{sym, ap, ◌∙◌}
use Rattle.motion.specs.Check.{checked}
use Rattle.track.specs.Plot.{plot_checks}
use Rattle.track.specs.Window.{fixes}
use Rattle.track.proofs.Plots.{accepted_second, kept_by, left_by, adds_by}
use Rattle.track.proofs.window.Window.add.Goals as goal

pub fix_of-requires : goal.fix_of-requires
fix_of-requires c = accepted_second c.newest.result c.args.plot (sym c.check_plot-verdict.ensures ∙ c.in-Ok.is)

pub returns-in-Ok-clause-window : goal.returns-in-Ok-clause-window
returns-in-Ok-clause-window c =
    let by = c.check_plot-verdict.ensures ∙ ap (λ n. checked (plot_checks n c.args.plot)) c.newest.ensures in
    rw (c.with-window.ensures, c.fix_of.ensures) (kept_by (fixes c.args.self) c.args.plot (sym by ∙ c.in-Ok.is))

pub returns-in-Ok-clause-property : goal.returns-in-Ok-clause-property
returns-in-Ok-clause-property c =
    let by = c.check_plot-verdict.ensures ∙ ap (λ n. checked (plot_checks n c.args.plot)) c.newest.ensures in
    adds_by (fixes c.args.self) c.args.plot by (rw (c.with-window.ensures, c.fix_of.ensures) (kept_by (fixes c.args.self) c.args.plot (sym by ∙ c.in-Ok.is)))

pub returns-in-Err-clause-window : goal.returns-in-Err-clause-window
returns-in-Err-clause-window c =
    let by = c.check_plot-verdict.ensures ∙ ap (λ n. checked (plot_checks n c.args.plot)) c.newest.ensures in
    left_by (fixes c.args.self) c.args.plot c.in-Err.field-0 (sym by ∙ c.in-Err.is)
