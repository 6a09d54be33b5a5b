use Rattle.std.proofs.Common.{◌∙◌, sym, subst}
use Rattle.track.specs.Window.{fixes}
use Rattle.track.specs.Fit.{fit_to, Fits, fit_answer}
use Rattle.track.proofs.Figures.{fits_answer}
use Rattle.track.proofs.window.Window.fit.Goals as goal

pub returns-clause-property : goal.returns-clause-property
unfolding fit_answer
returns-clause-property c =
    let is = c.fit_to.ensures ∙ (λ i. fit_to (c.newest.ensures i) (c.fixes.ensures i)) in
    subst (Fits (fixes c.args.self)) (sym is) (fits_answer (fixes c.args.self))
