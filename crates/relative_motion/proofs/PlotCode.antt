-- What the code of `target_from_plot` owes: its cases, and the verdict on the arguments.
use Rattle.std.specs.Prelude.{Err, Ok}
use mathlib.Core.Path.{◌≡◌, refl, ap, ◌∙◌}
use mathlib.Core.Bool.{true, false}
use lib.Ieee.{Float, le}
use Rattle.math.specs.Clock.{hours_of}
use Rattle.math.specs.declared.duration.Duration.{Duration}
use Rattle.elementary.specs.declared.error.Refusal.{Refusal}
use Rattle.elementary.specs.declared.error.Refusal.TheVariants as Why
use Rattle.std.specs.declared.result.Result.{Result}
use Rattle.motion.specs.Check.{zero}
use Rattle.motion.specs.declared.vessel.Vessel.{Vessel}
use Rattle.motion.specs.declared.vessel.Contact.{Contact}
use Rattle.motion.specs.declared.vessel.Components.{Components}
use Rattle.relative_motion.specs.declared.plot.TargetSolution.{TargetSolution}
use Rattle.relative_motion.specs.Plot.{relative_motion, solution, solved, plot_verdict, plot_if_accepted, plot_answer}

-- ---- by the verdict on the arguments
module _ (own : Vessel) (first second : Contact) (elapsed : Duration) where
  pub plotted : (t : Float) (a : Result TargetSolution Refusal) → Ok tt ≡ plot_verdict own first second elapsed → t ≡ hours_of elapsed → a ≡ solved own first second t → a ≡ plot_answer own first second elapsed
  unfolding plot_answer
  plotted t a h et e = e ∙ ap (solved own first second) et ∙ ap (λ w. plot_if_accepted w (solved own first second (hours_of elapsed))) h

  pub plot_refused : (why : Refusal) → Err why ≡ plot_verdict own first second elapsed → Err why ≡ plot_answer own first second elapsed
  unfolding plot_answer
  plot_refused why h = ap (λ w. plot_if_accepted w (solved own first second (hours_of elapsed))) h

-- ---- with accepted arguments
module _ (own : Vessel) (first second : Contact) (interval : Float) where
  pub no_interval : le interval zero ≡ true → Err Why.Time ≡ solved own first second interval
  unfolding solved
  no_interval h = rw h refl

  pub some_interval : (m : Components) (s : TargetSolution) → le interval zero ≡ false → m ≡ relative_motion first second interval → s ≡ solution own second m → Ok s ≡ solved own first second interval
  unfolding solved
  some_interval m s h em e = rw h (ap Ok (e ∙ ap (solution own second) em))
