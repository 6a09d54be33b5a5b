-- What holds of every window that calls returned: its times are spread, so that the branch of `fit`
-- for times that are not is never taken, and nothing on the way to an answer is NaN or infinite
-- (document 02, R-5: 'a fitted speed of 0 answers no motion', and nothing else does).
use Rattle.std.specs.Prelude.{◌≡◌, cond, ◌≤◌, List, [], ◌∷◌, length, T, None, Some, Ok, Err}
use Rattle.std.specs.Float.{binary64}
use Rattle.std.specs.Float.Ieee.{fits, lt, le}
use Rattle.std.specs.Float.Ieee.Scale.{finite}
use Rattle.std.specs.declared.option.Option.{Option}
use Rattle.std.specs.declared.result.Result.{Result}
use Rattle.elementary.specs.declared.error.Refusal.{Refusal}
use Rattle.elementary.specs.declared.error.Refusal.TheVariants as Why
use Rattle.motion.specs.declared.vessel.Components.{Components}
use Rattle.motion.specs.declared.vessel.Vessel.{Vessel}
use Rattle.motion.specs.Check.{zero, fastest}
use Rattle.motion.specs.Vessel.{size, from_velocity}
use Rattle.track.specs.declared.window.Fix.{Fix}
use Rattle.track.specs.declared.window.Plot.{Plot}
use Rattle.track.specs.Window.{newest}
use Rattle.track.specs.Fit.{spread, knots, fit_answer}
use Rattle.track.specs.Run.{window_after}

-- the offsets of a run are f64s, as all are that a caller can hand over
abbrev pub HeldPlots : List Plot → Type 0
HeldPlots [] = Unit {0}
HeldPlots (p ∷ ps) = (T (fits binary64 p.offset.north) × T (fits binary64 p.offset.east)) × HeldPlots ps

-- the answer without the branches for what does not occur
unfoldable pub plain : Components → Result (Option Vessel) Refusal
plain v =
    cond (le (size v) zero) (Ok None)
    (cond (lt fastest (size v)) (Err Why.Speed)
    (Ok (Some (from_velocity v))))

pub record Spread (last : Fix) (fs : List Fix) : Type 0 where
  pub above : T (lt zero (spread last fs))
  pub number : T (finite (spread last fs))
  pub north : T (finite (knots last fs).north)
  pub east : T (finite (knots last fs).east)
  pub speed : T (finite (size (knots last fs)))
  pub answer : fit_answer fs ≡ plain (knots last fs)

-- of a window with two plots at least
abbrev pub SpreadAfter : List Plot → Type 0
SpreadAfter ps = (last : Fix) → newest (window_after ps) ≡ Some last → 2 ≤ length (window_after ps) → Spread last (window_after ps)
