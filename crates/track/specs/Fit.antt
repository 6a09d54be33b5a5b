-- Course and speed fitted to the plots of a window by least squares (track.rs, `fit`, `local`,
-- `fitted_motion`, without the latitude stretch), operation by operation.
use Rattle.std.specs.Prelude.{◌≡◌, ◌⊎◌, not, ◌||◌, cond, ◌-◌, ◌<◌, ltb, pos, List, length, T, Float, None, Some, Ok, Err}
use Rattle.std.specs.Float.{binary64}
use Rattle.std.specs.Float.Ieee.{neg, lt, le, of_int}
use Rattle.std.specs.Float.Ieee.Scale.{finite}
use Rattle.std.specs.declared.option.Option.{Option}
use Rattle.std.specs.declared.result.Result.{Result}
use Rattle.laws.specs.Fold.{fold}
use Rattle.laws.specs.Ops.{◌⊕◌, ◌⊖◌, ◌⊗◌, ◌⊘◌}
use Rattle.math.specs.Clock.{seconds_per_hour}
use Rattle.math.specs.Fold.{IsDirection}
use Rattle.elementary.specs.declared.error.Refusal.{Refusal}
use Rattle.elementary.specs.declared.error.Refusal.TheVariants as Why
use Rattle.motion.specs.declared.vessel.Components.{Components}
use Rattle.motion.specs.declared.vessel.Vessel.{Vessel}
use Rattle.motion.specs.Check.{zero, fastest}
use Rattle.motion.specs.Vessel.{size, from_velocity}
use Rattle.track.specs.declared.window.Fix.{Fix}
use Rattle.track.specs.Window.{newest}

-- ---- `local`: the hours from the last fix back to one, negative; the miles from the last to it
unfoldable pub hours : Fix → Fix → Float
hours last f = neg (of_int binary64 (pos (last.seconds - f.seconds))) ⊘ seconds_per_hour

abbrev pub north : Fix → Fix → Float
north last f = f.offset.north ⊖ last.offset.north

abbrev pub east : Fix → Fix → Float
east last f = f.offset.east ⊖ last.offset.east

-- ---- sums from 0, oldest first; means; sums of products of what two figures are off their means
unfoldable pub sum : (Fix → Float) → List Fix → Float
sum g fs = fold (λ s f. s ⊕ g f) zero fs

unfoldable pub mean : (Fix → Float) → List Fix → Float
mean g fs = sum g fs ⊘ of_int binary64 (pos (length fs))

unfoldable pub products : (Fix → Float) → (Fix → Float) → List Fix → Float
products g h fs =
    let a = mean g fs in
    let b = mean h fs in
    sum (λ f. (g f ⊖ a) ⊗ (h f ⊖ b)) fs

-- `s_tt`, and the quotients of `s_tn` and `s_te` by it
abbrev pub spread : Fix → List Fix → Float
spread last fs = products (hours last) (hours last) fs

abbrev pub knots : Fix → List Fix → Components
knots last fs = record {
  north = products (hours last) (north last) fs ⊘ spread last fs;
  east = products (hours last) (east last) fs ⊘ spread last fs;
}

-- `if s_tt <= 0.0 || !s_tt.is_finite()` there is no fit
unfoldable pub fitted : Fix → List Fix → Option Components
fitted last fs = let s = spread last fs in cond (le s zero || not (finite s)) None (Some (knots last fs))

-- ---- `fitted_motion`: no fit and no speed are no motion; above 1,000 knots: 2
unfoldable pub at_speed : Components → Result (Option Vessel) Refusal
at_speed v =
    let speed = size v in
    cond (not (finite speed) || le speed zero) (Ok None)
    (cond (lt fastest speed) (Err Why.Speed)
    (Ok (Some (from_velocity v))))

abbrev pub motion : Option Components → Result (Option Vessel) Refusal
motion None = Ok None
motion (Some v) = at_speed v

-- with fewer than two plots: 17
abbrev pub fit_to : Option Fix → List Fix → Result (Option Vessel) Refusal
fit_to None fs = Err Why.TooFewPlots
fit_to (Some last) fs = cond (ltb (length fs) 2) (Err Why.TooFewPlots) (motion (fitted last fs))

unfoldable pub fit_answer : List Fix → Result (Option Vessel) Refusal
fit_answer fs = fit_to (newest fs) fs

-- ---- what is promised of any answer, whatever the window
abbrev pub Figures : Vessel → Type 0
Figures v = IsDirection v.course.0 × T (finite v.speed.0) × T (lt zero v.speed.0) × T (le v.speed.0 fastest)

pub record Fits (fs : List Fix) (answer : Result (Option Vessel) Refusal) : Type 0 where
  -- 17 with fewer than two plots and with no others; and no number but 17 and 2
  pub few : length fs < 2 → answer ≡ Err Why.TooFewPlots
  pub numbers : (why : Refusal) → answer ≡ Err why → (why ≡ Why.TooFewPlots) × (length fs < 2) ⊎ (why ≡ Why.Speed)
  -- an answered course is from 0 up to but not including 360, a speed above 0 and at most 1,000
  pub figures : (v : Vessel) → answer ≡ Ok (Some v) → Figures v
