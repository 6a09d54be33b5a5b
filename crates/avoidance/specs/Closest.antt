-- What a clearance says of the contacts, by what each of them does on the course.
use Rattle.std.specs.Prelude.{◌≡◌, not, length, T, Some}
use mathlib.Core.List.{List, ◌∷◌, ◌++◌, Memᴰ}
use Rattle.std.specs.Float.Ieee.{lt, le, is_nan}
use Rattle.motion.specs.declared.units.Distance.{Distance}
use Rattle.std.specs.declared.option.Option.{Option}
use Rattle.clearance.specs.declared.Clearance.{Clearance}

-- no distance is NaN
abbrev pub Real : List (Option Distance) → Type 0
Real ps = (d : Distance) → Memᴰ (Some d) ps → T (not (is_nan d.0))

-- each contact passes, at no less than the passing distance; the limiting one is the first that
-- passes at it
pub record Closest (ps : List (Option Distance)) (p : Clearance) : Type 0 where
  pub each : (q : Option Distance) → Memᴰ q ps → (d : Distance) × (q ≡ Some d) × T (le p.distance.0 d.0)
  pub before : List (Option Distance)
  pub after : List (Option Distance)
  pub split : ps ≡ before ++ (Some p.distance ∷ after)
  pub place : p.limiting ≡ Some (length before)
  pub earlier : (q : Option Distance) → Memᴰ q before → (d : Distance) × (q ≡ Some d) × T (lt p.distance.0 d.0)
