-- Every answered figure is finite, a course from 0 up to but not including 360 and a speed above 0 and at most 1,000, whatever the window holds.
use Rattle.std.specs.Prelude.{None, Some, Ok, Err}
use mathlib.Core.Path.{◌≡◌, refl, sym, ap, subst}
use mathlib.Core.Bool.{Bool, true, false, not, ◌||◌, ◌&&◌, cond, true≢false}
use mathlib.Core.List.{List}
use mathlib.Core.Logic.{inl, inr, ⊎_elim}
use Prim.Native.Nat.{ℕ, ◌<◌}
use native.Mathlib.Omega.{arith}
use lib.Dec.{T, ltb, ltb→lt, lt→ltb}
use lib.Ieee.{Float, nan, inf, fin, binary64, fits, is_nan, lt, le, of_bits}
use lib.ListN.{length}
use lib.Ieee.Fits.{and_l, and_r, div-fits}
use lib.Ieee.Scale.{finite}
use Rattle.std.specs.declared.option.Option.{Option}
use Rattle.std.specs.declared.result.Result.{Result}
use Rattle.laws.proofs.Bools.{holds, fails}
use Rattle.laws.proofs.Order.{le-or-lt}
use Rattle.roots.specs.Hypot.{in_domain, hypot}
use Rattle.roots.proofs.HypotBound.{in-domain, hypot_is}
use Rattle.elementary.specs.declared.error.Refusal.{Refusal}
use Rattle.elementary.specs.declared.error.Refusal.TheVariants as Why
use Rattle.motion.specs.declared.vessel.Components.{Components}
use Rattle.motion.specs.declared.vessel.Vessel.{Vessel}
use Rattle.motion.specs.Check.{zero, fastest}
use Rattle.motion.specs.Vessel.{size, from_velocity}
use Rattle.relative_motion.proofs.Finite.{direction_finite}
use Rattle.track.specs.declared.window.Fix.{Fix}
use Rattle.track.specs.Window.{newest}
use Rattle.track.proofs.Latest.{no_last}
use Rattle.track.specs.Fit.{at_speed, motion, fitted, spread, knots, fit_to, fit_answer, Figures, Fits}

-- a hypotenuse that is a number has finite sides
finite_sides : (x y : Float) → T (fits binary64 x) → T (fits binary64 y) → T (finite (hypot x y)) → T (finite x) × T (finite y)
finite_sides x y tx ty f = go (in_domain x && in_domain y) refl
  where
    go : (b : Bool) → in_domain x && in_domain y ≡ b → T (finite x) × T (finite y)
    go true e = ((in-domain x tx (and_l (in_domain x) (in_domain y) (holds e))).0, (in-domain y ty (and_r (in_domain x) (in_domain y) (holds e))).0)
    go false e = absurd (subst (λ r. T (finite r)) ((hypot_is x y tx ty).outside (holds (ap not e))) f)

a_number : (x : Float) → T (finite x) → T (not (is_nan x))
unfolding is_nan
a_number nan f = absurd f
a_number (inf s) f = absurd f
a_number (fin s m e) f = tt

above : (x : Float) → T (finite x) → le x zero ≡ false → T (lt zero x)
above x f h = ⊎_elim (λ k. absurd (fails h k)) (λ k. k) (le-or-lt x zero (a_number x f) (unfold of_bits in unfold is_nan in tt))

at_most : (x : Float) → T (finite x) → lt fastest x ≡ false → T (le x fastest)
at_most x f h = ⊎_elim (λ k. k) (λ k. absurd (fails h k)) (le-or-lt x fastest (a_number x f) (unfold of_bits in unfold is_nan in tt))

abbrev answered : Result (Option Vessel) Refusal → Option Vessel
answered (Ok o) = o
answered (Err why) = None

abbrev the_vessel : Vessel → Option Vessel → Vessel
the_vessel v None = v
the_vessel v (Some w) = w

abbrev is_some : Result (Option Vessel) Refusal → Bool
is_some (Ok (Some v)) = true
is_some (Ok None) = false
is_some (Err why) = false

abbrev refused_by : Result (Option Vessel) Refusal → Refusal → Refusal
refused_by (Ok o) e = e
refused_by (Err why) e = why

abbrev is_err : Result (Option Vessel) Refusal → Bool
is_err (Ok o) = false
is_err (Err why) = true

-- ---- a velocity with a speed
module _ (c : Components) (tn : T (fits binary64 c.north)) (te : T (fits binary64 c.east)) where
  moving_figures : T (finite (size c)) → le (size c) zero ≡ false → lt fastest (size c) ≡ false → Figures (from_velocity c)
  unfolding from_velocity
  moving_figures f h k =
      let sides = finite_sides c.north c.east tn te f in
      (direction_finite c sides.0 sides.1, f, above (size c) f h, at_most (size c) f k)

  pub speed_figures : (v : Vessel) → at_speed c ≡ Ok (Some v) → Figures v
  unfolding at_speed
  speed_figures v = go (finite (size c)) refl (le (size c) zero) refl (lt fastest (size c)) refl
    where
      go : (f : Bool) → finite (size c) ≡ f → (l : Bool) → le (size c) zero ≡ l → (k : Bool) → lt fastest (size c) ≡ k
          → cond (not f || l) (Ok None) (cond k (Err Why.Speed) (Ok (Some (from_velocity c)))) ≡ Ok (Some v) → Figures v
      go false p l q k r e = absurd (true≢false (sym (ap is_some e)))
      go true p true q k r e = absurd (true≢false (sym (ap is_some e)))
      go true p false q true r e = absurd (true≢false (sym (ap is_some e)))
      go true p false q false r e = subst Figures (ap (λ a. the_vessel v (answered a)) e) (moving_figures (holds p) q r)

  pub speed_number : (why : Refusal) → at_speed c ≡ Err why → why ≡ Why.Speed
  unfolding at_speed
  speed_number why = go (not (finite (size c)) || le (size c) zero) (lt fastest (size c))
    where
      go : (a k : Bool) → cond a (Ok None) (cond k (Err Why.Speed) (Ok (Some (from_velocity c)))) ≡ Err why → why ≡ Why.Speed
      go true k e = absurd (true≢false (sym (ap is_err e)))
      go false true e = sym (ap (λ a. refused_by a why) e)
      go false false e = absurd (true≢false (sym (ap is_err e)))

-- ---- a fit
module _ (last : Fix) (fs : List Fix) where
  fitted_figures : (v : Vessel) → motion (fitted last fs) ≡ Ok (Some v) → Figures v
  unfolding fitted
  fitted_figures v = go (le (spread last fs) zero || not (finite (spread last fs)))
    where
      go : (b : Bool) → motion (cond b None (Some (knots last fs))) ≡ Ok (Some v) → Figures v
      go true e = absurd (true≢false (sym (ap is_some e)))
      go false e = speed_figures (knots last fs) (div-fits binary64 _ _) (div-fits binary64 _ _) v e

  fitted_number : (why : Refusal) → motion (fitted last fs) ≡ Err why → why ≡ Why.Speed
  unfolding fitted
  fitted_number why = go (le (spread last fs) zero || not (finite (spread last fs)))
    where
      go : (b : Bool) → motion (cond b None (Some (knots last fs))) ≡ Err why → why ≡ Why.Speed
      go true e = absurd (true≢false (sym (ap is_err e)))
      go false e = speed_number (knots last fs) (div-fits binary64 _ _) (div-fits binary64 _ _) why e

-- ---- an answer
pub fits_to : (o : Option Fix) (fs : List Fix) → (o ≡ None → length fs < 2) → Fits fs (fit_to o fs)
fits_to None fs none = record {
  few = λ h. refl;
  numbers = λ why e. inl (sym (ap (λ a. refused_by a why) e), none refl);
  figures = λ v e. absurd (true≢false (sym (ap is_some e)));
}
fits_to (Some last) fs none = go (ltb (length fs) 2) refl
  where
    go : (b : Bool) → ltb (length fs) 2 ≡ b → Fits fs (cond b (Err Why.TooFewPlots) (motion (fitted last fs)))
    go true e = record {
      few = λ h. refl;
      numbers = λ why q. inl (sym (ap (λ a. refused_by a why) q), ltb→lt (length fs) 2 (holds e));
      figures = λ v q. absurd (true≢false (sym (ap is_some q)));
    }
    go false e = record {
      few = λ h. absurd (fails e (lt→ltb (length fs) 2 h));
      numbers = λ why q. inr (fitted_number last fs why q);
      figures = λ v q. fitted_figures last fs v q;
    }

pub fits_answer : (fs : List Fix) → Fits fs (fit_answer fs)
unfolding fit_answer
fits_answer fs = fits_to (newest fs) fs (λ e. few (length fs) (no_last fs e))
  where
    few : (n : ℕ) → n ≡ 0 → n < 2
    few n e = omega arith
