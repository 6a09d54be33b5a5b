-- A plot that is handed in: when its time is one that is kept, and what a window is after it.
use mathlib.Core.Path.{◌≡◌, sym, ap, ◌∙◌, transport}
use mathlib.Core.List.{List, [], ◌∷◌, ◌++◌}
use Prim.Native.Nat.{◌-◌, ◌≤◌}
use native.Mathlib.Omega.{arith}
use lib.IntN.{ℤ, pos, negsuc}
use lib.Dec.{T, leb→le}
use lib.Ieee.Fits.{and_l, and_r}
use lib.ListN.{length-append, drop}
use Rattle.std.specs.Prelude.{Ok, Err, unsigned_abs, int_le}
use Rattle.std.specs.declared.option.Option.{Option}
use Rattle.std.specs.declared.result.Result.{Result}
use Rattle.elementary.specs.declared.error.Refusal.{Refusal}
use Rattle.motion.specs.Check.{checked}
use Rattle.relative_motion.proofs.Sizes.{all_good}
use Rattle.track.specs.declared.window.Fix.{Fix}
use Rattle.track.specs.declared.window.Plot.{Plot}
use Rattle.track.specs.Limits.{max_track_history, last_second}
use Rattle.track.specs.Plot.{is_time, is_later, plot_checks, fix_of}
use Rattle.track.specs.Window.{latest, verdict_on, if_kept, added, Adds}
use Rattle.track.proofs.Latest.{latest-short, latest_full}

-- a time that is kept is not below 0 and not above the last second
in_time : (last : Option Fix) (seconds : ℤ) → T (is_time last seconds) → unsigned_abs seconds ≤ last_second
unfolding is_time
in_time last (pos n) h = leb→le n last_second (and_r (int_le (pos 0) (pos n)) (int_le (pos n) (pos last_second)) (and_l _ (is_later last (pos n)) h))
in_time last (negsuc n) h = absurd h

pub accepted_second : (last : Option Fix) (p : Plot) → checked (plot_checks last p) ≡ Ok tt → unsigned_abs p.seconds ≤ last_second
accepted_second last p h = in_time last p.seconds (all_good (plot_checks last p) h).1.1.0

module _ (fs : List Fix) (p : Plot) where
  pub kept_by : verdict_on fs p ≡ Ok tt → latest max_track_history (fs ++ fix_of p ∷ []) ≡ added fs p
  unfolding added
  kept_by h = ap (λ v. if_kept v (latest max_track_history (fs ++ fix_of p ∷ [])) fs) (sym h)

  pub left_by : (why : Refusal) → verdict_on fs p ≡ Err why → fs ≡ added fs p
  unfolding added
  left_by why h = ap (λ v. if_kept v (latest max_track_history (fs ++ fix_of p ∷ [])) fs) (sym h)

  adds : Adds fs p (verdict_on fs p) (added fs p)
  adds = record {
    refused = λ why h. sym (left_by why h);
    accepted = λ h room. sym (kept_by h) ∙ latest-short max_track_history (fs ++ fix_of p ∷ []) (omega (arith, length-append fs (fix_of p ∷ [])));
    ninth = λ oldest others e h full. sym (kept_by h) ∙ latest_full (max_track_history - 1) fs (fix_of p) full ∙ ap (λ l. drop 1 l ++ fix_of p ∷ []) e;
  }

  pub adds_by : {v : Result (Unit {0}) Refusal} {after : List Fix} → v ≡ verdict_on fs p → after ≡ added fs p → Adds fs p v after
  adds_by e f = let g = sym e in let h = sym f in transport (λ i. Adds fs p (g i) (h i)) adds
