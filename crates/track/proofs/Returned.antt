-- Every window that calls returned is empty, or ends in the newest plot with all others before it and each offset in its bounds:
-- by induction on the run. So the times of two plots and more are spread.
use Rattle.std.specs.Prelude.{None, Some, Ok, Err, ◌-◌, unsigned_abs}
use mathlib.Core.Path.{◌≡◌, refl, sym, ap, ◌∙◌, subst}
use mathlib.Core.List.{List, [], ◌∷◌, ◌++◌}
use mathlib.Core.Logic.{◌⊎◌, inl, inr}
use Prim.Native.Nat.{ℕ, ◌+◌, ◌*◌, ◌^◌, ◌≤◌, ◌<◌}
use native.Mathlib.Nat.{le_trans, lt_irrefl}
use native.Mathlib.Omega.{arith}
use lib.IntN.{ℤ, pos, negsuc}
use lib.Dec.{T, ltb→lt, lit≤}
use lib.ListN.{length, length-append, length-drop, drop}
use lib.Ieee.{Float, binary64, fits, neg, le, of_bits}
use lib.Ieee.Fits.{and_l, and_r}
use lib.Seq.{drop-append-le}
use Rattle.std.specs.List.{All}
use Rattle.std.proofs.lemmas.List.Elements.{All-nil, All-cons, All-weaker, All-append, All-drop}
use Rattle.std.specs.declared.option.Option.{Option}
use Rattle.std.specs.declared.result.Result.{Result}
use Rattle.laws.specs.Fold.{fold}
use Rattle.laws.specs.Size.{Small}
use Rattle.elementary.specs.Range.{in_range}
use Rattle.elementary.specs.declared.error.Refusal.{Refusal}
use Rattle.motion.specs.Check.{farthest}
use Rattle.relative_motion.proofs.Sizes.{all_good}
use Rattle.track.specs.declared.window.Fix.{Fix}
use Rattle.track.specs.declared.window.Plot.{Plot}
use Rattle.track.specs.Limits.{max_track_history, last_second}
use Rattle.track.specs.Plot.{is_offset, is_time, is_later, plot_checks, fix_of}
use Rattle.track.specs.Window.{newest, latest, verdict_on, added}
use Rattle.track.specs.Run.{window_after}
use Rattle.track.specs.Spread.{HeldPlots, Spread, SpreadAfter}
use Rattle.track.proofs.Latest.{last_of_more}
use Rattle.track.proofs.Plots.{accepted_second, kept_by, left_by}
use Rattle.laws.proofs.Signed.{small_of_range}
use Rattle.track.proofs.Spread.{Early, is_spread}

-- a newest fix, and those before it
record Ends (fs : List Fix) : Type 0 where
  front : List Fix
  last : Fix
  is : fs ≡ front ++ last ∷ []
  early : All (Early last.seconds) front
  own : Early (2 ^ 31) last
  few : length fs ≤ max_track_history

-- ---- what acceptance says
offset_small : (x : Float) → T (fits binary64 x) → T (is_offset x) → Small 14 0 x
unfolding is_offset in_range
offset_small x t h =
    small_of_range x farthest (10000 * 2 ^ 1074) 14 t (unfold of_bits in (refl, refl)) (lit≤ tt)
    (and_l (le (neg farthest) x) (le x farthest) h) (and_r (le (neg farthest) x) (le x farthest) h)

later_than : (f : Fix) (seconds : ℤ) → T (is_time (Some f) seconds) → f.seconds < unsigned_abs seconds
unfolding is_time
later_than f (pos n) h = ltb→lt f.seconds n (and_r _ (is_later (Some f) (pos n)) h)
later_than f (negsuc n) h = absurd h

-- ---- a window, and a plot that it accepts
abbrev Returned : List Fix → Type 0
Returned fs = (fs ≡ []) ⊎ Ends fs

newest_is : (fs : List Fix) (e : Ends fs) → newest fs ≡ Some e.last
newest_is fs e = ap newest e.is ∙ last_of_more e.front e.last

module _ (fs : List Fix) (p : Plot) (north : T (fits binary64 p.offset.north)) (east : T (fits binary64 p.offset.east)) (ok : verdict_on fs p ≡ Ok tt) where
  own_early : Early (2 ^ 31) (fix_of p)
  own_early =
      let g = all_good (plot_checks (newest fs) p) ok in
      record {
        north = offset_small p.offset.north north g.0;
        east = offset_small p.offset.east east g.1.0;
        before = under (unsigned_abs p.seconds) (accepted_second (newest fs) p ok);
      }
    where
      under : (n : ℕ) → n ≤ last_second → n < 2 ^ 31
      under n h = omega arith

  abbrev second : ℕ
  second = unsigned_abs p.seconds

  all_early : Returned fs → All (Early second) fs
  all_early (inl e) = subst (All (Early second)) (sym e) (All-nil (Early second))
  all_early (inr e) =
      subst (All (Early second)) (sym e.is)
      (All-append (Early second) e.front (e.last ∷ [])
      (All-weaker (Early e.last.seconds) (Early second) (λ f a. earlier f a) e.front e.early)
      (All-cons (Early second) e.last [] (record { north = e.own.north; east = e.own.east; before = later }) (All-nil (Early second))))
    where
      later : e.last.seconds < second
      later = later_than e.last p.seconds (subst (λ o. T (is_time o p.seconds)) (newest_is fs e) (all_good (plot_checks (newest fs) p) ok).1.1.0)

      earlier : (f : Fix) → Early e.last.seconds f → Early second f
      earlier f a = record { north = a.north; east = a.east; before = before f.seconds e.last.seconds second a.before later }
        where
          before : (a b c : ℕ) → a < b → b < c → a < c
          before a b c h k = omega arith

  ends : Returned fs → Ends (latest max_track_history (fs ++ fix_of p ∷ []))
  unfolding latest
  ends r = record {
    front = drop gone fs;
    last = fix_of p;
    is = drop-append-le gone fs (fix_of p ∷ []) (most (length fs) (length (fs ++ fix_of p ∷ [])) (length-append fs (fix_of p ∷ [])));
    early = All-drop (Early second) gone fs (all_early r);
    own = own_early;
    few = bound (length (fs ++ fix_of p ∷ [])) (length (drop gone (fs ++ fix_of p ∷ []))) (length-drop gone (fs ++ fix_of p ∷ []));
  }
    where
      gone : ℕ
      gone = length (fs ++ fix_of p ∷ []) - max_track_history

      most : (l m : ℕ) → m ≡ l + 1 → m - max_track_history ≤ l
      most l m e = omega arith

      bound : (m n : ℕ) → n ≡ m - (m - max_track_history) → n ≤ max_track_history
      bound m n e = omega arith

step : (fs : List Fix) (p : Plot) → T (fits binary64 p.offset.north) × T (fits binary64 p.offset.east) → Returned fs → Returned (added fs p)
step fs p held r = go (verdict_on fs p) refl
  where
    go : (v : Result (Unit {0}) Refusal) → verdict_on fs p ≡ v → Returned (added fs p)
    go (Ok tt) e = subst Returned (kept_by fs p e) (inr (ends fs p held.0 held.1 e r))
    go (Err why) e = subst Returned (left_by fs p why e) r

returned_from : (ps : List Plot) (fs : List Fix) → HeldPlots ps → Returned fs → Returned (fold added fs ps)
unfolding fold
returned_from [] fs held r = r
returned_from (p ∷ ps) fs held r = returned_from ps (added fs p) held.1 (step fs p held.0 r)

-- ---- the theorem
abbrev or_else : Fix → Option Fix → Fix
or_else f None = f
or_else f (Some g) = g

spread_of : (fs : List Fix) → Returned fs → (last : Fix) → newest fs ≡ Some last → 2 ≤ length fs → Spread last fs
spread_of fs (inl e) last n two = absurd (none (length fs) (ap length e) two)
  where
    none : (l : ℕ) → l ≡ 0 → 2 ≤ l → ⊥
    none l e h = lt_irrefl 2 (omega arith)
spread_of fs (inr e) last n two = subst (λ f. Spread f fs) (ap (or_else last) (sym (newest_is fs e) ∙ n)) (go e.front e.is e.early)
  where
    one : (l : ℕ) → l ≡ 1 → 2 ≤ l → ⊥
    one l e h = lt_irrefl 2 (omega arith)

    go : (front : List Fix) → fs ≡ front ++ e.last ∷ [] → All (Early e.last.seconds) front → Spread e.last fs
    go [] is early = absurd (one (length fs) (ap length is) two)
    go (first ∷ rest) is early =
        subst (Spread e.last) (sym is)
        (is_spread first rest e.last early e.own (le_trans (subst (λ l. length l ≤ max_track_history) is e.few) (lit≤ tt)))

pub spread_after : (ps : List Plot) → HeldPlots ps → SpreadAfter ps
unfolding window_after
spread_after ps held = spread_of (window_after ps) (returned_from ps [] held (inl refl))
