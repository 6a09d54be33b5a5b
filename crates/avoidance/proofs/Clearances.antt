-- A list of clearances clears exactly if none of them blocks; and if it clears, its passing distance is the least and its limiting contact the first with it.
use Rattle.std.specs.Prelude.{None, Some}
use mathlib.Core.Path.{◌≡◌, refl, sym, ap, ◌∙◌, subst}
use mathlib.Core.Bool.{Bool, true, false, cond, not, true≢false}
use mathlib.Core.Logic.{◌⊎◌, inl, inr, ⊎_elim}
use mathlib.Core.List.Memᴰ
use mathlib.Core.List.{List, [], ◌∷◌, ◌++◌, append_assoc, append-nil, Memᴰ}
use Prim.Native.Nat.{suc}
use native.Mathlib.Numerals.{add-one}
use lib.ListN.{length, length-append}
use lib.Dec.{T}
use lib.Ieee.{Float, lt, le, is_nan}
use Rattle.laws.proofs.Bools.{holds, fails}
use Rattle.laws.proofs.Members.{mem_last}
use Rattle.laws.proofs.Order.{lt_not_self, le_of_lt_float, lt_le_trans, le-or-lt}
use Rattle.motion.specs.declared.units.Distance.{Distance}
use Rattle.std.specs.declared.option.Option.{Option}
use Rattle.clearance.specs.declared.Clearance.{Clearance}
use Rattle.clearance.specs.Clearing.{largest, least, nearer, nobody, tally, clearing}
use Rattle.avoidance.specs.Closest.{Real, Closest}

-- ---- cases of contacts
abbrev blocks : Option Distance → Bool
blocks None = true
blocks (Some d) = false

pub not_blocked : (d : Distance) → None ≡ Some d → ⊥
not_blocked d e = true≢false (ap blocks e)

-- the distance of one that does not block
abbrev pub at : Distance → Option Distance → Distance
at other None = other
at other (Some d) = d

le_self : (x : Float) → T (not (is_nan x)) → T (le x x)
le_self x n = ⊎_elim (λ h. h) (λ h. absurd (lt_not_self x h)) (le-or-lt x x n n)

-- ---- what the closest so far says of those that were seen, and what comes of all of them
abbrev Says : List (Option Distance) → Option Clearance → Type 0
Says seen None = seen ≡ []
Says seen (Some l) = Closest seen l

abbrev Ends : List (Option Distance) → Option Clearance → Type 0
Ends all None = Memᴰ None all
Ends all (Some p) = ((all ≡ []) × (p ≡ nobody)) ⊎ Closest all p

-- one more
module _ (seen : List (Option Distance)) (d : Distance) (real : T (not (is_nan d.0))) where
  now : List (Option Distance)
  now = seen ++ (Some d ∷ [])

  -- it is the closest: those seen pass farther
  new : ((q : Option Distance) → Memᴰ q seen → (e : Distance) × (q ≡ Some e) × T (lt d.0 e.0)) → Closest (seen ++ (Some d ∷ [])) (least d (length seen))
  new farther = record {
    each = λ q m. ⊎_elim (λ old. let o = farther q old in (o.0, o.1, le_of_lt_float d.0 o.0.0 o.2)) (λ it. (d, it, le_self d.0 real)) (mem_last seen (Some d) m);
    before = seen;
    after = [];
    split = refl;
    place = refl;
    earlier = farther;
  }

  -- it is not
  old : (l : Clearance) → lt d.0 l.distance.0 ≡ false → T (not (is_nan l.distance.0)) → Closest seen l → Closest (seen ++ (Some d ∷ [])) l
  old l h r c = record {
    each = λ q m. ⊎_elim (c.each q) (λ it. (d, it, ⊎_elim (λ k. k) (λ k. absurd (fails h k)) (le-or-lt l.distance.0 d.0 r real))) (mem_last seen (Some d) m);
    before = c.before;
    after = c.after ++ (Some d ∷ []);
    split = ap (λ s. s ++ (Some d ∷ [])) c.split ∙ append_assoc c.before (Some l.distance ∷ c.after) (Some d ∷ []);
    place = c.place;
    earlier = c.earlier;
  }

closest_real : (seen : List (Option Distance)) (l : Clearance) → Real seen → Closest seen l → T (not (is_nan l.distance.0))
closest_real seen l real c = real l.distance (subst (λ s. Memᴰ (Some l.distance) s) (sym c.split) (Memᴰ.append_right c.before (Memᴰ.head refl)))

step : (seen : List (Option Distance)) (closest : Option Clearance) (d : Distance) → Real (seen ++ (Some d ∷ [])) → Says seen closest → Closest (seen ++ (Some d ∷ [])) (nearer closest (length seen) d)
unfolding nearer
step seen None d real s = new seen d (real d (Memᴰ.append_right seen (Memᴰ.head refl))) (λ q m. absurd (Memᴰ.not-nil (subst (Memᴰ q) s m)))
step seen (Some l) d real s = go (lt d.0 l.distance.0) refl
  where
    go : (b : Bool) → lt d.0 l.distance.0 ≡ b → Closest (seen ++ (Some d ∷ [])) (cond b (least d (length seen)) l)
    go true h = new seen d (real d (Memᴰ.append_right seen (Memᴰ.head refl))) (λ q m. let o = s.each q m in (o.0, o.1, lt_le_trans d.0 l.distance.0 o.0.0 (holds h) o.2))
    go false h = old seen d (real d (Memᴰ.append_right seen (Memᴰ.head refl))) l h (closest_real seen l (λ e m. real e (Memᴰ.append_left (Some d ∷ []) m)) s) s

-- all of them
says : (seen ps : List (Option Distance)) (closest : Option Clearance) → Real (seen ++ ps) → Says seen closest → Ends (seen ++ ps) (tally (length seen) closest ps)
unfolding tally
says seen [] None real s = inl (append-nil seen ∙ s, refl)
says seen [] (Some l) real s = inr (subst (λ k. Closest k l) (sym (append-nil seen)) s)
says seen (None ∷ ps) closest real s = Memᴰ.append_right seen (Memᴰ.head refl)
says seen (Some d ∷ ps) closest real s =
    let next = nearer closest (length seen) d in
    subst (λ l. Ends l (tally (suc (length seen)) (Some next) ps)) (append_assoc seen (Some d ∷ []) ps)
    (subst (λ n. Ends ((seen ++ (Some d ∷ [])) ++ ps) (tally n (Some next) ps)) (length-append seen (Some d ∷ []) ∙ add-one (length seen))
    (says (seen ++ (Some d ∷ [])) ps (Some next) (subst Real (sym (append_assoc seen (Some d ∷ []) ps)) real)
    (step seen closest d (λ e m. real e (subst (Memᴰ (Some e)) (append_assoc seen (Some d ∷ []) ps) (Memᴰ.append_left ps m))) s)))

module _ (ps : List (Option Distance)) (real : Real ps) where
  ends : Ends ps (clearing ps)
  unfolding clearing
  ends = says [] ps None real refl

  -- it clears exactly if none blocks
  pub blocked : clearing ps ≡ None → Memᴰ None ps
  blocked e = subst (Ends ps) e ends

  pub blocks_it : Memᴰ None ps → clearing ps ≡ None
  blocks_it m = go (clearing ps) ends
    where
      go : (o : Option Clearance) → Ends ps o → o ≡ None
      go None s = refl
      go (Some p) s = absurd (⊎_elim (λ n. Memᴰ.not-nil (subst (Memᴰ None) n.0 m)) (λ c. let o = c.each None m in not_blocked o.0 o.1) s)

  -- and then nobody limits it where there are no contacts, and else the closest does
  pub clear : (p : Clearance) → clearing ps ≡ Some p → ((ps ≡ []) × (p ≡ record { distance = record { 0 = largest }; limiting = None })) ⊎ Closest ps p
  clear p e = subst (Ends ps) e ends
