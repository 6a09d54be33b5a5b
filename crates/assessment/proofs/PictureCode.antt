-- What the code of the picture owes: the folds of its methods, and the loop that keeps those of at least a risk.
use mathlib.Core.Path.{◌≡◌, refl, sym, ap, ◌∙◌, subst}
use mathlib.Core.Bool.{Bool, true, false, cond}
use mathlib.Core.List.{List, [], ◌∷◌, ◌++◌, append_assoc, append-nil}
use Prim.Native.Nat.{ℕ, suc, ◌+◌, ◌≤◌, ◌<◌}
use native.Mathlib.Numerals.{add-one}
use native.Mathlib.Omega.{arith}
use lib.Dec.{ltb, eqb, lt→ltb}
use lib.Ieee.Bits.{is_true}
use lib.ListN.{length, get_or, drop, length-append}
use lib.Seq.{drop-cons, drop-length}
use Rattle.std.specs.Prelude.{None, Some}
use Rattle.std.specs.List.{find}
use Rattle.std.specs.declared.option.Option.{Option}
use Rattle.laws.specs.Fold.{fold}
use Rattle.motion.specs.Capacity.{max_contacts}
use Rattle.assessment.specs.declared.risk.CollisionRisk.{CollisionRisk}
use Rattle.assessment.specs.declared.target.TargetAssessment.{TargetAssessment}
use Rattle.assessment.specs.Picture.{keep, or_this, found, pushed, is_at_least, pushed_if, at_least}

-- ---- the most dangerous, and the first under a number
pub one_more : (b : Option TargetAssessment) (ts : List TargetAssessment) (e : TargetAssessment) → fold keep b (ts ++ (e ∷ [])) ≡ keep (fold keep b ts) e
unfolding fold
one_more b [] e = refl
one_more b (t ∷ ts) e = one_more (keep b t) ts e

kept : (target : ℕ) (t : TargetAssessment) (ts : List TargetAssessment) → fold (or_this target) (Some t) ts ≡ Some t
unfolding fold
kept target t [] = refl
kept target t (e ∷ ts) = kept target t ts

either : (target : ℕ) (t : TargetAssessment) (ts : List TargetAssessment) (r : Option TargetAssessment) (b : Bool) → r ≡ fold (or_this target) None ts
    → cond b (Some t) r ≡ fold (or_this target) (cond b (Some t) None) ts
either target t ts r true h = sym (kept target t ts)
either target t ts r false h = h

pub finds : (target : ℕ) (ts : List TargetAssessment) → find (λ e. eqb e.target target) ts ≡ found target ts
unfolding fold found
finds target [] = refl
finds target (e ∷ ts) = either target e ts (find (λ e. eqb e.target target) ts) (eqb e.target target) (finds target ts)

-- ---- the loop that keeps those of at least a risk
module _ (least : CollisionRisk) (list : List TargetAssessment) where
  -- what is kept, and what is still to be looked at
  abbrev pub left : ℕ → List TargetAssessment → List TargetAssessment
  left i kept = kept ++ at_least least (drop i list)

  pub step : (i : ℕ) (d : TargetAssessment) (kept next : List TargetAssessment) → i < length list → length list ≤ max_contacts → length kept ≤ i
      → next ≡ pushed_if least kept (get_or list i d) → (length next ≤ i + 1) × (left (i + 1) next ≡ left i kept)
  unfolding at_least pushed
  step i d kept next h m few e = subst (λ l. (length l ≤ i + 1) × (left (i + 1) l ≡ left i kept)) (sym e) (go (is_at_least least x) refl)
    where
      x : TargetAssessment
      x = get_or list i d

      rest : List TargetAssessment
      rest = at_least least (drop (suc i) list)

      room : ltb (length kept) max_contacts ≡ true
      room = is_true (ltb (length kept) max_contacts) (lt→ltb (length kept) max_contacts below)
        where
          below : length kept < max_contacts
          below = omega arith

      longer : length (kept ++ (x ∷ [])) ≤ i + 1
      longer = omega (arith, length-append kept (x ∷ []))

      shorter : length kept ≤ i + 1
      shorter = omega arith

      here : left i kept ≡ kept ++ cond (is_at_least least x) (x ∷ rest) rest
      here = ap (λ l. kept ++ at_least least l) (drop-cons list i d h)

      go : (b : Bool) → is_at_least least x ≡ b → (length (cond b (cond (ltb (length kept) max_contacts) (kept ++ (x ∷ [])) kept) kept) ≤ i + 1) ×
          (left (i + 1) (cond b (cond (ltb (length kept) max_contacts) (kept ++ (x ∷ [])) kept) kept) ≡ left i kept)
      go true q = rw room (
        longer,
        ap (λ j. (kept ++ (x ∷ [])) ++ at_least least (drop j list)) (add-one i) ∙ append_assoc kept (x ∷ []) rest
            ∙ ap (λ b. kept ++ cond b (x ∷ rest) rest) (sym q) ∙ sym here,
      )
      go false q = (shorter, ap (λ j. kept ++ at_least least (drop j list)) (add-one i) ∙ ap (λ b. kept ++ cond b (x ∷ rest) rest) (sym q) ∙ sym here)

  pub done : (i : ℕ) (kept : List TargetAssessment) → i ≡ length list → left i kept ≡ left 0 [] → kept ≡ at_least least list
  unfolding at_least
  done i kept e q = sym (append-nil kept) ∙ ap (λ l. kept ++ at_least least l) (sym (ap (λ j. drop j list) e ∙ drop-length list)) ∙ q
