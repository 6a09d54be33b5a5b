-- The checks of a list, item by item: a loop that goes from the front knows that what is left of the list decides as the whole does.
use Rattle.std.specs.Prelude.{◌≡◌, refl, ℕ, suc, ◌+◌, ◌<◌, List, [], ◌∷◌, ◌++◌, length, drop, get_or, Ok, Err}
use Rattle.std.specs.declared.result.Result.{Result}
use mathlib.Core.Path.{sym, ap, ◌∙◌}
use Rattle.std.proofs.Math.Seq.{drop-cons, drop-length}
use native.Mathlib.Numerals.{add-one}
use Rattle.elementary.specs.declared.error.Refusal.{Refusal}
use Rattle.motion.specs.Check.{Check, verdict, checked}
use Rattle.motion.proofs.ArgumentCode.{refused, accepted}

module _ {A : Type 0} (f : A → List Check) (all : List A → List Check) (cons : (a : A) (rest : List A) → all (a ∷ rest) ≡ f a ++ all rest) (xs : List A) where
  -- what the items from i on say
  abbrev pub left : ℕ → Result (Unit {0}) Refusal
  left i = checked (all (drop i xs))

  opened : (i : ℕ) (d : A) → i < length xs → left i ≡ checked (f (get_or xs i d) ++ all (drop (i + 1) xs))
  opened i d h = ap (λ l. checked (all l)) (drop-cons xs i d h) ∙ ap checked (cons (get_or xs i d) (drop (suc i) xs)) ∙ ap (λ k. checked (f (get_or xs i d) ++ all (drop k xs))) (sym (add-one i))

  -- an item that is accepted leaves the rest to decide
  pub passed : (i : ℕ) (d : A) → i < length xs → Ok tt ≡ checked (f (get_or xs i d)) → left (i + 1) ≡ left i
  passed i d h ok = accepted (f (get_or xs i d)) (all (drop (i + 1) xs)) (left (i + 1)) (Ok tt) ok refl ∙ sym (opened i d h)

  -- one that is refused decides
  pub stopped : (i : ℕ) (d : A) (e : Refusal) → i < length xs → Err e ≡ checked (f (get_or xs i d)) → Err e ≡ left i
  stopped i d e h k = refused (f (get_or xs i d)) (all (drop (i + 1) xs)) (Ok tt) e k ∙ sym (opened i d h)

  -- none is left
  pub ended : (i : ℕ) → i ≡ length xs → all [] ≡ [] → Ok tt ≡ left i
  unfolding verdict
  ended i e none = sym (ap (λ k. checked (all (drop k xs))) e ∙ ap (λ l. checked (all l)) (drop-length xs) ∙ ap checked none)
