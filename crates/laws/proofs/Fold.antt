-- Laws of `fold`: a loop's turn takes one element off the front of what is left, the loop ends with nothing left, and a loop over a joined list is one loop after the other.
use Prim.Native.Nat.{ℕ, suc, ◌+◌, ◌≤◌, ◌<◌}
use mathlib.Core.Path.{◌≡◌, refl, ap}
use mathlib.Core.List.{List, [], ◌∷◌, ◌++◌}
use native.Mathlib.Numerals.{add-one}
use lib.ListN.{length, get_or, drop}
use lib.Seq.{slice, slice-cons, slice_empty, drop-cons, drop-length}
use Rattle.laws.specs.Fold.{fold}

module _ {A B : Type 0} (f : B → A → B) where
  -- `slice i n l` is what a loop at i has left of the first n elements
  pub fold_step : (b next : B) (l : List A) (n i : ℕ) (d : A) → i < n → n ≤ length l → next ≡ f b (get_or l i d) → fold f next (slice (i + 1) n l) ≡ fold f b (slice i n l)
  unfolding fold
  fold_step b next l n i d h k e = rw (add-one, slice-cons i n l d) (ap (λ (x : B). fold f x (slice (suc i) n l)) e)

  pub fold_done : (b r : B) (l : List A) (n i : ℕ) → i ≡ n → fold f b (slice i n l) ≡ r → b ≡ r
  unfolding fold
  fold_done b r l n i e q = rw (e, slice_empty n l) at q

  -- the same for a loop over the list itself, which at i has left what is beyond the first i
  pub fold_turn : (b next : B) (l : List A) (i : ℕ) (d : A) → i < length l → next ≡ f b (get_or l i d) → fold f next (drop (i + 1) l) ≡ fold f b (drop i l)
  unfolding fold
  fold_turn b next l i d h e = rw (add-one, drop-cons l i d h) (ap (λ (x : B). fold f x (drop (suc i) l)) e)

  pub fold_end : (b r : B) (l : List A) (i : ℕ) → i ≡ length l → fold f b (drop i l) ≡ r → b ≡ r
  unfolding fold
  fold_end b r l i e q = rw (e, drop-length l) at q

  pub fold-append : (b : B) (xs ys : List A) → fold f b (xs ++ ys) ≡ fold f (fold f b xs) ys
  unfolding fold
  fold-append b [] ys = refl
  fold-append b (x ∷ xs) ys = fold-append (f b x) xs ys
