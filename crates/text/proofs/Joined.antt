-- A loop that appends a piece for each element of a list appends them all: what is cut of the pieces is cut of the whole.
use mathlib.Core.Path.{◌≡◌, sym, ◌∙◌}
use mathlib.Core.List.{List, [], ◌∷◌, flat_map}
use Prim.Native.Nat.{ℕ, ◌≤◌}
use lib.ListN.{length}
use Rattle.laws.specs.Fold.{fold}
use Rattle.text.specs.Text.{room, appended}
use Rattle.text.proofs.Appending.{appended_twice, nothing_appended, within_room}

module _ {A : Type 0} (piece : A → List ℕ) where
  abbrev pub with_piece : List ℕ → A → List ℕ
  with_piece u x = appended u (piece x)

  pub joined : (u : List ℕ) (xs : List A) → length u ≤ room → fold with_piece u xs ≡ appended u (flat_map piece xs)
  unfolding fold flat_map
  joined u [] h = sym (nothing_appended u h)
  joined u (x ∷ xs) h = joined (with_piece u x) xs (within_room u (piece x)) ∙ appended_twice u (piece x) (flat_map piece xs)
