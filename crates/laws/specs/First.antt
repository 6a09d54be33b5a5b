-- The first of a list at which a function answers; and an answer that no element has before it, by
-- an order.
use Rattle.std.specs.Prelude.{◌≡◌, None, Some}
use Rattle.std.specs.Option.{option_or}
use mathlib.Core.List.{List, [], ◌∷◌, Memᴰ}
use Rattle.std.specs.declared.option.Option.{Option}

module _ {A B : Type 0} (f : A → Option B) where
  unfoldable pub first : List A → Option B
  first [] = None
  first (x ∷ xs) = option_or (f x) (first xs)

  -- the answer at the least element that has one
  pub record Least (before : A → A → Type 0) (xs : List A) (b : B) : Type 0 where
    pub it : A
    pub listed : Memᴰ it xs
    pub answer : f it ≡ Some b
    pub least : (x : A) → Memᴰ x xs → before x it → f x ≡ None

-- no element is before itself or before one that stands in front of it
abbrev pub InOrder : {A : Type 0} → (A → A → Type 0) → List A → Type 0
InOrder before [] = Unit {0}
InOrder before (x ∷ xs) = (before x x → ⊥) × ((y : _) → Memᴰ y xs → before y x → ⊥) × InOrder before xs
