-- A loop over a list: `fold f b l` takes f over the elements of l, from the first on, beginning
-- with b.
use Rattle.std.specs.Prelude.{List, [], ◌∷◌}

module _ {A B : Type 0} (f : B → A → B) where
  unfoldable pub fold : B → List A → B
  fold b [] = b
  fold b (x ∷ xs) = fold (f b x) xs
