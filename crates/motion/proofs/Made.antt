-- A list that is made of another, one of each from the front.
use mathlib.Core.Path.{◌≡◌, sym, ap, ◌∙◌}
use mathlib.Core.List.{List, [], ◌∷◌, ◌++◌, map, map-append}
use Prim.Native.Nat.{ℕ, ◌+◌, ◌<◌, ◌≤◌}
use native.Mathlib.Numerals.{add-one}
use lib.ListN.{length, get_or, take, length-map}
use lib.Seq.{take-suc, take-length}
use Rattle.std.proofs.lemmas.List.{length-take-le}

module _ {A B : Type 0} (f : A → B) (l : List A) where
  -- those of the first i
  abbrev pub made : ℕ → List B
  made i = map f (take i l)

  pub made-length : (i : ℕ) → i ≤ length l → length (made i) ≡ i
  made-length i h = length-map (take i l) f ∙ length-take-le i l h

  pub one_more : (bs : List B) (i : ℕ) (d : A) (b : B) → i < length l → b ≡ f (get_or l i d) → bs ≡ made i → bs ++ (b ∷ []) ≡ made (i + 1)
  one_more bs i d b h e so =
      ap (λ bs. bs ++ (b ∷ [])) so ∙ ap (λ b. made i ++ (b ∷ [])) e
      ∙ sym (ap (map f) (ap (λ j. take j l) (add-one i) ∙ take-suc l i d h) ∙ map-append f (take i l) (get_or l i d ∷ []))

  pub all_made : (bs : List B) (i : ℕ) → i ≡ length l → bs ≡ made i → bs ≡ map f l
  all_made bs i e so = so ∙ ap (map f) (ap (λ i. take i l) e ∙ take-length l)
