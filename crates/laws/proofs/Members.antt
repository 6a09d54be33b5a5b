-- Members of a list with one more at its end, and lists that are mapped.
use mathlib.Core.Path.{◌≡◌, refl, ap, ◌∙◌}
use mathlib.Core.Logic.{◌⊎◌, inl, inr, ⊎_elim}
use mathlib.Core.List.Memᴰ
use mathlib.Core.List.{List, [], ◌∷◌, ◌++◌, map, Memᴰ, nil≢cons, head-eq_of_cons-eq, tail-eq_of_cons-eq}

pub mem_last : {A : Type 0} {a : A} (xs : List A) (x : A) → Memᴰ a (xs ++ (x ∷ [])) → Memᴰ a xs ⊎ (a ≡ x)
mem_last xs x h = ⊎_elim (λ p. inl p) (λ q. inr (Memᴰ.eq_of_singleton q)) (Memᴰ.append_cases xs h)

-- two functions that agree on the members map alike
pub map_agree : {A B : Type 0} (f g : A → B) (xs : List A) → ((a : A) → Memᴰ a xs → f a ≡ g a) → map f xs ≡ map g xs
map_agree f g [] h = refl
map_agree f g (x ∷ xs) h = ap (λ y. y ∷ map f xs) (h x (Memᴰ.head refl)) ∙ ap (λ ys. g x ∷ ys) (map_agree f g xs (λ a m. h a (Memᴰ.tail m)))

-- a mapped list that is cut at a member is the image of a list that is cut there
pub record Cut {A B : Type 0} (f : A → B) (xs : List A) (before : List B) (b : B) : Type 0 where
  pub front : List A
  pub it : A
  pub back : List A
  pub split : xs ≡ front ++ (it ∷ back)
  pub is_front : map f front ≡ before
  pub is_it : f it ≡ b

pub cut_map : {A B : Type 0} (f : A → B) (xs : List A) (before : List B) (b : B) (after : List B) → map f xs ≡ before ++ (b ∷ after) → Cut f xs before b
cut_map f [] [] b after e = absurd (nil≢cons e)
cut_map f [] (y ∷ ys) b after e = absurd (nil≢cons e)
cut_map f (x ∷ xs) [] b after e = record { front = []; it = x; back = xs; split = refl; is_front = refl; is_it = head-eq_of_cons-eq e }
cut_map f (x ∷ xs) (y ∷ ys) b after e =
    let o = cut_map f xs ys b after (tail-eq_of_cons-eq e) in
    record {
      front = x ∷ o.front;
      it = o.it;
      back = o.back;
      split = ap (λ l. x ∷ l) o.split;
      is_front = ap (λ z. z ∷ map f o.front) (head-eq_of_cons-eq e) ∙ ap (λ l. y ∷ l) o.is_front;
      is_it = o.is_it;
    }
