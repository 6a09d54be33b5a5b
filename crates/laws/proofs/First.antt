-- The law on the least element of an order: in a list that is in order, the first at which a function answers is the least that has an answer.
use Rattle.std.specs.Prelude.{None, Some}
use Rattle.std.specs.Option.{option_or}
use mathlib.Core.Path.{◌≡◌, refl, sym, ap, ◌∙◌, subst}
use mathlib.Core.Logic.{⊎_elim}
use mathlib.Core.List.Memᴰ
use mathlib.Core.List.{List, [], ◌∷◌, Memᴰ}
use lib.Dec.{T}
use lib.Ieee.{Float, eq, lt}
use Rattle.std.specs.declared.option.Option.{Option}
use Rattle.laws.specs.Ascending.{Ascending}
use Rattle.laws.specs.First.{first, Least, InOrder}
use Rattle.laws.proofs.Order.{lt_not_self, lt_trans, eq-lt, eq_sym}

module _ {A B : Type 0} (f : A → Option B) where
  -- one that has no answer is passed over, and one that has decides
  pub passed : (x : A) (xs : List A) → f x ≡ None → first f (x ∷ xs) ≡ first f xs
  unfolding first
  passed x xs e = ap (λ o. option_or o (first f xs)) e

  pub decides : (x : A) (xs : List A) (b : B) → f x ≡ Some b → first f (x ∷ xs) ≡ Some b
  unfolding first
  decides x xs b e = ap (λ o. option_or o (first f xs)) e

  pub none : (xs : List A) → first f xs ≡ None → (x : A) → Memᴰ x xs → f x ≡ None
  none [] e x m = absurd (Memᴰ.not-nil m)
  none (y ∷ ys) e x m = go (f y) refl (λ k r. none ys k x r)
    where
      go : (o : Option B) → f y ≡ o → (first f ys ≡ None → Memᴰ x ys → f x ≡ None) → f x ≡ None
      go None q rest = ⊎_elim (λ is. ap f is ∙ q) (rest (sym (passed y ys q) ∙ e)) (Memᴰ.cases_cons m)
      go (Some b) q rest = let no : Some b ≡ None = sym (decides y ys b q) ∙ e in cc

  pub all_none : (xs : List A) → ((x : A) → Memᴰ x xs → f x ≡ None) → first f xs ≡ None
  unfolding first
  all_none [] h = refl
  all_none (x ∷ xs) h = passed x xs (h x (Memᴰ.head refl)) ∙ all_none xs (λ y m. h y (Memᴰ.tail m))

  pub least : (before : A → A → Type 0) (xs : List A) → InOrder before xs → (b : B) → first f xs ≡ Some b → Least f before xs b
  unfolding first
  least before [] o b e = cc
  least before (x ∷ xs) o b e = go (f x) refl (least before xs o.2 b)
    where
      go : (a : Option B) → f x ≡ a → (first f xs ≡ Some b → Least f before xs b) → Least f before (x ∷ xs) b
      go (Some c) q rest = record {
        it = x;
        listed = Memᴰ.head refl;
        answer = q ∙ sym (decides x xs c q) ∙ e;
        least = λ y m k. absurd (⊎_elim (λ is. o.0 (subst (λ z. before z x) is k)) (λ r. o.1 y r k) (Memᴰ.cases_cons m));
      }
      go None q rest = let l = rest (sym (passed x xs q) ∙ e) in record {
        it = l.it;
        listed = Memᴰ.tail l.listed;
        answer = l.answer;
        least = λ y m k. ⊎_elim (λ is. ap f is ∙ q) (λ r. l.least y r k) (Memᴰ.cases_cons m);
      }

-- two that answer alike on a list
pub agree : {A B : Type 0} (f g : A → Option B) (xs : List A) → ((x : A) → Memᴰ x xs → f x ≡ g x) → first f xs ≡ first g xs
unfolding first
agree f g [] h = refl
agree f g (x ∷ xs) h = ap (λ o. option_or o (first f xs)) (h x (Memᴰ.head refl)) ∙ ap (option_or (g x)) (agree f g xs (λ y m. h y (Memᴰ.tail m)))

-- ---- ascending floats
abbrev pub Below : Float → Float → Type 0
Below x y = T (lt x y)

pub ascending_in_order : (xs : List Float) → Ascending xs → InOrder Below xs
ascending_in_order [] up = tt
ascending_in_order (x ∷ xs) up = (lt_not_self x, (λ y m k. lt_not_self x (lt_trans x y x (up.0 y m) k)), ascending_in_order xs up.1)

-- two members that are equal by value are one
pub same_member : (xs : List Float) → Ascending xs → (x y : Float) → Memᴰ x xs → Memᴰ y xs → T (eq x y) → x ≡ y
same_member [] up x y p q e = absurd (Memᴰ.not-nil p)
same_member (z ∷ xs) up x y p q e =
    ⊎_elim
    (λ a. ⊎_elim (λ b. a ∙ sym b) (λ b. absurd (apart x y (subst (λ w. T (lt w y)) (sym a) (up.0 y b)) (eq_sym x y e))) (Memᴰ.cases_cons q))
    (λ a. ⊎_elim (λ b. absurd (apart y x (subst (λ w. T (lt w x)) (sym b) (up.0 x a)) e)) (λ b. same_member xs up.1 x y a b e) (Memᴰ.cases_cons q))
    (Memᴰ.cases_cons p)
  where
    apart : (u v : Float) → T (lt u v) → T (eq v u) → ⊥
    apart u v l k = lt_not_self v (eq-lt v u v k l)
