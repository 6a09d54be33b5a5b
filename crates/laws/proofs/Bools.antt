-- Small facts on tests: a test's value from what it decides, and back.
use mathlib.Core.Path.{◌≡◌, refl, sym, subst}
use mathlib.Core.Bool.{Bool, true, false, ◌&&◌, ◌||◌}
use mathlib.Core.Logic.{◌⊎◌, inl, inr}
use Prim.Native.Nat.{ℕ, ◌≤◌}
use native.Mathlib.Nat.{le_of_lt, le_of_eq, eq-or-lt_of_le}
use lib.Dec.{T, ltb, eqb, ltb→lt, lt→ltb, eqb→eq}
use lib.Ieee.Fits.{eq→eqb}

pub holds : {b : Bool} → b ≡ true → T b
holds e = subst T (sym e) tt

pub fails : {b : Bool} → b ≡ false → T b → ⊥
fails e t = subst T e t

pub refuted : (b : Bool) → (T b → ⊥) → b ≡ false
refuted true h = absurd (h tt)
refuted false h = refl

pub same_test : (a b : Bool) → (T a → T b) → (T b → T a) → a ≡ b
same_test true true f g = refl
same_test true false f g = absurd (f tt)
same_test false true f g = absurd (g tt)
same_test false false f g = refl

pub either : (b : Bool) → (b ≡ true) ⊎ (b ≡ false)
either true = inl refl
either false = inr refl

pub or_left : (a b : Bool) → T a → T (a || b)
or_left true b t = tt
or_left false b t = absurd t

pub or_right : (a b : Bool) → T b → T (a || b)
or_right true b t = tt
or_right false b t = t

pub or_elim : {P : Type 0} (a b : Bool) → (T a → P) → (T b → P) → T (a || b) → P
or_elim true b f g t = f tt
or_elim false b f g t = g t

pub and-true : (b : Bool) → b && true ≡ b
and-true true = refl
and-true false = refl

pub and-false : (b : Bool) → b && false ≡ false
and-false true = refl
and-false false = refl

-- `<=` of two numbers, as the order of floats tests it
pub le_of_test : (a b : ℕ) → T (ltb a b || eqb a b) → a ≤ b
le_of_test a b = or_elim (ltb a b) (eqb a b) (λ t. le_of_lt (ltb→lt a b t)) (λ t. le_of_eq (eqb→eq a b t))

pub test_of_le : (a b : ℕ) → a ≤ b → T (ltb a b || eqb a b)
test_of_le a b h = elim (eq-or-lt_of_le h) [ inl e ↦ or_right (ltb a b) (eqb a b) (eq→eqb e) | inr l ↦ or_left (ltb a b) (eqb a b) (lt→ltb a b l) ]
