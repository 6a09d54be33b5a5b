-- An answer that is 13 where no side is shared, else 5 where nothing is chosen, and else what is said of the choice: that it is
-- one of the three, and when. It serves the ruled search and the slowing search.
use Rattle.std.specs.Prelude.{None, Some, Err, Ok}
use mathlib.Core.Path.{◌≡◌, refl, sym, ap, ◌∙◌, subst}
use mathlib.Core.Bool.{Bool, true, false, cond, ◌||◌, true≢false}
use lib.Dec.{T}
use lib.Ieee.Bits.{is_true}
use Rattle.laws.proofs.Bools.{or_left, or_right}
use Rattle.std.specs.declared.option.Option.{Option}
use Rattle.std.specs.declared.result.Result.{Result}
use Rattle.elementary.specs.declared.error.Refusal.{Refusal}
use Rattle.elementary.specs.declared.error.Refusal.TheVariants as Why
use Rattle.motion.specs.declared.side.Side.{Side}
use Rattle.motion.specs.declared.side.Side.TheVariants.{Starboard, Port}
use Rattle.motion.specs.declared.side.BySide.{BySide}
use Rattle.avoidance.specs.Smallest.{allows}
use Rattle.ruled_search.specs.Ruled.{chosen_answer, answered}

-- ---- whether there is a side
some_allowed : (s : BySide Bool) (side : Side) → T (allows s side) → s.starboard || s.port ≡ true
some_allowed s Starboard t = is_true (s.starboard || s.port) (or_left s.starboard s.port t)
some_allowed s Port t = is_true (s.starboard || s.port) (or_right s.starboard s.port t)

allowed_side : (s : BySide Bool) → s.starboard || s.port ≡ true → (side : Side) × T (allows s side)
allowed_side s h = go s.starboard refl s.port refl h
  where
    go : (a : Bool) → s.starboard ≡ a → (b : Bool) → s.port ≡ b → a || b ≡ true → (side : Side) × T (allows s side)
    go true p b q h = (Starboard, subst T (sym p) tt)
    go false p true q h = (Port, subst T (sym q) tt)
    go false p false q h = absurd (true≢false (sym h))

-- what an answer is said of
pub record SaidOf {A M : Type 0} (of : A → M) (sides : BySide Bool) (choice : Option A) (m : M) : Type 0 where
  pub it : A
  pub chosen : choice ≡ Some it
  pub is : of it ≡ m
  pub some_side : sides.starboard || sides.port ≡ true

module _ {A M : Type 0} (of : A → M) (sides : BySide Bool) (choice : Option A) (answer : Result M Refusal) (is : answer ≡ answered of sides choice) where
  pub by_sides : (b : Bool) → sides.starboard || sides.port ≡ b → answer ≡ cond b (chosen_answer of choice) (Err Why.NoSharedSide)
  unfolding answered
  by_sides b e = is ∙ ap (λ b. cond b (chosen_answer of choice) (Err Why.NoSharedSide)) e

  pub with_side : (side : Side) → T (allows sides side) → answer ≡ chosen_answer of choice
  with_side side t = by_sides true (some_allowed sides side t)

  -- 13 is refused where no side is shared, and there alone
  pub no_side : answer ≡ Err Why.NoSharedSide → (side : Side) → T (allows sides side) → ⊥
  no_side e side t = go choice (sym (with_side side t) ∙ e)
    where
      go : (x : Option A) → chosen_answer of x ≡ Err Why.NoSharedSide → ⊥
      go None q = cc
      go (Some a) q = cc

  pub thirteen_if : ((side : Side) → T (allows sides side) → ⊥) → answer ≡ Err Why.NoSharedSide
  thirteen_if none = go (sides.starboard || sides.port) refl
    where
      go : (b : Bool) → sides.starboard || sides.port ≡ b → answer ≡ Err Why.NoSharedSide
      go true e = let s = allowed_side sides e in absurd (none s.0 s.1)
      go false e = by_sides false e

  -- 5 where one is and nothing is chosen, and there alone
  pub some_side : answer ≡ Err Why.NoTrialClears → (side : Side) × T (allows sides side)
  some_side q = go (sides.starboard || sides.port) refl
    where
      go : (b : Bool) → sides.starboard || sides.port ≡ b → (side : Side) × T (allows sides side)
      go true e = allowed_side sides e
      go false e = let no : Err Why.NoTrialClears ≡ Err Why.NoSharedSide = sym q ∙ by_sides false e in cc

  pub none_chosen : answer ≡ Err Why.NoTrialClears → choice ≡ None
  none_chosen q = let s = some_side q in go choice (sym (with_side s.0 s.1) ∙ q)
    where
      go : (x : Option A) → chosen_answer of x ≡ Err Why.NoTrialClears → x ≡ None
      go None q = refl
      go (Some a) q = cc

  pub five_if : (side : Side) → T (allows sides side) → choice ≡ None → answer ≡ Err Why.NoTrialClears
  five_if side t e = with_side side t ∙ ap (chosen_answer of) e

  -- else it is said of the choice
  pub said_of : (m : M) → answer ≡ Ok m → SaidOf of sides choice m
  said_of m q = go (sides.starboard || sides.port) refl
    where
      at : sides.starboard || sides.port ≡ true → (x : Option A) → choice ≡ x → chosen_answer of x ≡ Ok m → SaidOf of sides choice m
      at e None c r = cc
      at e (Some a) c r = record { it = a; chosen = c; is = cc; some_side = e }

      go : (b : Bool) → sides.starboard || sides.port ≡ b → SaidOf of sides choice m
      go true e = at e choice refl (sym (by_sides true e) ∙ q)
      go false e = let no : Ok m ≡ Err Why.NoSharedSide = sym q ∙ by_sides false e in cc

  pub otherwise : (answer ≡ Err Why.NoSharedSide → ⊥) → (answer ≡ Err Why.NoTrialClears → ⊥) → (m : M) × (answer ≡ Ok m)
  otherwise not-13 not-5 = go (sides.starboard || sides.port) refl
    where
      at : (x : Option A) → answer ≡ chosen_answer of x → (m : M) × (answer ≡ Ok m)
      at None e = absurd (not-5 e)
      at (Some a) e = (of a, e)

      go : (b : Bool) → sides.starboard || sides.port ≡ b → (m : M) × (answer ≡ Ok m)
      go true e = at choice (by_sides true e)
      go false e = absurd (not-13 (by_sides false e))
