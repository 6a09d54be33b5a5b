-- The loop over the contacts: each turn takes one more of those that are left, and one that blocks decides, wherever it stands.
use Rattle.std.specs.Prelude.{None, Some, is_some, slice_index_or}
use Rattle.std.specs.Option.{IfSome, unwrap_or}
use mathlib.Core.Path.{◌≡◌, refl, sym, ap, ◌∙◌}
use mathlib.Core.Bool.{true, false, true≢false}
use mathlib.Core.List.{List, [], ◌∷◌, map}
use Prim.Native.Nat.{ℕ, zero, suc, ◌+◌, ◌<◌}
use native.Mathlib.Nat.{le_of_lt, lt_of_lt_of_le}
use native.Mathlib.Numerals.{add-one}
use native.Mathlib.Omega.{arith}
use lib.ListN.{length, get_or, drop}
use lib.Ieee.{Float}
use lib.Seq.{drop-cons, drop-length}
use Rattle.std.specs.declared.option.Option.{Option}
use Rattle.motion.specs.declared.units.Distance.{Distance}
use Rattle.clearance.specs.declared.Clearance.{Clearance}
use Rattle.motion.specs.declared.vessel.Components.{Components}
use Rattle.clearance.specs.declared.contact.Moving.{Moving}
use Rattle.clearance.specs.Clearing.{nearer, nobody, tally, clearing, contact_clears_computed, Blocks, clears_computed}

pub no : {P : Type 0} → false ≡ true → P
no e = absurd (true≢false (sym e))

-- one that blocks may stand later
later : (place : ℕ) (closest : Option Clearance) (p : Option Distance) (ps : List (Option Distance))
    → ((d : Distance) → tally (suc place) (Some (nearer closest place d)) ps ≡ None) → tally place closest (p ∷ ps) ≡ None
unfolding tally
later place closest None ps h = refl
later place closest (Some d) ps h = h d

module _ {A : Type 0} (f : A → Option Distance) (l : List A) where
  -- what those from i on make of the closest so far
  abbrev pub left : ℕ → Option Clearance → Option Clearance
  left i closest = tally i closest (map f (drop i l))

  one : (i : ℕ) (closest : Option Clearance) (d : A) → i < length l → left i closest ≡ tally i closest (f (get_or l i d) ∷ map f (drop (suc i) l))
  one i closest d h = ap (λ l. tally i closest (map f l)) (drop-cons l i d h)

  pub step : (i : ℕ) (closest : Option Clearance) (d : A) (passes : Distance) (next : Clearance) → i < length l → Some passes ≡ f (get_or l i d)
      → next ≡ nearer closest i passes → left (i + 1) (Some next) ≡ left i closest
  unfolding tally
  step i closest d passes next h e q =
      ap (λ i. left i (Some next)) (add-one i) ∙ ap (λ n. tally (suc i) (Some n) (map f (drop (suc i) l))) q
      ∙ ap (λ p. tally i closest (p ∷ map f (drop (suc i) l))) e ∙ sym (one i closest d h)

  pub stops : (i : ℕ) (closest : Option Clearance) (d : A) → i < length l → None ≡ f (get_or l i d) → None ≡ left i closest
  unfolding tally
  stops i closest d h e = ap (λ p. tally i closest (p ∷ map f (drop (suc i) l))) e ∙ sym (one i closest d h)

  pub done : (i : ℕ) (closest : Option Clearance) → i ≡ length l → Some (unwrap_or closest nobody) ≡ left i closest
  unfolding tally
  done i closest e = ap (λ l. tally i closest (map f l)) (sym (ap (λ i. drop i l) e ∙ drop-length l))

  -- one that blocks, at i, decides from any place j before
  pub one_blocks : (i : ℕ) (d : A) (p : Option Distance) → i < length l → p ≡ f (get_or l i d) → p ≡ None → left 0 None ≡ None
  unfolding tally
  one_blocks i d p h e b = from i 0 (none i) None
    where
      none : (i : ℕ) → 0 + i ≡ i
      none i = omega arith

      here : (j : ℕ) → j + 0 ≡ i → j ≡ i
      here j g = omega arith

      below : (j r : ℕ) → j + suc r ≡ i → j < i
      below j r g = omega arith

      next : (j r : ℕ) → j + suc r ≡ i → suc j + r ≡ i
      next j r g = omega arith

      from : (r j : ℕ) → j + r ≡ i → (closest : Option Clearance) → left j closest ≡ None
      from zero j g closest = ap (λ j. left j closest) (here j g) ∙ sym (stops i closest d h (sym b ∙ e))
      from (suc r) j g closest = one j closest d (lt_of_lt_of_le (below j r g) (le_of_lt h)) ∙ later j closest (f (get_or l j d))
          (map f (drop (suc j) l)) (λ q. from r (suc j) (next j r g) (Some (nearer closest j q)))

  pub whole : left 0 None ≡ clearing (map f l)
  unfolding clearing
  whole = refl

-- one that blocks at a place decides
module _ (own : Components) (floor : Float) where
  pub asked_blocks : (ms : List Moving) (place : ℕ) (d : Moving) → place < length ms → contact_clears_computed own floor (slice_index_or ms place d) ≡ None
      → clears_computed own floor ms ≡ None
  unfolding clears_computed
  asked_blocks ms place d h e = let at = contact_clears_computed own floor in sym (whole at ms) ∙ one_blocks at ms place d _ h refl e

  blocks_there : (ms : List Moving) (place : ℕ) → Blocks own floor ms place → clears_computed own floor ms ≡ None
  blocks_there [] place b = absurd (none place b.0)
    where
      none : (place : ℕ) → place < 0 → ⊥
      none place h = omega arith
  blocks_there (m ∷ ms) place b = asked_blocks (m ∷ ms) place m b.0 (b.1 m)

  pub some_blocks : (ms : List Moving) (r : Option ℕ) → IfSome r (Blocks own floor ms) → is_some r ≡ true → clears_computed own floor ms ≡ None
  some_blocks ms None b e = no e
  some_blocks ms (Some place) b e = blocks_there ms place b
