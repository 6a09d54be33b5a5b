-- Document 01's choice is the smallest trial on a permitted side that clears, starboard of equal ones; and it is none exactly if no trial on a permitted side clears.
use Rattle.std.specs.Prelude.{None, Some}
use Rattle.std.specs.Option.{option_or}
use mathlib.Core.Path.{◌≡◌, refl, sym, ap, ◌∙◌, subst}
use mathlib.Core.Bool.{Bool, true, false}
use mathlib.Core.List.{List, Memᴰ}
use lib.Dec.{T}
use lib.Ieee.{Float, eq, lt}
use Rattle.laws.specs.Ascending.{Ascending}
use Rattle.laws.proofs.First.{Below, ascending_in_order, same_member, least, none}
use Rattle.motion.specs.declared.side.Side.{Side}
use Rattle.motion.specs.declared.side.Side.TheVariants.{Starboard, Port}
use Rattle.clearance.specs.declared.Clearance.{Clearance}
use Rattle.std.specs.declared.option.Option.{Option}
use Rattle.motion.specs.declared.side.BySide.{BySide}
use Rattle.avoidance.specs.declared.search.Chosen.{Chosen}
use Rattle.avoidance.specs.Search.{tried, both, between, choice}
use Rattle.avoidance.specs.Smallest.{allows, IsChoice}
use Rattle.avoidance.proofs.First.{not_found, same_choice, no_clearance}
use Rattle.avoidance.proofs.Smallest.{between_is_choice}

-- ---- one magnitude
-- the trial of a permitted side that clears, starboard's first
pub record OfBoth (sides : BySide Bool) (clears : Side → Float → Option Clearance) (m : Float) (c : Chosen) : Type 0 where
  pub permitted : T (allows sides c.side)
  pub magnitude : c.magnitude.0 ≡ m
  pub clear : clears c.side m ≡ Some c.clearance
  pub starboard : T sides.starboard → (clears Starboard m ≡ None → ⊥) → c.side ≡ Starboard

module _ (sides : BySide Bool) (clears : Side → Float → Option Clearance) (m : Float) where
  tried_none : (b : Bool) (side : Side) (k : Option Clearance) → tried b side m k ≡ None → T b → k ≡ None
  tried_none true side k e t = no_clearance side m k e
  tried_none false side k e t = absurd t

  abbrev taken : Side → Clearance → Chosen
  taken side p = record { side = side; magnitude = record { 0 = m }; clearance = p }

  of_tried : (b : Bool) (side : Side) → T (allows sides side) ≡ T b → (k : Option Clearance) → clears side m ≡ k
      → (T sides.starboard → (clears Starboard m ≡ None → ⊥) → side ≡ Starboard) → (c : Chosen) → tried b side m k ≡ Some c → OfBoth sides clears m c
  of_tried true side a (Some p) h first c e = subst (OfBoth sides clears m) (same_choice (taken side p) c e) (record {
    permitted = subst (λ t. t) (sym a) tt;
    magnitude = refl;
    clear = h;
    starboard = first;
  })
  of_tried true side a None h first c e = absurd (not_found c e)
  of_tried false side a k h first c e = absurd (not_found c e)

  pub of_both : (c : Chosen) → both sides clears m ≡ Some c → OfBoth sides clears m c
  unfolding both
  of_both c e = go (tried sides.starboard Starboard m (clears Starboard m)) refl e
    where
      go : (o : Option Chosen) → tried sides.starboard Starboard m (clears Starboard m) ≡ o → option_or o (tried sides.port Port m (clears Port m)) ≡ Some c
          → OfBoth sides clears m c
      go (Some d) q e = of_tried sides.starboard Starboard refl (clears Starboard m) refl (λ t n. refl) c (q ∙ e)
      go None q e = of_tried sides.port Port refl (clears Port m) refl
          (λ t n. absurd (n (tried_none sides.starboard Starboard (clears Starboard m) q t))) c e

  pub both_none : both sides clears m ≡ None → (side : Side) → T (allows sides side) → clears side m ≡ None
  unfolding both
  both_none e side t = go (tried sides.starboard Starboard m (clears Starboard m)) refl e side t
    where
      go : (o : Option Chosen) → tried sides.starboard Starboard m (clears Starboard m) ≡ o → option_or o (tried sides.port Port m (clears Port m)) ≡ None
          → (side : Side) → T (allows sides side) → clears side m ≡ None
      go None q e Starboard t = tried_none sides.starboard Starboard (clears Starboard m) q t
      go None q e Port t = tried_none sides.port Port (clears Port m) e t
      go (Some c) q e side t = cc

-- ---- all magnitudes
module _ (sides : BySide Bool) (clears : Side → Float → Option Clearance) (ms : List Float) (up : Ascending ms) where
  pub is_choice : (c : Chosen) → choice sides clears ms ≡ Some c → IsChoice sides clears ms c
  unfolding between
  is_choice c e =
      let l = least (both sides clears) Below ms (ascending_in_order ms up) c (between_is_choice sides clears ms up ∙ e) in
      let b = of_both sides clears l.it c l.answer in
      record {
        permitted = b.permitted;
        listed = subst (λ m. Memᴰ m ms) (sym b.magnitude) l.listed;
        clear = ap (clears c.side) b.magnitude ∙ b.clear;
        least = λ side m t h k. both_none sides clears m (l.least m h (subst (λ x. T (lt m x)) b.magnitude k)) side t;
        starboard = λ m t h q n.
            let is = same_member ms up m l.it h l.listed (subst (λ x. T (eq m x)) b.magnitude q) in
            b.starboard t (λ no. n (ap (clears Starboard) is ∙ no));
      }

  pub no_choice : choice sides clears ms ≡ None → (side : Side) (m : Float) → T (allows sides side) → Memᴰ m ms → clears side m ≡ None
  unfolding between
  no_choice e side m t h = both_none sides clears m (none (both sides clears) ms (between_is_choice sides clears ms up ∙ e) m h) side t
