-- The choice among pairs is the clearing pair on a permitted side with the smallest turn, then the highest speed, then
-- starboard, and none exactly if no such pair clears: the law on the least element of an order, by magnitude and by speed.
use Rattle.std.specs.Prelude.{None, Some}
use Rattle.std.specs.Option.{option_map}
use mathlib.Core.Path.{◌≡◌, refl, sym, ap, ◌∙◌, subst}
use mathlib.Core.Bool.{Bool}
use mathlib.Core.List.{List, Memᴰ}
use lib.Dec.{T}
use lib.Ieee.{Float, eq, lt}
use Rattle.laws.specs.Ascending.{Ascending}
use Rattle.laws.specs.First.{InOrder}
use Rattle.laws.proofs.First.{Below, ascending_in_order, same_member, least, none}
use Rattle.motion.specs.declared.units.Speed.{Speed}
use Rattle.motion.specs.declared.side.Side.{Side}
use Rattle.motion.specs.declared.side.Side.TheVariants.{Starboard}
use Rattle.motion.specs.declared.side.BySide.{BySide}
use Rattle.std.specs.declared.option.Option.{Option}
use Rattle.clearance.specs.declared.Clearance.{Clearance}
use Rattle.avoidance.specs.declared.search.Chosen.{Chosen}
use Rattle.avoidance.specs.Search.{both}
use Rattle.avoidance.specs.Smallest.{allows}
use Rattle.avoidance.proofs.Chosen.{of_both, both_none}
use Rattle.slowing_search.specs.declared.pairs.Pair.{Pair}
use Rattle.slowing_search.specs.Slowing.{with_speed, at_pair, fastest, choice}
use Rattle.slowing_search.proofs.Speeds.{Faster}

pub record IsPair (sides : BySide Bool) (clears : Speed → Side → Float → Option Clearance) (speeds : List Speed) (ms : List Float) (p : Pair) : Type 0 where
  -- it is its magnitude's
  pub of_magnitude : fastest sides clears speeds p.trial.magnitude.0 ≡ Some p
  pub permitted : T (allows sides p.trial.side)
  pub listed : Memᴰ p.trial.magnitude.0 ms
  pub speed : Memᴰ p.speed speeds
  pub clear : clears p.speed p.trial.side p.trial.magnitude.0 ≡ Some p.trial.clearance
  pub least : (side : Side) (m : Float) (s : Speed) → T (allows sides side) → Memᴰ m ms → Memᴰ s speeds → T (lt m p.trial.magnitude.0) → clears s side m ≡ None
  pub faster : (side : Side) (m : Float) (s : Speed) → T (allows sides side) → Memᴰ m ms → Memᴰ s speeds → T (eq m p.trial.magnitude.0) → T (lt p.speed.0 s.0)
      → clears s side m ≡ None
  pub starboard : (m : Float) (s : Speed) → T sides.starboard → Memᴰ m ms → Memᴰ s speeds → T (eq m p.trial.magnitude.0) → T (eq s.0 p.speed.0)
      → (clears s Starboard m ≡ None → ⊥) → p.trial.side ≡ Starboard

-- ---- one magnitude and speed
no_map : {A B : Type 0} (f : A → B) (o : Option A) → option_map f o ≡ None → o ≡ None
no_map f None e = refl
no_map f (Some a) e = cc

-- the trial of a pair that is chosen at a speed
abbrev pair_in : Pair → Option Pair → Pair
pair_in other None = other
pair_in other (Some p) = p

pub record AtPair (s : Speed) (o : Option Chosen) (p : Pair) : Type 0 where
  pub trial : o ≡ Some p.trial
  pub speed : p.speed ≡ s

of_pair : (s : Speed) (o : Option Chosen) (p : Pair) → option_map (with_speed s) o ≡ Some p → AtPair s o p
of_pair s None p e = cc
of_pair s (Some c) p e = let is = ap (pair_in p) e in record { trial = ap (λ p. Some p.trial) is; speed = sym (ap (λ p. p.speed) is) }

module _ (sides : BySide Bool) (clears : Speed → Side → Float → Option Clearance) (speeds : List Speed) (slower : InOrder Faster speeds)
    (one : (s t : Speed) → Memᴰ s speeds → Memᴰ t speeds → T (eq s.0 t.0) → s ≡ t) (ms : List Float) (up : Ascending ms) where
  -- where no speed has a pair, no trial of the magnitude clears
  none_at : (m : Float) → fastest sides clears speeds m ≡ None → (side : Side) (s : Speed) → T (allows sides side) → Memᴰ s speeds → clears s side m ≡ None
  unfolding fastest at_pair
  none_at m e side s t h = both_none sides (clears s) m (no_map (with_speed s) (both sides (clears s) m) (none (at_pair sides clears m) speeds e s h)) side t

  pub is_pair : (p : Pair) → choice sides clears speeds ms ≡ Some p → IsPair sides clears speeds ms p
  unfolding choice fastest at_pair
  is_pair p e =
      let l = least (fastest sides clears speeds) Below ms (ascending_in_order ms up) p e in
      let k = least (at_pair sides clears l.it) Faster speeds slower p l.answer in
      let a = of_pair k.it (both sides (clears k.it) l.it) p k.answer in
      let b = of_both sides (clears k.it) l.it p.trial a.trial in
      let at = λ (m : Float) (h : Memᴰ m ms) (q : T (eq m p.trial.magnitude.0)). same_member ms up m l.it h l.listed (subst (λ x. T (eq m x)) b.magnitude q) in
      record {
        of_magnitude = ap (fastest sides clears speeds) b.magnitude ∙ l.answer;
        permitted = b.permitted;
        listed = subst (λ m. Memᴰ m ms) (sym b.magnitude) l.listed;
        speed = subst (λ s. Memᴰ s speeds) (sym a.speed) k.listed;
        clear = ap (λ s. clears s p.trial.side p.trial.magnitude.0) a.speed ∙ ap (clears k.it p.trial.side) b.magnitude ∙ b.clear;
        least = λ side m s t h j q. none_at m (l.least m h (subst (λ x. T (lt m x)) b.magnitude q)) side s t j;
        faster = λ side m s t h j q f.
            ap (clears s side) (at m h q)
            ∙ both_none sides (clears s) l.it (no_map (with_speed s) (both sides (clears s) l.it) (k.least s j (subst (λ r. T (lt r.0 s.0)) a.speed f))) side t;
        starboard = λ m s t h j q f n.
            let same = one s k.it j k.listed (subst (λ r. T (eq s.0 r.0)) a.speed f) in
            b.starboard t (λ no. n (ap (λ r. clears r Starboard m) same ∙ ap (clears k.it Starboard) (at m h q) ∙ no));
      }

  pub no_pair : choice sides clears speeds ms ≡ None → (side : Side) (m : Float) (s : Speed) → T (allows sides side) → Memᴰ m ms → Memᴰ s speeds
      → clears s side m ≡ None
  unfolding choice
  no_pair e side m s t h j = none_at m (none (fastest sides clears speeds) ms e m h) side s t j
