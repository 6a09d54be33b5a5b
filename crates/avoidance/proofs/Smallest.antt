-- Trying both sides by magnitude, starboard first, gives document 01's choice on an ascending list: the first that clears on each permitted side, the smaller of the two, starboard on equality.
use Rattle.std.specs.Prelude.{None, Some}
use Rattle.std.specs.Option.{option_or}
use mathlib.Core.Path.{◌≡◌, refl, sym, ap, ◌∙◌}
use mathlib.Core.Bool.{Bool, true, false, cond}
use mathlib.Core.List.{List, [], ◌∷◌}
use lib.Dec.{T}
use lib.Ieee.{Float, lt}
use lib.Ieee.Bits.{is_true}
use Rattle.laws.specs.Ascending.{Ascending}
use Rattle.laws.specs.First as Listed
use Rattle.laws.proofs.First.{all_none, agree}
use Rattle.laws.proofs.Bools.{refuted}
use Rattle.laws.proofs.Order.{lt_not_self, lt_trans, lt_self}
use Rattle.motion.specs.declared.side.Side.{Side}
use Rattle.motion.specs.declared.side.Side.TheVariants.{Starboard, Port}
use Rattle.std.specs.declared.option.Option.{Option}
use Rattle.clearance.specs.declared.Clearance.{Clearance}
use Rattle.motion.specs.declared.side.BySide.{BySide}
use Rattle.avoidance.specs.declared.search.Chosen.{Chosen}
use Rattle.avoidance.specs.Search.{chosen, chosen_at, first, smaller, side_choice, choice, tried, both, between}
use Rattle.avoidance.proofs.First.{listed}

-- a side that is not permitted clears nothing
abbrev pub on : Bool → (Float → Option Clearance) → Float → Option Clearance
on permitted clears m = cond permitted (clears m) None

pub side_is : (permitted : Bool) (clears : Float → Option Clearance) (side : Side) (ms : List Float) → side_choice permitted clears side ms ≡ first (on permitted clears) side ms
unfolding side_choice first
side_is true clears side ms = refl
side_is false clears side ms = sym (all_none (chosen_at (on false clears) side) ms (λ m h. refl))

tried_is : (permitted : Bool) (side : Side) (m : Float) (c : Option Clearance) → tried permitted side m c ≡ chosen side m (cond permitted c None)
tried_is true side m c = refl
tried_is false side m c = refl

-- ---- the smaller of two
module _ (s p : Chosen) where
  starboard_wins : lt p.magnitude.0 s.magnitude.0 ≡ false → smaller (Some s) (Some p) ≡ Some s
  starboard_wins h = ap (λ b. cond b (Some p) (Some s)) h

  port_wins : lt p.magnitude.0 s.magnitude.0 ≡ true → smaller (Some s) (Some p) ≡ Some p
  port_wins h = ap (λ b. cond b (Some p) (Some s)) h

not_less : (x y : Float) → T (lt x y) → lt y x ≡ false
not_less x y h = refuted (lt y x) (λ k. lt_not_self x (lt_trans x y x h k))

-- ---- with functions f and g for the sides
module _ (f g : Float → Option Clearance) where
  abbrev at : Float → Option Chosen
  at m = option_or (chosen Starboard m (f m)) (chosen Port m (g m))

  abbrev taken : Side → Float → Clearance → Chosen
  taken side m p = record { side = side; magnitude = record { 0 = m }; clearance = p }

  -- starboard's first is at m: port's choice is not smaller
  over_starboard : (m : Float) (ms : List Float) (p : Clearance) → Ascending (m ∷ ms) → (k : Option Chosen) → first g Port ms ≡ k
      → smaller (Some (taken Starboard m p)) k ≡ Some (taken Starboard m p)
  over_starboard m ms p up None e = refl
  over_starboard m ms p up (Some c) e = starboard_wins (taken Starboard m p) c (not_less m c.magnitude.0 (up.0 c.magnitude.0 (listed g Port ms up.1 c e)))

  -- port's first is at m and starboard's is not
  over_port : (m : Float) (ms : List Float) (p : Clearance) → Ascending (m ∷ ms) → (k : Option Chosen) → first f Starboard ms ≡ k
      → smaller k (Some (taken Port m p)) ≡ Some (taken Port m p)
  over_port m ms p up None e = refl
  over_port m ms p up (Some c) e = port_wins c (taken Port m p) (is_true (lt m c.magnitude.0) (up.0 c.magnitude.0 (listed f Starboard ms up.1 c e)))

  pub together_is : (ms : List Float) → Ascending ms → Listed.first at ms ≡ smaller (first f Starboard ms) (first g Port ms)
  unfolding first Listed.first
  together_is [] up = refl
  together_is (m ∷ ms) up = go (together_is ms up.1) (f m) (g m)
    where
      go : Listed.first at ms ≡ smaller (first f Starboard ms) (first g Port ms) → (a b : Option Clearance) → option_or (option_or (chosen Starboard m a) (chosen Port m b)) (Listed.first at ms)
          ≡ smaller (option_or (chosen Starboard m a) (first f Starboard ms)) (option_or (chosen Port m b) (first g Port ms))
      go rest (Some p) (Some q) = sym (starboard_wins (taken Starboard m p) (taken Port m q) (lt_self m))
      go rest (Some p) None = sym (over_starboard m ms p up (first g Port ms) refl)
      go rest None (Some q) = sym (over_port m ms q up (first f Starboard ms) refl)
      go rest None None = rest

-- ---- the code's choice is document 01's
module _ (sides : BySide Bool) (clears : Side → Float → Option Clearance) where
  abbrev f : Float → Option Clearance
  f = on sides.starboard (clears Starboard)

  abbrev g : Float → Option Clearance
  g = on sides.port (clears Port)

  at_each : (m : Float) → both sides clears m ≡ at f g m
  unfolding both
  at_each m =
      ap (λ s. option_or s (tried sides.port Port m (clears Port m))) (tried_is sides.starboard Starboard m (clears Starboard m))
      ∙ ap (option_or (chosen Starboard m (f m))) (tried_is sides.port Port m (clears Port m))

  pub between_is_choice : (ms : List Float) → Ascending ms → between sides clears ms ≡ choice sides clears ms
  unfolding between choice
  between_is_choice ms up = agree (both sides clears) (at f g) ms (λ m h. at_each m) ∙ together_is f g ms up
      ∙ ap (λ s. smaller s (first g Port ms)) (sym (side_is sides.starboard (clears Starboard) Starboard ms))
      ∙ ap (smaller (side_choice sides.starboard (clears Starboard) Starboard ms)) (sym (side_is sides.port (clears Port) Port ms))
