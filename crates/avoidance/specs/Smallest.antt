-- What is said of a choice among the trials of both sides.
use Rattle.std.specs.Prelude.{◌≡◌, Bool, T, Float, None, Some}
use mathlib.Core.List.{List, Memᴰ}
use Rattle.std.specs.Float.Ieee.{eq, lt}
use Rattle.motion.specs.declared.side.Side.{Side}
use Rattle.motion.specs.declared.side.Side.TheVariants.{Starboard, Port}
use Rattle.clearance.specs.declared.Clearance.{Clearance}
use Rattle.std.specs.declared.option.Option.{Option}
use Rattle.motion.specs.declared.side.BySide.{BySide}
use Rattle.avoidance.specs.declared.search.Chosen.{Chosen}

abbrev pub allows : BySide Bool → Side → Bool
allows s Starboard = s.starboard
allows s Port = s.port

-- the smallest trial on a permitted side that clears, starboard of equal ones
pub record IsChoice (sides : BySide Bool) (clears : Side → Float → Option Clearance) (magnitudes : List Float) (c : Chosen) : Type 0 where
  pub permitted : T (allows sides c.side)
  pub listed : Memᴰ c.magnitude.0 magnitudes
  pub clear : clears c.side c.magnitude.0 ≡ Some c.clearance
  pub least : (side : Side) (m : Float) → T (allows sides side) → Memᴰ m magnitudes → T (lt m c.magnitude.0) → clears side m ≡ None
  pub starboard : (m : Float) → T sides.starboard → Memᴰ m magnitudes → T (eq m c.magnitude.0) → (clears Starboard m ≡ None → ⊥) → c.side ≡ Starboard
