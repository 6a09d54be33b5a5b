-- A list of floats in which each is below all that follow.
use mathlib.Core.List.{List, [], ◌∷◌, Memᴰ}
use Rattle.std.specs.Prelude.{T, Float}
use Rattle.std.specs.Float.Ieee.{lt}

abbrev pub Ascending : List Float → Type 0
Ascending [] = Unit {0}
Ascending (x ∷ xs) = ((y : Float) → Memᴰ y xs → T (lt x y)) × Ascending xs
