-- The operations on f64s as signs: each is one of IEEE 754, rounded once to the nearest, ties to
-- even.
use Rattle.std.specs.Prelude.{Float}
use Rattle.std.specs.Float.{binary64}
use Rattle.std.specs.Float.Ieee.{add, sub, mul, div}

infixl 6 ◌⊕◌
infixl 6 ◌⊖◌
infixl 7 ◌⊗◌
infixl 7 ◌⊘◌
abbrev pub ◌⊕◌ : Float → Float → Float
◌⊕◌ x y = add binary64 x y

abbrev pub ◌⊖◌ : Float → Float → Float
◌⊖◌ x y = sub binary64 x y

abbrev pub ◌⊗◌ : Float → Float → Float
◌⊗◌ x y = mul binary64 x y

abbrev pub ◌⊘◌ : Float → Float → Float
◌⊘◌ x y = div binary64 x y
