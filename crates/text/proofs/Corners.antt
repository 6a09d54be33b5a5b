-- Worked figures as rows, computed from the definition.
use mathlib.Core.Path.{◌≡◌, refl}
use mathlib.Core.Bool.{true}
use mathlib.Core.List.{List, [], ◌∷◌}
use Prim.Native.Nat.{ℕ}
use lib.Ieee.{binary64, of_bits, lt}
use Rattle.laws.specs.Rows.{Row, row, every}
use Rattle.text.specs.Thousandths.{thousandths_of}

abbrev pub printed : ℕ → ℕ
printed bits = thousandths_of (of_bits binary64 bits)

unfoldable pub corners : List Row
corners =
    -- 0 and -0
    row (printed 0) 0
    ∷ row (printed 0x8000_0000_0000_0000) 0
    -- ties: 1.0625 down and 1.1875 up, both to even
    ∷ row (printed 0x3ff1_0000_0000_0000) 1062
    ∷ row (printed 0x3ff3_0000_0000_0000) 1188
    -- 1/2048 is below half a thousandth, and the next power of two is above
    ∷ row (printed 0x3f40_0000_0000_0000) 0
    ∷ row (printed 0x3f50_0000_0000_0000) 1
    -- 1024 - 1/2048 becomes the next whole number
    ∷ row (printed 0x408f_ffff_0000_0000) 1024000
    -- 2 ^ 53 - 1, and 2 ^ 53 and twice that, which count as one
    ∷ row (printed 0x433f_ffff_ffff_ffff) 9007199254740991000
    ∷ row (printed 0x4340_0000_0000_0000) 9007199254740992000
    ∷ row (printed 0x4350_0000_0000_0000) 9007199254740992000
    ∷ []

pub corners_hold : every corners ≡ true
unfolding corners thousandths_of of_bits lt
corners_hold = refl
