-- The worked pairs of request R-4: how many trials there are by the step, and how many the list has.
use mathlib.Core.Path.{◌≡◌, refl}
use mathlib.Core.Bool.{true}
use mathlib.Core.List.{List, [], ◌∷◌, ◌++◌}
use Prim.Native.Nat.{ℕ}
use lib.Ieee.{Float, binary64, of_bits, sub, div, le, to_unsigned}
use lib.ListN.{length}
use Rattle.laws.specs.Rows.{Row, every, row}
use Rattle.math.specs.Cast.{to_usize}
use Rattle.manoeuvre.specs.Trials.{last, trials_from, trials}
use Rattle.manoeuvre.specs.Step as Step

-- both counts between two alterations, by their bits
abbrev counted : Float → Float → ℕ → List Row
counted least most n = row (Step.count least most) n ∷ row (length (trials least most)) n ∷ []

abbrev between : ℕ → ℕ → ℕ → List Row
between least most n = counted (of_bits binary64 least) (of_bits binary64 most) n

unfoldable pub pairs : List Row
pairs =
    -- 17.38770443707414 to 97.38770443707413: the difference is rounded up to 80
    between 0x4031_6340_9915_bf5e 0x4058_58d0_2645_6fd7 81
    -- 127.00000000000001 to 128: the difference is just under 1
    ++ between 0x405f_c000_0000_0001 0x4060_0000_0000_0000 1
    -- 2 ^ -54 to 1: the difference is rounded up to 1; from 2 ^ -53 it is the float next below
    ++ between 0x3c90_0000_0000_0000 0x3ff0_0000_0000_0000 2
    ++ between 0x3ca0_0000_0000_0000 0x3ff0_0000_0000_0000 1

pub pairs_hold : every pairs ≡ true
unfolding pairs Step.count Step.steps trials trials_from last to_usize sub div le to_unsigned of_bits
pairs_hold = refl
