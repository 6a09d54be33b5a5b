-- The sign of a float, `abs` and `copysign`. A NaN has no sign here: it counts as clear.
use Rattle.std.specs.Prelude.{Bool, false, cond, Float}
use Rattle.std.specs.Float.{nan, inf, fin}
use Rattle.std.specs.Float.Ieee.{neg}
use Rattle.laws.specs.Units.{sign as sign_of}

abbrev pub sign : Float → Bool
sign = sign_of

unfoldable pub abs : Float → Float
abs nan = nan
abs (inf s) = inf false
abs (fin s m e) = fin false m e

unfoldable pub copysign : Float → Float → Float
unfolding abs
copysign magnitude x = cond (sign x) (neg (abs magnitude)) (abs magnitude)
