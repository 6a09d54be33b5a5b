-- What a caller hands over are f64s.
use mathlib.Core.Path.{◌≡◌, sym, subst}
use mathlib.Core.Bool.{Bool, true}
use lib.Dec.{T}

pub is_held : {b : Bool} → b ≡ true → T b
is_held e = subst T (sym e) tt
