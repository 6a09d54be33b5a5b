-- What the code of the hypotenuse owes where it has no answer.
use mathlib.Core.Path.{◌≡◌, sym, ap, ◌∙◌}
use mathlib.Core.Bool.{false, ◌&&◌}
use lib.Ieee.{Float, nan, le}
use Rattle.math.specs.Sign.{abs}
use Rattle.roots.specs.Hypot.{largest, in_domain, hypot}

-- ---- hypot, with a and b for the absolute values
module _ (x y a b r : Float) (e : a ≡ abs x) (f : b ≡ abs y) where
  domain : in_domain x && in_domain y ≡ le a largest && le b largest
  unfolding in_domain
  domain = ap (λ w. le w largest && le (abs y) largest) (sym e) ∙ ap (λ w. le a largest && le w largest) (sym f)

  pub outside : le a largest && le b largest ≡ false → r ≡ nan → r ≡ hypot x y
  unfolding hypot
  outside p g = rw (domain ∙ p) g
