-- The angle of a point in the upper half plane: the octant's answer placed, and the two angles around it between which the sign changes.
use mathlib.Core.Path.{◌≡◌}
use mathlib.Core.Bool.{Bool, true, false}
use mathlib.Core.Logic.{◌⊎◌, inl, inr}
use Prim.Native.Nat.{ℕ, ◌+◌, ◌*◌, ◌-◌, ◌^◌, ◌/◌, ◌≤◌, ◌<◌}
use native.Mathlib.Nat.{eq-or-lt_of_le}
use native.Mathlib.Omega.{arith}
use Rattle.trigonometry.specs.Taylor.{sine_num, sine_den, cosine_num, cosine_den}
use Rattle.trigonometry.specs.Angle.{half_pi, whole}
use Rattle.grid.specs.Grid.{last_step}
use Rattle.grid.specs.Arctangent.{arctangent_steps, placed}
use Rattle.grid.proofs.Octant.{Changes, arctangent_changes}

-- n / 2 ^ 51, half pi less that, half pi and that, pi less that
pub data Turn : Type 0 where
  up down over back : ℕ → Turn

-- in units of 1 / (whole * 2 ^ 51)
abbrev pub size : Turn → ℕ
size (up n) = whole * n
size (down n) = half_pi * 2 ^ 51 - whole * n
size (over n) = half_pi * 2 ^ 51 + whole * n
size (back n) = 2 * (half_pi * 2 ^ 51) - whole * n

-- y * cos - x * sin is at least 0, or at most 0, for a point with x not below 0 in the first two, and at - x in the others
abbrev pub NotUnder : Turn → ℕ → ℕ → Type 0
NotUnder (up n) x y = x * sine_num n (2 ^ 51) * cosine_den (2 ^ 51) ≤ y * cosine_num n (2 ^ 51) * sine_den (2 ^ 51)
NotUnder (down n) x y = x * cosine_num n (2 ^ 51) * sine_den (2 ^ 51) ≤ y * sine_num n (2 ^ 51) * cosine_den (2 ^ 51)
NotUnder (over n) x y = y * sine_num n (2 ^ 51) * cosine_den (2 ^ 51) ≤ x * cosine_num n (2 ^ 51) * sine_den (2 ^ 51)
NotUnder (back n) x y = y * cosine_num n (2 ^ 51) * sine_den (2 ^ 51) ≤ x * sine_num n (2 ^ 51) * cosine_den (2 ^ 51)

abbrev pub NotOver : Turn → ℕ → ℕ → Type 0
NotOver (up n) x y = y * cosine_num n (2 ^ 51) * sine_den (2 ^ 51) ≤ x * sine_num n (2 ^ 51) * cosine_den (2 ^ 51)
NotOver (down n) x y = y * sine_num n (2 ^ 51) * cosine_den (2 ^ 51) ≤ x * cosine_num n (2 ^ 51) * sine_den (2 ^ 51)
NotOver (over n) x y = x * cosine_num n (2 ^ 51) * sine_den (2 ^ 51) ≤ y * sine_num n (2 ^ 51) * cosine_den (2 ^ 51)
NotOver (back n) x y = x * sine_num n (2 ^ 51) * cosine_den (2 ^ 51) ≤ y * cosine_num n (2 ^ 51) * sine_den (2 ^ 51)

abbrev pub Side : Bool → Turn → Type 0
Side false (up n) = Unit {0}
Side false (down n) = Unit {0}
Side false (over n) = ⊥
Side false (back n) = ⊥
Side true (up n) = ⊥
Side true (down n) = ⊥
Side true (over n) = Unit {0}
Side true (back n) = Unit {0}

-- below a quarter of pi: so the turn is what is left when the nearest multiple of half pi is taken off
abbrev pub Proper : Turn → Type 0
Proper (up n) = 2 * n * whole < half_pi * 2 ^ 51
Proper (down n) = 2 * n * whole < half_pi * 2 ^ 51
Proper (over n) = 2 * n * whole < half_pi * 2 ^ 51
Proper (back n) = 2 * n * whole < half_pi * 2 ^ 51

pub record Around (left : Bool) (x y t : ℕ) : Type 0 where
  pub lo : Turn
  pub hi : Turn
  pub lo_proper : Proper lo
  pub hi_proper : Proper hi
  pub lo_side : Side left lo
  pub hi_side : Side left hi
  pub not_under : NotUnder lo x y
  pub not_over : NotOver hi x y
  pub before : size lo ≤ 4 * t * whole
  pub after : 4 * t * whole ≤ size hi
  pub close : size hi ≤ size lo + 32 * whole

-- where U * q is the larger and p the smaller of the two
abbrev pub across : Bool → ℕ → ℕ → ℕ
across false U p = U
across true U p = p

abbrev pub along : Bool → ℕ → ℕ → ℕ
along false U p = p
along true U p = U

inside : (steep left : Bool) (U p q A : ℕ) → Changes U p q A → A < last_step → Around left (across steep (U * q) p) (along steep (U * q) p) (placed steep left A)
unfolding placed
inside false false U p q A r h = record { lo = up (4 * A - 1); hi = up (4 * A + 5); lo_proper = omega arith; hi_proper = omega arith; lo_side = tt; hi_side = tt; not_under = r.low; not_over = r.high h; before = omega arith; after = omega arith; close = omega arith }
inside true false U p q A r h = record { lo = down (4 * A + 5); hi = down (4 * A - 1); lo_proper = omega arith; hi_proper = omega arith; lo_side = tt; hi_side = tt; not_under = r.high h; not_over = r.low; before = omega arith; after = omega arith; close = omega arith }
inside false true U p q A r h = record { lo = back (4 * A + 5); hi = back (4 * A - 1); lo_proper = omega arith; hi_proper = omega arith; lo_side = tt; hi_side = tt; not_under = r.high h; not_over = r.low; before = omega arith; after = omega arith; close = omega arith }
inside true true U p q A r h = record { lo = over (4 * A - 1); hi = over (4 * A + 5); lo_proper = omega arith; hi_proper = omega arith; lo_side = tt; hi_side = tt; not_under = r.low; not_over = r.high h; before = omega arith; after = omega arith; close = omega arith }

at_top : (steep left : Bool) (U p q A : ℕ) → Changes U p q A → A ≡ last_step → Around left (across steep (U * q) p) (along steep (U * q) p) (placed steep left A)
unfolding placed
at_top false false U p q A r h = record { lo = up (4 * A - 1); hi = down (4 * A); lo_proper = omega arith; hi_proper = omega arith; lo_side = tt; hi_side = tt; not_under = r.low; not_over = r.top h; before = omega arith; after = omega arith; close = omega arith }
at_top true false U p q A r h = record { lo = up (4 * A); hi = down (4 * A - 1); lo_proper = omega arith; hi_proper = omega arith; lo_side = tt; hi_side = tt; not_under = r.top h; not_over = r.low; before = omega arith; after = omega arith; close = omega arith }
at_top false true U p q A r h = record { lo = over (4 * A); hi = back (4 * A - 1); lo_proper = omega arith; hi_proper = omega arith; lo_side = tt; hi_side = tt; not_under = r.top h; not_over = r.low; before = omega arith; after = omega arith; close = omega arith }
at_top true true U p q A r h = record { lo = over (4 * A - 1); hi = back (4 * A); lo_proper = omega arith; hi_proper = omega arith; lo_side = tt; hi_side = tt; not_under = r.low; not_over = r.top h; before = omega arith; after = omega arith; close = omega arith }

-- for U from 2 ^ 57 and W the whole part of p / q, p / q at most U
pub arctangent_around : (steep left : Bool) (U p q : ℕ) → 0 < q → 2 ^ 57 ≤ U → p ≤ U * q → Around left (across steep (U * q) p) (along steep (U * q) p) (placed steep left (arctangent_steps U (p / q)))
arctangent_around steep left U p q hq hU hp = go (arctangent_steps U (p / q)) (arctangent_changes U p q hq hU hp)
  where
    go : (A : ℕ) → Changes U p q A → Around left (across steep (U * q) p) (along steep (U * q) p) (placed steep left A)
    go A r = either (eq-or-lt_of_le r.within)
      where
        either : (A ≡ last_step) ⊎ (A < last_step) → Around left (across steep (U * q) p) (along steep (U * q) p) (placed steep left A)
        either (inl h) = at_top steep left U p q A r h
        either (inr h) = inside steep left U p q A r h
