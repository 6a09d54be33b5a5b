-- The arcsine below a quarter pi: the two angles around the greatest step, 4 A - 1 and 4 A + 5 over 2 ^ 51, have sines that enclose the argument.
use mathlib.Core.Path.{◌≡◌, ap}
use mathlib.Core.Logic.{◌⊎◌, inl, inr}
use Prim.Native.Nat.{ℕ, zero, suc, ◌+◌, ◌*◌, ◌-◌, ◌^◌, ◌/◌, ◌≤◌, ◌<◌}
use native.Mathlib.Nat.{div-mul-le_self, lt-div-mul-add, le_of_lt, eq-or-lt_of_le, zero-mul}
use native.Mathlib.Omega.{arith}
use lib.Arith.{lt→nleb}
use lib.Dec.{T, leb→le, nleb→lt, le→leb, lit<}
use Rattle.trigonometry.specs.Taylor.{sine_num, sine_den}
use Rattle.grid.specs.Search.{Found}
use Rattle.grid.specs.Grid.{last_step, sine_step}
use Rattle.grid.specs.Arcsine.{at_most, arcsine_steps}
use Rattle.grid.proofs.Searching.{found, found_is}
use Rattle.grid.proofs.Steps.{sine_at_zero, sine_step_near, sine_step_climbs, steep_at, lower, upper}

pub at_most_falls : (X A : ℕ) → A < last_step → T (at_most X (A + 1)) → T (at_most X A)
unfolding at_most
at_most_falls X A h t = le→leb (sine_step A) X (go (sine_step A) (sine_step (A + 1)) (sine_step_climbs A (omega arith)) (leb→le (sine_step (A + 1)) X t))
  where
    go : (P Q : ℕ) → P + 247 ≤ Q → Q ≤ X → P ≤ X
    go P Q a b = omega arith

pub at_most-zero : (X : ℕ) → T (at_most X 0)
unfolding at_most
at_most-zero X = rw sine_at_zero (le→leb 0 X (omega arith))

pub arcsine_found : (X : ℕ) → Found last_step (at_most X) (arcsine_steps X)
unfolding arcsine_steps
arcsine_found X = found 49 last_step (at_most X) (at_most-zero X) (lit< tt)

-- whatever step passes the check is the arcsine_steps
pub arcsine_is : (X A : ℕ) → A < last_step → sine_step A ≤ X → X < sine_step (A + 1) → A ≡ arcsine_steps X
unfolding arcsine_steps at_most
arcsine_is X A h p q =
    found_is 49 last_step (at_most X) (at_most_falls X) (at_most-zero X) (lit< tt) A
    (record { within = le_of_lt h; passes = le→leb (sine_step A) X p; next = λ k. lt→nleb (sine_step (A + 1)) X q })

-- the two angles lo / 2 ^ 51 and hi / 2 ^ 51 whose exact sines enclose a / b
pub record Encloses (lo hi a b : ℕ) : Type 0 where
  pub low : sine_num lo (2 ^ 51) * b ≤ a * sine_den (2 ^ 51)
  pub high : a * sine_den (2 ^ 51) ≤ sine_num hi (2 ^ 51) * b

sine_num-zero : (d : ℕ) → sine_num 0 d ≡ 0
unfolding sine_num
sine_num-zero d = zero-mul _

pub lower_at : (A X a b : ℕ) → A ≤ last_step → sine_step A ≤ X → X * b ≤ a * 2 ^ 58 → sine_num (4 * A - 1) (2 ^ 51) * b ≤ a * sine_den (2 ^ 51)
lower_at zero X a b h p q = rw sine_num-zero (omega arith)
lower_at (suc B) X a b h p q = lower (2 ^ 58) 128 (4 * suc B - 1) (4 * suc B) _ _ _ _ X a b 4 5 (lit< tt) (steep_at (4 * suc B - 1) (4 * suc B) (omega arith) (omega arith)) (sine_step_near (suc B) (omega arith)) (omega arith) p q

upper_at : (A X a b : ℕ) → A < last_step → X < sine_step (A + 1) → a * 2 ^ 58 ≤ X * b + b → a * sine_den (2 ^ 51) ≤ sine_num (4 * A + 5) (2 ^ 51) * b
upper_at A X a b h p q = upper (2 ^ 58) 128 (4 * (A + 1)) (4 * A + 5) _ _ _ _ X a b 4 5 (lit< tt) (steep_at (4 * (A + 1)) (4 * A + 5) (omega arith) (omega arith)) (sine_step_near (A + 1) (omega arith)) (omega arith) p q

less : (A X : ℕ) → X < sine_step last_step → sine_step A ≤ X → (A ≡ last_step) ⊎ (A < last_step) → A < last_step
less A X l p (inl e) = let f = ap sine_step e in omega arith
less A X l p (inr h) = h

-- for a / b below the sine of the grid's last step
pub record Enclosed (A a b : ℕ) : Type 0 where
  pub below_top : A < last_step
  pub around : Encloses (4 * A - 1) (4 * A + 5) a b

pub arcsine_encloses : (a b : ℕ) → 0 < b → a * 2 ^ 58 / b < sine_step last_step → Enclosed (arcsine_steps (a * 2 ^ 58 / b)) a b
unfolding at_most
arcsine_encloses a b hb h = go (a * 2 ^ 58 / b) (arcsine_steps (a * 2 ^ 58 / b)) h (div-mul-le_self (a * 2 ^ 58) b) (le_of_lt (lt-div-mul-add {a = a * 2 ^ 58} {b = b} hb)) (arcsine_found (a * 2 ^ 58 / b))
  where
    go : (X A : ℕ) → X < sine_step last_step → X * b ≤ a * 2 ^ 58 → a * 2 ^ 58 ≤ X * b + b → Found last_step (at_most X) A → Enclosed A a b
    go X A l p q r =
        let s = leb→le (sine_step A) X r.passes in
        let t = less A X l s (eq-or-lt_of_le r.within) in
        record { below_top = t; around = record { low = lower_at A X a b (le_of_lt t) s p; high = upper_at A X a b t (nleb→lt (sine_step (A + 1)) X (r.next t)) q } }

-- the enclosing angles stay below half of half pi, 157079632679489661923 / (2 * 10 ^ 20)
pub below_eighth : (A : ℕ) → A < last_step → (4 * A + 5) * (2 * 10 ^ 20) < 157079632679489661923 * 2 ^ 51
below_eighth A h = omega arith
