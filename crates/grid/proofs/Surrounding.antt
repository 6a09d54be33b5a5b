-- The arcsine from 0 to 1 and the two angles around it.
use mathlib.Core.Path.{◌≡◌, refl, sym, ap, subst, subst₂}
use mathlib.Core.Bool.{Bool, true, false, not, cond}
use mathlib.Core.List.{List, [], ◌∷◌}
use mathlib.Core.Logic.{◌⊎◌, inl, inr}
use Prim.Native.Nat.{ℕ, ◌+◌, ◌*◌, ◌-◌, ◌^◌, ◌/◌, ◌≤◌, ◌<◌}
use native.Mathlib.Nat.{mul-lt-mul_of_pos_left, le_antisymm, le_of_eq, div-le_self, mul-le-mul, mul-le-mul_left, mul-le-mul_right, le_trans, le_refl, div-mul-le_self, lt-div-mul-add, le_of_lt, le_of_mul-le-mul_left, div-le_of_le-mul, mul-pos, eq-or-lt_of_le}
use native.Mathlib.Omega.{arith}
use lib.Dec.{T, leb, ltb, leb→le, nleb→lt, ltb→lt, nltb→le, lit<, lit≤}
use Rattle.trigonometry.specs.Taylor.{num, den, sine_divisors, sine_num, sine_den, cosine_num, cosine_den}
use Rattle.trigonometry.proofs.Horner.{num-le-den}
use Rattle.trigonometry.proofs.Rise.{cosine_falls, cosine_at_zero}
use Rattle.grid.specs.Grid.{last_step, sine_step}
use Rattle.trigonometry.specs.Angle.{half_pi, whole}
use Rattle.grid.specs.Arcsine.{arcsine_steps, upper_steps, scale, half_pi_steps, arcsine_units}
use Rattle.grid.proofs.Lower.{Enclosed, arcsine_encloses, lower_at}
use Rattle.grid.proofs.Upper.{Encloses, upper_encloses, upper_below_top, Scaled, scaled}

-- ---- places of angles: n / d, or half pi less n / d
pub data Place : Type 0 where
  up : ℕ → ℕ → Place
  down : ℕ → ℕ → Place

-- the exact sine is at most, or at least, a / b
abbrev pub SineAtMost : Place → ℕ → ℕ → Type 0
SineAtMost (up n d) a b = sine_num n d * b ≤ a * sine_den d
SineAtMost (down n d) a b = cosine_num n d * b ≤ a * cosine_den d

abbrev pub SineAtLeast : Place → ℕ → ℕ → Type 0
SineAtLeast (up n d) a b = a * sine_den d ≤ sine_num n d * b
SineAtLeast (down n d) a b = a * cosine_den d ≤ cosine_num n d * b

-- the angle is at most, or at least, t / s
abbrev pub Before : Place → ℕ → ℕ → Type 0
Before (up n d) t s = n * s ≤ t * d
Before (down n d) t s = half_pi * d * s ≤ t * whole * d + n * whole * s

abbrev pub After : Place → ℕ → ℕ → Type 0
After (up n d) t s = t * d ≤ n * s
After (down n d) t s = t * whole * d + n * whole * s ≤ half_pi * d * s

-- the first is at most 1 / w below the second
abbrev pub Close : ℕ → Place → Place → Type 0
Close w (up n d) (up m e) = w * (m * d) ≤ w * (n * e) + d * e
Close w (down n d) (down m e) = w * (n * e) ≤ w * (m * d) + d * e
Close w (up n d) (down m e) = w * (half_pi * (d * e)) ≤ w * (whole * (m * d + n * e)) + whole * (d * e)
Close w (down n d) (up m e) = w * (whole * (m * d + n * e)) ≤ w * (half_pi * (d * e)) + whole * (d * e)

-- a true fraction, below a quarter of pi: so the angle is what is left of itself when the nearest multiple of half pi is taken off
abbrev pub Proper : Place → Type 0
Proper (up n d) = (0 < d) × (2 * n * whole < half_pi * d)
Proper (down n d) = (0 < d) × (2 * n * whole < half_pi * d)

-- the answer t / s lies between two angles, at most 2 ^ -46 apart, whose exact sines enclose a / b
pub record Surrounded (t s a b : ℕ) : Type 0 where
  pub lo : Place
  pub hi : Place
  pub lo_proper : Proper lo
  pub hi_proper : Proper hi
  pub at_most : SineAtMost lo a b
  pub at_least : SineAtLeast hi a b
  pub before : Before lo t s
  pub after : After hi t s
  pub close : Close (2 ^ 46) lo hi

-- ---- below
proper : (A n : ℕ) → A < last_step → n ≤ 4 * A + 5 → 2 * n * whole < half_pi * 2 ^ 51
proper A n h k = omega arith

from_lower : (A a b : ℕ) → Enclosed A a b → Surrounded (8 * A) (2 ^ 52) a b
from_lower A a b r =
    record { lo = up (4 * A - 1) (2 ^ 51); hi = up (4 * A + 5) (2 ^ 51); lo_proper = (lit< tt, proper A (4 * A - 1) r.below_top (omega arith)); hi_proper = (lit< tt, proper A (4 * A + 5) r.below_top (le_refl (4 * A + 5))); at_most = r.around.low; at_least = r.around.high; before = omega arith; after = omega arith; close = omega arith }

-- ---- above, at b steps over f: half pi less 4 b / d, for d = e * f and e = 2 ^ 51
-- p is 8 * half_pi_steps
before_upper : (h g p e f b t q : ℕ) → t + q ≡ p → q * f ≤ 8 * b → h * (2 * e) ≤ (p + 10) * g → h * (e * f) * (2 * e) ≤ t * g * (e * f) + (4 * b + 5 * f) * g * (2 * e)
before_upper h g p e f b t q i k l = go (ap (λ u. u * (g * (e * f))) i) (mul-le-mul_left (g * e) k) (mul-le-mul_left (e * f) l)
  where
    go : (t + q) * (g * (e * f)) ≡ p * (g * (e * f)) → g * e * (q * f) ≤ g * e * (8 * b) → e * f * (h * (2 * e)) ≤ e * f * ((p + 10) * g) → h * (e * f) * (2 * e) ≤ t * g * (e * f) + (4 * b + 5 * f) * g * (2 * e)
    go i j l = omega arith

after_upper : (h g p e f b n t q : ℕ) → t + q ≡ p → 8 * b ≤ q * f + f → n + f ≡ 4 * b → p * g ≤ h * (2 * e) → t * g * (e * f) + n * g * (2 * e) ≤ h * (e * f) * (2 * e)
after_upper h g p e f b n t q i k m l = go (ap (λ u. u * (g * (e * f))) i) (mul-le-mul_left (g * e) k) (ap (λ u. u * (g * (2 * e))) m) (mul-le-mul_left (e * f) l)
  where
    go : (t + q) * (g * (e * f)) ≡ p * (g * (e * f)) → g * e * (8 * b) ≤ g * e * (q * f + f) → (n + f) * (g * (2 * e)) ≡ 4 * b * (g * (2 * e)) → e * f * (p * g) ≤ e * f * (h * (2 * e)) → t * g * (e * f) + n * g * (2 * e) ≤ h * (e * f) * (2 * e)
    go i j m l = omega arith

close_upper : (w e f b n : ℕ) → n + f ≡ 4 * b → 6 * w ≤ e → w * ((4 * b + 5 * f) * (e * f)) ≤ w * (n * (e * f)) + e * f * (e * f)
close_upper w e f b n m l = go (ap (λ u. w * (u * (e * f))) m) (mul-le-mul_left (f * (e * f)) l)
  where
    go : w * ((n + f) * (e * f)) ≡ w * (4 * b * (e * f)) → f * (e * f) * (6 * w) ≤ f * (e * f) * e → w * ((4 * b + 5 * f) * (e * f)) ≤ w * (n * (e * f)) + e * f * (e * f)
    go i j = omega arith

-- n is below 4 * b + 5 times f
proper_upper : (f b n : ℕ) → 0 < f → b < last_step → n ≤ (4 * b + 5) * f → 2 * n * whole < half_pi * (2 ^ 51 * f)
proper_upper f b n hf hb h = less half_pi whole (2 ^ 51) f (4 * b + 5) n hf h (omega arith)
  where
    less : (h g e f m n : ℕ) → 0 < f → n ≤ m * f → 2 * m * g < h * e → 2 * n * g < h * (e * f)
    less h g e f m n hf i j = omega (arith, mul-le-mul_right (2 * g) i, mul-le-mul_right f j)

down_proper : (f b n : ℕ) → 0 < f → b ≤ last_step → n + f ≡ 4 * b → 2 * n * whole < half_pi * (2 ^ 51 * f)
down_proper f b n hf hb e = less half_pi whole (2 ^ 51) f (4 * b) n hf (omega (arith, mul-le-mul_left (4 * b) hf)) (omega arith)
  where
    less : (h g e f m n : ℕ) → 0 < f → n ≤ m * f → 2 * m * g < h * e → 2 * n * g < h * (e * f)
    less h g e f m n hf i j = omega (arith, mul-le-mul_right (2 * g) i, mul-le-mul_right f j)

-- from X / S to a / b
over : (c C X S a b : ℕ) → 0 < S → X * b ≡ a * S → X * C ≤ c * S → a * C ≤ c * b
over c C X S a b hS e h = le_of_mul-le-mul_left {k = S} (go (ap (λ u. u * C) e) (mul-le-mul_right b h)) hS
  where
    go : X * b * C ≡ a * S * C → X * C * b ≤ c * S * b → S * (a * C) ≤ S * (c * b)
    go i j = omega arith

under : (c C X S a b : ℕ) → 0 < S → X * b ≡ a * S → c * S ≤ X * C → c * b ≤ a * C
under c C X S a b hS e h = le_of_mul-le-mul_left {k = S} (go (ap (λ u. u * C) e) (mul-le-mul_right b h)) hS
  where
    go : X * b * C ≡ a * S * C → c * S * b ≤ X * C * b → S * (c * b) ≤ S * (a * C)
    go i j = omega arith

pub f_small : (E f : ℕ) → 0 < E → E ≤ 2 ^ 58 → (f ≡ 1) ⊎ (E * (f * f) ≤ 2 ^ 56) → f ≤ 2 ^ 28
f_small E f hE hE' (inl e) = omega arith
f_small E f hE hE' (inr h) = root (leb f (2 ^ 28)) (leb→le f (2 ^ 28)) (nleb→lt f (2 ^ 28))
  where
    root : (u : Bool) → (T u → f ≤ 2 ^ 28) → (T (not u) → 2 ^ 28 < f) → f ≤ 2 ^ 28
    root true a c = a tt
    root false a c = let l = mul-le-mul (c tt) (c tt) in let m = mul-le-mul_right (f * f) hE in omega arith

module _ (X f b a c : ℕ) (x : X * c ≡ a * 2 ^ 58) (hf : 0 < f) (sf : f ≤ 2 ^ 28) (r : Encloses X f b) where
  t : ℕ
  t = 8 * half_pi_steps - 8 * b / f

  total : t + 8 * b / f ≡ 8 * half_pi_steps
  unfolding t
  total = go (8 * b / f) (div-le_self (8 * b) f)
    where
      go : (q : ℕ) → q ≤ 8 * b → 8 * half_pi_steps - q + q ≡ 8 * half_pi_steps
      go q h = omega (arith, r.within)

  hi_at_least : SineAtLeast (down (4 * b - f) (2 ^ 51 * f)) a c
  hi_at_least = over _ _ X (2 ^ 58) a c (lit< tt) x (r.high (4 * b - f) (omega (arith, r.least)))

  hi_is_proper : Proper (down (4 * b - f) (2 ^ 51 * f))
  hi_is_proper = (mul-pos {m = 2 ^ 51} (lit< tt) hf, down_proper f b (4 * b - f) hf r.within (omega (arith, r.least)))

  hi_after : After (down (4 * b - f) (2 ^ 51 * f)) t (2 ^ 52)
  hi_after = after_upper half_pi whole (8 * half_pi_steps) (2 ^ 51) f b (4 * b - f) t (8 * b / f) total (le_of_lt (lt-div-mul-add {a = 8 * b} {b = f} hf)) (omega (arith, r.least)) (lit≤ tt)

  from_upper : b < last_step → Surrounded (8 * half_pi_steps - 8 * b / f) (2 ^ 52) a c
  unfolding t
  from_upper h =
      record {
        lo = down (4 * b + 5 * f) (2 ^ 51 * f);
        hi = down (4 * b - f) (2 ^ 51 * f);
        lo_proper = (mul-pos {m = 2 ^ 51} (lit< tt) hf, proper_upper f b (4 * b + 5 * f) hf h (omega (arith, mul-le-mul_left (4 * b) hf)));
        hi_proper = hi_is_proper;
        at_most = under _ _ X (2 ^ 58) a c (lit< tt) x (r.low h (4 * b + 5 * f) (omega arith) (omega arith));
        at_least = hi_at_least;
        before = before_upper half_pi whole (8 * half_pi_steps) (2 ^ 51) f b t (8 * b / f) total (div-mul-le_self (8 * b) f) (lit≤ tt);
        after = hi_after;
        close = close_upper (2 ^ 46) (2 ^ 51) f b (4 * b - f) (omega (arith, r.least)) (lit≤ tt);
      }

-- the last step: the lower angle is the one below
from_top : (X a c : ℕ) → X * c ≡ a * 2 ^ 58 → sine_step last_step ≤ X → Encloses X 1 last_step → Surrounded (8 * half_pi_steps - 8 * last_step / 1) (2 ^ 52) a c
unfolding t
from_top X a c x hX r =
    record {
      lo = up (4 * last_step - 1) (2 ^ 51);
      hi = down (4 * last_step - 1) (2 ^ 51 * 1);
      lo_proper = (lit< tt, lit< tt);
      hi_proper = (lit< tt, lit< tt);
      at_most = lower_at last_step X a c (le_refl last_step) hX (le_of_eq x);
      at_least = hi_at_least X 1 last_step a c x (lit< tt) (lit≤ tt) r;
      before = lit≤ tt;
      after = hi_after X 1 last_step a c x (lit< tt) (lit≤ tt) r;
      close = lit≤ tt;
    }

from_either : (X E f b a c : ℕ) → X + E ≡ 2 ^ 58 → X * c ≡ a * 2 ^ 58 → 0 < E → sine_step last_step ≤ X → Scaled E f → Encloses X f b → (b < last_step) ⊎ ((b ≡ last_step) × (f ≡ 1)) → Surrounded (8 * half_pi_steps - 8 * b / f) (2 ^ 52) a c
from_either X E f b a c e x hE hX s r (inl h) = from_upper X f b a c x s.positive (f_small E f hE (omega arith) s.tight) r h
from_either X E f b a c e x hE hX s r (inr p) =
    subst₂ (λ b f. Surrounded (8 * half_pi_steps - 8 * b / f) (2 ^ 52) a c) (sym p.0) (sym p.1) (from_top X a c x hX (subst₂ (λ b f. Encloses X f b) p.0 p.1 r))

-- ---- at 1
from_one : (a c : ℕ) → 2 ^ 58 * c ≡ a * 2 ^ 58 → Surrounded (8 * half_pi_steps) (2 ^ 52) a c
from_one a c x =
    record {
      lo = down 5 (2 ^ 51);
      hi = down 0 (2 ^ 51);
      lo_proper = (lit< tt, lit< tt);
      hi_proper = (lit< tt, lit< tt);
      at_most = under _ _ (2 ^ 58) (2 ^ 58) a c (lit< tt) x (go (cosine_num 5 (2 ^ 51)) (cosine_den (2 ^ 51)) (subst (λ C. cosine_num 5 (2 ^ 51) ≤ C) (cosine_at_zero (2 ^ 51)) (cosine_falls 0 5 (2 ^ 51) (lit≤ tt) (lit≤ tt))));
      at_least = over _ _ (2 ^ 58) (2 ^ 58) a c (lit< tt) x (go' (cosine_num 0 (2 ^ 51)) (cosine_den (2 ^ 51)) (cosine_at_zero (2 ^ 51)));
      before = lit≤ tt;
      after = lit≤ tt;
      close = lit≤ tt;
    }
  where
    go : (n C : ℕ) → n ≤ C → n * 2 ^ 58 ≤ 2 ^ 58 * C
    go n C h = omega arith

    go' : (n C : ℕ) → n ≡ C → 2 ^ 58 * C ≤ n * 2 ^ 58
    go' n C h = omega arith

-- ---- the theorem: for a / b from 0 to 1 that is a multiple of 2 ^ -58 where it is not below the last step's sine
pub arcsine_surrounded : (a b : ℕ) → 0 < b → a ≤ b → let X = a * 2 ^ 58 / b in (sine_step last_step ≤ X → X * b ≡ a * 2 ^ 58) → Surrounded (arcsine_units X) (2 ^ 52) a b
unfolding arcsine_units
arcsine_surrounded a b hb hab exact =
    go (a * 2 ^ 58 / b) (div-le_of_le-mul b (omega arith)) exact (arcsine_encloses a b hb)
    (ltb (a * 2 ^ 58 / b) (sine_step last_step)) (ltb→lt (a * 2 ^ 58 / b) (sine_step last_step)) (nltb→le (a * 2 ^ 58 / b) (sine_step last_step)) (ltb (a * 2 ^ 58 / b) (2 ^ 58)) (ltb→lt (a * 2 ^ 58 / b) (2 ^ 58)) (nltb→le (a * 2 ^ 58 / b) (2 ^ 58))
  where
    high : (X : ℕ) → X < 2 ^ 58 → X * b ≡ a * 2 ^ 58 → sine_step last_step ≤ X → Surrounded (8 * half_pi_steps - 8 * upper_steps (2 ^ 58 - X) (scale (2 ^ 58 - X)) / scale (2 ^ 58 - X)) (2 ^ 52) a b
    high X l x hX =
        let E = 2 ^ 58 - X in
        let s = scaled E (omega arith) in
        let r = upper_encloses X E (scale E) s.positive (omega arith) s.enough in
        from_either X E (scale E) (upper_steps E (scale E)) a b (omega arith) x (omega arith) hX s r (either E s.tight s r.within)
      where
        either : (E : ℕ) → (scale E ≡ 1) ⊎ (E * (scale E * scale E) ≤ 2 ^ 56) → Scaled E (scale E) → upper_steps E (scale E) ≤ last_step → (upper_steps E (scale E) < last_step) ⊎ ((upper_steps E (scale E) ≡ last_step) × (scale E ≡ 1))
        either E (inl e) s w = last (eq-or-lt_of_le w)
          where
            last : (upper_steps E (scale E) ≡ last_step) ⊎ (upper_steps E (scale E) < last_step) → (upper_steps E (scale E) < last_step) ⊎ ((upper_steps E (scale E) ≡ last_step) × (scale E ≡ 1))
            last (inl p) = inr (p, e)
            last (inr p) = inl p
        either E (inr h) s w = inl (upper_below_top E (scale E) s.positive s.enough h)

    go : (X : ℕ) → X ≤ 2 ^ 58 → (sine_step last_step ≤ X → X * b ≡ a * 2 ^ 58) → (X < sine_step last_step → Enclosed (arcsine_steps X) a b)
        → (u : Bool) → (T u → X < sine_step last_step) → (T (not u) → sine_step last_step ≤ X) → (v : Bool) → (T v → X < 2 ^ 58) → (T (not v) → 2 ^ 58 ≤ X)
        → Surrounded (cond u (8 * arcsine_steps X) (cond v (8 * half_pi_steps - 8 * upper_steps (2 ^ 58 - X) (scale (2 ^ 58 - X)) / scale (2 ^ 58 - X)) (8 * half_pi_steps))) (2 ^ 52) a b
    go X hX x r true f g v h k = from_lower (arcsine_steps X) a b (r (f tt))
    go X hX x r false f g true h k = high X (h tt) (x (g tt)) (g tt)
    go X hX x r false f g false h k = from_one a b (subst (λ X. X * b ≡ a * 2 ^ 58) (le_antisymm hX (k tt)) (x (g tt)))

-- ---- below 2 ^ -17 the answer is a / b itself
six : (zn zd : ℕ) (cs : List ℕ) → 6 * (zd * den zd cs) ≤ num zn zd (6 ∷ cs) + zn * den zd cs
unfolding num
six zn zd cs = go (6 * (zd * den zd cs)) (num zn zd cs) (den zd cs) (num-le-den zn zd cs)
  where
    go : (C N D : ℕ) → N ≤ D → C ≤ C - zn * N + zn * D
    go C N D h = part (zn * N) (mul-le-mul_left zn h)
      where
        part : (x : ℕ) → x ≤ zn * D → C ≤ C - x + zn * D
        part x k = omega arith

sine_below : (n d : ℕ) → sine_num n d * d ≤ n * sine_den d
unfolding sine_num sine_den
sine_below n d = go (num (n * n) (d * d) sine_divisors) (den (d * d) sine_divisors) (num-le-den (n * n) (d * d) sine_divisors)
  where
    go : (N D : ℕ) → N ≤ D → n * N * d ≤ n * (d * D)
    go N D h = omega (arith, mul-le-mul_left (n * d) h)

-- where n is a * k + b and d is b * k
above_any : (a b k : ℕ) (cs : List ℕ) → let n = a * k + b in let d = b * k in n * (n * n) ≤ 6 * (b * (d * d)) → a * (d * den (d * d) (6 ∷ cs)) ≤ n * num (n * n) (d * d) (6 ∷ cs) * b
unfolding den
above_any a b k cs h = go (a * k + b) (b * k) _ (den (b * k * (b * k)) cs) refl refl (six ((a * k + b) * (a * k + b)) (b * k * (b * k)) cs) h
  where
    go : (n d N D : ℕ) → n ≡ a * k + b → d ≡ b * k → 6 * (d * d * D) ≤ N + n * n * D → n * (n * n) ≤ 6 * (b * (d * d)) → a * (d * (6 * (d * d * D))) ≤ n * N * b
    go n d N D e f i j = last (d * d * D) (mul-le-mul_left (n * b) i) (mul-le-mul_right (b * D) j) (ap (λ t. t * (b * (6 * (d * d * D)))) e) (ap (λ t. a * (t * (6 * (d * d * D)))) f)
      where
        last : (z : ℕ) → n * b * (6 * (d * d * D)) ≤ n * b * (N + n * n * D) → n * (n * n) * (b * D) ≤ 6 * (b * (d * d)) * (b * D) → n * (b * (6 * (d * d * D))) ≡ (a * k + b) * (b * (6 * (d * d * D))) → a * (d * (6 * (d * d * D))) ≡ a * (b * k * (6 * (d * d * D))) → a * (d * (6 * (d * d * D))) ≤ n * N * b
        last z p q r s = omega (arith, p, q, r, s)

sine_above : (a b k : ℕ) → let n = a * k + b in let d = b * k in n * (n * n) ≤ 6 * (b * (d * d)) → a * sine_den d ≤ sine_num n d * b
unfolding sine_num sine_den sine_divisors
sine_above a b k h = above_any a b k (20 ∷ 42 ∷ 72 ∷ 110 ∷ 156 ∷ 210 ∷ 272 ∷ 342 ∷ 420 ∷ []) h

cubes : (c k b : ℕ) → c * (c * c) ≤ 6 * (k * k) → c * b * (c * b * (c * b)) ≤ 6 * (b * (b * k * (b * k)))
cubes c k b h = omega (arith, mul-le-mul_right (b * (b * b)) h)

near : (a b n : ℕ) → a * 2 ^ 17 ≤ b → n ≡ a * 2 ^ 47 + b → n ≤ 1073741825 * b
near a b n h e = omega arith

cube : (a b n : ℕ) → a * 2 ^ 17 ≤ b → n ≡ a * 2 ^ 47 + b → n * (n * n) ≤ 6 * (b * (b * 2 ^ 47 * (b * 2 ^ 47)))
cube a b n h e = let l = near a b n h e in le_trans (mul-le-mul l (mul-le-mul l l)) (cubes 1073741825 (2 ^ 47) b (lit≤ tt))

small_proper : (n d : ℕ) → 0 < d → 2 * n ≤ d → 2 * n * whole < half_pi * d
small_proper n d hd h = go half_pi whole (lit< tt)
  where
    go : (k g : ℕ) → g < k → 2 * n * g < k * d
    go k g l = omega (arith, mul-le-mul_right g h, mul-lt-mul_of_pos_left l hd)

pub small_surrounded : (a b : ℕ) → 0 < b → a * 2 ^ 17 ≤ b → Surrounded a b a b
small_surrounded a b hb h =
    record {
      lo = up a b;
      hi = up (a * 2 ^ 47 + b) (b * 2 ^ 47);
      lo_proper = (hb, small_proper a b hb (omega arith));
      hi_proper = (mul-pos hb (lit< tt), small_proper (a * 2 ^ 47 + b) (b * 2 ^ 47) (mul-pos hb (lit< tt)) (omega arith));
      at_most = sine_below a b;
      at_least = sine_above a b (2 ^ 47) (cube a b (a * 2 ^ 47 + b) h refl);
      before = le_refl (a * b);
      after = omega arith;
      close = omega arith;
    }
