-- The arctangent's two angles as document 01 asks for them: each turn is a rational angle, its sums after the reduction are the sine and the cosine of what is left, with their signs, and the order of the products is kept.
use mathlib.Core.Path.{◌≡◌, refl, sym, ap, ◌∙◌, subst, subst₂}
use mathlib.Core.Bool.{Bool, true, false, not, true≢false}
use mathlib.Core.Logic.{◌⊎◌, inl, inr}
use Prim.Native.Nat.{ℕ, ◌+◌, ◌*◌, ◌-◌, ◌^◌, ◌≤◌, ◌<◌}
use native.Mathlib.Nat.{mul-pos, mul-le-mul_right, le_of_mul-le-mul_right, zero-mul}
use native.Mathlib.Omega.{arith}
use lib.Dec.{ltb, lit<, lit≤}
use lib.Ieee.{unlike}
use Rattle.trigonometry.specs.Taylor.{sine_num, sine_den, cosine_num, cosine_den}
use Rattle.trigonometry.specs.Angle.{half_pi, whole, Signed, even, negative, turned, reduced, negated, sine_sum, cosine_sum}
use Rattle.trigonometry.proofs.Reduced.{sine_proper, cosine_proper}
use Rattle.grid.specs.Enclosure.{Angle, Leq, Nearer, Farther, Quadrant, IsArctangent}
use Rattle.grid.proofs.Turning.{c, Sine, Cosine, same_sine, same_cosine, after-sum, before_sum, below_or_none}
use Rattle.grid.proofs.Placing.{Turn, up, down, over, back, size, Side, Proper, NotUnder, NotOver, Around}

abbrev angle : Turn → Angle
angle v = record { top = size v; bottom = whole * 2 ^ 51 }

-- ---- signs: with both set the order turns round
flip : (a b : Bool) (p q : ℕ) → Leq a p b q → Leq (not b) q (not a) p
flip false false p q h = h
flip true true p q h = h
flip true false p q h = tt
flip false true p q h = omega arith

clear : (b : Bool) → unlike false b ≡ b
clear true = refl
clear false = refl

set : (b : Bool) → unlike true b ≡ not b
set true = refl
set false = refl

mirrored : (left b : Bool) → unlike left (unlike true b) ≡ not (unlike left (unlike false b))
mirrored true true = refl
mirrored true false = refl
mirrored false true = refl
mirrored false false = refl

-- ---- the two sums of an angle, given for the angle that is not negative
module _ (left : Bool) (x y : ℕ) (at : Angle) (S C : Signed) (e : sine_sum false at.top at.bottom ≡ S) (f : cosine_sum false at.top at.bottom ≡ C) (p : 0 < S.bottom) (q : 0 < C.bottom) where
  -- the reduced sums, and the two products
  abbrev s₀ : Signed
  s₀ = reduced 0 at.top at.bottom

  abbrev c₀ : Signed
  c₀ = reduced 1 at.top at.bottom

  abbrev xs : ℕ
  xs = x * s₀.top * c₀.bottom

  abbrev yc : ℕ
  yc = y * c₀.top * s₀.bottom

  sine_fraction : 0 < s₀.bottom
  unfolding sine_sum negated
  sine_fraction = subst (λ s. 0 < s.bottom) (sym e) p

  cosine_fraction : 0 < c₀.bottom
  unfolding cosine_sum
  cosine_fraction = subst (λ c. 0 < c.bottom) (sym f) q

  not_past : (minus : Bool) → Leq (unlike left S.minus) (x * S.top * C.bottom) C.minus (y * C.top * S.bottom) → Nearer minus left x y at
  unfolding sine_sum negated cosine_sum
  not_past minus h = go minus (subst₂ (λ s c. Leq (unlike left s.minus) (x * s.top * c.bottom) c.minus (y * c.top * s.bottom)) (sym e) (sym f) h)
    where
      go : (minus : Bool) → Leq (unlike left (unlike false s₀.minus)) xs c₀.minus yc → Nearer minus left x y at
      go false k = record { sine_proper = sine_fraction; cosine_proper = cosine_fraction; holds = subst (λ b. Leq (unlike left (unlike false s₀.minus)) xs b yc) (sym (clear c₀.minus)) k }
      go true k = record { sine_proper = sine_fraction; cosine_proper = cosine_fraction; holds = subst₂ (λ a b. Leq a yc b xs) (sym (set c₀.minus)) (sym (mirrored left s₀.minus)) (flip (unlike left (unlike false s₀.minus)) c₀.minus xs yc k) }

  not_short : (minus : Bool) → Leq C.minus (y * C.top * S.bottom) (unlike left S.minus) (x * S.top * C.bottom) → Farther minus left x y at
  unfolding sine_sum negated cosine_sum
  not_short minus h = go minus (subst₂ (λ s c. Leq c.minus (y * c.top * s.bottom) (unlike left s.minus) (x * s.top * c.bottom)) (sym e) (sym f) h)
    where
      go : (minus : Bool) → Leq c₀.minus yc (unlike left (unlike false s₀.minus)) xs → Farther minus left x y at
      go false k = record { sine_proper = sine_fraction; cosine_proper = cosine_fraction; holds = subst (λ b. Leq b yc (unlike left (unlike false s₀.minus)) xs) (sym (clear c₀.minus)) k }
      go true k = record { sine_proper = sine_fraction; cosine_proper = cosine_fraction; holds = subst₂ (λ a b. Leq a xs b yc) (sym (mirrored left s₀.minus)) (sym (set c₀.minus)) (flip c₀.minus (unlike left (unlike false s₀.minus)) yc xs k) }

-- ---- products over any scale: s / S is s' / S' and c / C is c' / C'
rescaled : (x y s S s' S' c C c' C' : ℕ) → 0 < S → 0 < C → s' * S ≡ s * S' → c' * C ≡ c * C' → x * s * C ≤ y * c * S → x * s' * C' ≤ y * c' * S'
rescaled x y s S s' S' c C c' C' hS hC e f h = le_of_mul-le-mul_right {k = S * C} (go (mul-le-mul_right (S' * C') h) (ap (λ z. x * C * C' * z) e) (ap (λ z. y * S * S' * z) f)) (mul-pos hS hC)
  where
    go : x * s * C * (S' * C') ≤ y * c * S * (S' * C') → x * C * C' * (s' * S) ≡ x * C * C' * (s * S') → y * S * S' * (c' * C) ≡ y * S * S' * (c * C') → x * s' * C' * (S * C) ≤ y * c' * S' * (S * C)
    go i j k = omega arith

abbrev d : ℕ
d = 2 ^ 51

module _ (n x y : ℕ) where
  -- x sin ≤ y cos and x cos ≤ y sin, and what they are over the scale
  sine_cosine : x * sine_num n d * cosine_den d ≤ y * cosine_num n d * sine_den d → x * sine_num (n * c) (d * c) * cosine_den (d * c) ≤ y * cosine_num (n * c) (d * c) * sine_den (d * c)
  sine_cosine = rescaled x y _ _ _ _ _ _ _ _ (sine_proper d (lit< tt)) (cosine_proper d (lit< tt)) (same_sine n d) (same_cosine n d)

  cosine_sine : x * cosine_num n d * sine_den d ≤ y * sine_num n d * cosine_den d → x * cosine_num (n * c) (d * c) * sine_den (d * c) ≤ y * sine_num (n * c) (d * c) * cosine_den (d * c)
  cosine_sine = rescaled x y _ _ _ _ _ _ _ _ (cosine_proper d (lit< tt)) (sine_proper d (lit< tt)) (same_cosine n d) (same_sine n d)

proper_sine : 0 < sine_den (d * c)
proper_sine = sine_proper (d * c) (lit< tt)

proper_cosine : 0 < cosine_den (d * c)
proper_cosine = cosine_proper (d * c) (lit< tt)

-- ---- the sums of each turn
sum_of : (n t : ℕ) → t ≡ whole * n → 0 * (half_pi * d) + n * whole ≡ t
sum_of n t e = go whole half_pi e
  where
    go : (w p : ℕ) → t ≡ w * n → 0 * (p * d) + n * w ≡ t
    go w p e = omega arith

sum_over : (n : ℕ) → 1 * (half_pi * d) + n * whole ≡ half_pi * d + whole * n
sum_over n = go whole (half_pi * d)
  where
    go : (w q : ℕ) → 1 * q + n * w ≡ q + w * n
    go w q = omega arith

rest_of : (k n : ℕ) → 1 ≤ k → 2 * n * whole < half_pi * d → k * (half_pi * d) - whole * n + n * whole ≡ k * (half_pi * d)
rest_of k n hk h = go whole (half_pi * d) (mul-le-mul_right (half_pi * d) hk) h
  where
    go : (w q : ℕ) → 1 * q ≤ k * q → 2 * n * w < q → k * q - w * n + n * w ≡ k * q
    go w q l h = omega arith

up_sums : (n : ℕ) → Proper (up n) → (sine_sum false (size (up n)) (whole * d) ≡ Sine false n d) × (cosine_sum false (size (up n)) (whole * d) ≡ Cosine false n d)
unfolding sine_sum cosine_sum negated turned negative even
up_sums n h = (ap (negated false) (after-sum 0 n d (lit< tt) h (size (up n)) (sum_of n (whole * n) refl) 0), after-sum 0 n d (lit< tt) h (size (up n)) (sum_of n (whole * n) refl) 1)

over_sums : (n : ℕ) → Proper (over n) → (sine_sum false (size (over n)) (whole * d) ≡ Cosine false n d) × (cosine_sum false (size (over n)) (whole * d) ≡ Sine true n d)
unfolding sine_sum cosine_sum negated turned negative even
over_sums n h = (ap (negated false) (after-sum 1 n d (lit< tt) h (size (over n)) (sum_over n) 0), after-sum 1 n d (lit< tt) h (size (over n)) (sum_over n) 1)

abbrev below : ℕ → ℕ → Bool
below k t = ltb (t * whole) (k * half_pi * (whole * d))

down_rest : (n : ℕ) → Proper (down n) → size (down n) + n * whole ≡ 1 * (half_pi * d)
down_rest n h = rest_of 1 n (lit≤ tt) h

back_rest : (n : ℕ) → Proper (back n) → size (back n) + n * whole ≡ 2 * (half_pi * d)
back_rest n h = rest_of 2 n (lit≤ tt) h

down_sums : (n : ℕ) → Proper (down n) → (sine_sum false (size (down n)) (whole * d) ≡ Cosine false n d) × (cosine_sum false (size (down n)) (whole * d) ≡ Sine (unlike true (below 1 (size (down n)))) n d)
unfolding sine_sum cosine_sum negated turned negative even
down_sums n h = (ap (negated false) (before_sum 1 n d (lit< tt) h (size (down n)) (down_rest n h) 0), before_sum 1 n d (lit< tt) h (size (down n)) (down_rest n h) 1)

back_sums : (n : ℕ) → Proper (back n) → (sine_sum false (size (back n)) (whole * d) ≡ Sine (unlike false (unlike true (below 2 (size (back n))))) n d) × (cosine_sum false (size (back n)) (whole * d) ≡ Cosine true n d)
unfolding sine_sum cosine_sum negated turned negative even
back_sums n h = (ap (negated false) (before_sum 2 n d (lit< tt) h (size (back n)) (back_rest n h) 0), before_sum 2 n d (lit< tt) h (size (back n)) (back_rest n h) 1)

-- ---- the order of the products with their signs
no_sine : (n y C : ℕ) → n ≡ 0 → y * sine_num (n * c) (d * c) * C ≡ 0
unfolding sine_num
no_sine n y C e = go (n * c) _ (ap (λ z. z * c) e ∙ zero-mul c)
  where
    go : (m N : ℕ) → m ≡ 0 → y * (m * N) * C ≡ 0
    go m N e = ap (λ z. y * (z * N) * C) e ∙ last N
      where
        last : (N : ℕ) → y * (0 * N) * C ≡ 0
        last N = omega arith

both-none : (p q : ℕ) → q ≡ 0 → p ≤ q → p + q ≤ 0
both-none p q e h = omega arith

low : (minus : Bool) (v : Turn) (left : Bool) (x y : ℕ) → Side left v → Proper v → NotUnder v x y → Nearer minus left x y (angle v)
low minus (up n) false x y s h k = not_past false x y (angle (up n)) (Sine false n d) (Cosine false n d) (up_sums n h).0 (up_sums n h).1 proper_sine proper_cosine minus (sine_cosine n x y k)
low minus (up n) true x y s h k = absurd s
low minus (over n) true x y s h k = not_past true x y (angle (over n)) (Cosine false n d) (Sine true n d) (over_sums n h).0 (over_sums n h).1 proper_cosine proper_sine minus (sine_cosine n y x k)
low minus (over n) false x y s h k = absurd s
low minus (down n) true x y s h k = absurd s
low minus (down n) false x y s h k = not_past false x y (angle (down n)) (Cosine false n d) (Sine (unlike true (below 1 (size (down n)))) n d) (down_sums n h).0 (down_sums n h).1 proper_cosine proper_sine minus (go _ (below_or_none 1 n d (lit< tt) h (size (down n)) (down_rest n h) (below 1 (size (down n))) refl))
  where
    go : (b : Bool) → (b ≡ true) ⊎ ((b ≡ false) × (n ≡ 0)) → Leq false (x * cosine_num (n * c) (d * c) * sine_den (d * c)) (unlike true b) (y * sine_num (n * c) (d * c) * cosine_den (d * c))
    go true e = cosine_sine n x y k
    go false (inl e) = absurd (true≢false (sym e))
    go false (inr e) = both-none _ _ (no_sine n y (cosine_den (d * c)) e.1) (cosine_sine n x y k)
low minus (back n) false x y s h k = absurd s
low minus (back n) true x y s h k = not_past true x y (angle (back n)) (Sine (unlike false (unlike true (below 2 (size (back n))))) n d) (Cosine true n d) (back_sums n h).0 (back_sums n h).1 proper_sine proper_cosine minus (go _ (below_or_none 2 n d (lit< tt) h (size (back n)) (back_rest n h) (below 2 (size (back n))) refl))
  where
    go : (b : Bool) → (b ≡ true) ⊎ ((b ≡ false) × (n ≡ 0)) → Leq (unlike true (unlike false (unlike true b))) (x * sine_num (n * c) (d * c) * cosine_den (d * c)) true (y * cosine_num (n * c) (d * c) * sine_den (d * c))
    go true e = cosine_sine n y x k
    go false (inl e) = absurd (true≢false (sym e))
    go false (inr e) = none_both _ _ (no_sine n x (cosine_den (d * c)) e.1) (cosine_sine n y x k)
      where
        none_both : (p q : ℕ) → p ≡ 0 → q ≤ p → p + q ≤ 0
        none_both p q e h = omega arith

high : (minus : Bool) (v : Turn) (left : Bool) (x y : ℕ) → Side left v → Proper v → NotOver v x y → Farther minus left x y (angle v)
high minus (up n) false x y s h k = not_short false x y (angle (up n)) (Sine false n d) (Cosine false n d) (up_sums n h).0 (up_sums n h).1 proper_sine proper_cosine minus (cosine_sine n y x k)
high minus (up n) true x y s h k = absurd s
high minus (over n) true x y s h k = not_short true x y (angle (over n)) (Cosine false n d) (Sine true n d) (over_sums n h).0 (over_sums n h).1 proper_cosine proper_sine minus (cosine_sine n x y k)
high minus (over n) false x y s h k = absurd s
high minus (down n) true x y s h k = absurd s
high minus (down n) false x y s h k = not_short false x y (angle (down n)) (Cosine false n d) (Sine (unlike true (below 1 (size (down n)))) n d) (down_sums n h).0 (down_sums n h).1 proper_cosine proper_sine minus (go (below 1 (size (down n))))
  where
    go : (b : Bool) → Leq (unlike true b) (y * sine_num (n * c) (d * c) * cosine_den (d * c)) false (x * cosine_num (n * c) (d * c) * sine_den (d * c))
    go true = sine_cosine n y x k
    go false = tt
high minus (back n) false x y s h k = absurd s
high minus (back n) true x y s h k = not_short true x y (angle (back n)) (Sine (unlike false (unlike true (below 2 (size (back n))))) n d) (Cosine true n d) (back_sums n h).0 (back_sums n h).1 proper_sine proper_cosine minus (go (below 2 (size (back n))))
  where
    go : (b : Bool) → Leq true (y * cosine_num (n * c) (d * c) * sine_den (d * c)) (unlike true (unlike false (unlike true b))) (x * sine_num (n * c) (d * c) * cosine_den (d * c))
    go true = sine_cosine n x y k
    go false = tt

-- ---- the quadrant
below_half : (v : Turn) → Side false v → Proper v → size v ≤ half_pi * d
below_half (up n) s h = go whole (half_pi * d) h
  where
    go : (w q : ℕ) → 2 * n * w < q → w * n ≤ q
    go w q h = omega arith
below_half (down n) s h = go whole (half_pi * d)
  where
    go : (w q : ℕ) → q - w * n ≤ q
    go w q = omega arith
below_half (over n) s h = absurd s
below_half (back n) s h = absurd s

above_half : (v : Turn) → Side true v → Proper v → (half_pi * d ≤ size v) × (size v ≤ 2 * (half_pi * d))
above_half (up n) s h = absurd s
above_half (down n) s h = absurd s
above_half (over n) s h = go whole (half_pi * d) h
  where
    go : (w q : ℕ) → 2 * n * w < q → (q ≤ q + w * n) × (q + w * n ≤ 2 * q)
    go w q h = (omega arith, omega arith)
above_half (back n) s h = go whole (half_pi * d) h
  where
    go : (w q : ℕ) → 2 * n * w < q → (q ≤ 2 * q - w * n) × (2 * q - w * n ≤ 2 * q)
    go w q h = (omega arith, omega arith)

in-quadrant : (left : Bool) (t : ℕ) (lo hi : Turn) → Side left lo → Side left hi → Proper lo → Proper hi → size lo ≤ 4 * t * whole → 4 * t * whole ≤ size hi → Quadrant left t (2 ^ 49)
in-quadrant false t lo hi sl sh pl ph b a = go whole half_pi (size hi) a (below_half hi sh ph)
  where
    go : (w p v : ℕ) → 4 * t * w ≤ v → v ≤ p * 2 ^ 51 → t * w ≤ p * 2 ^ 49
    go w p v h k = omega arith
in-quadrant true t lo hi sl sh pl ph b a = (least whole half_pi (size lo) b (above_half lo sl pl).0, most whole half_pi (size hi) a (above_half hi sh ph).1)
  where
    least : (w p v : ℕ) → v ≤ 4 * t * w → p * 2 ^ 51 ≤ v → p * 2 ^ 49 ≤ t * w
    least w p v h k = omega arith

    most : (w p v : ℕ) → 4 * t * w ≤ v → v ≤ 2 * (p * 2 ^ 51) → t * w ≤ 2 * (p * 2 ^ 49)
    most w p v h k = omega arith

-- ---- the enclosure, for the answer t / 2 ^ 49
pub is_arctangent : (minus left : Bool) (x y t : ℕ) → Around left x y t → IsArctangent minus left x y t (2 ^ 49)
is_arctangent minus left x y t r =
    record {
      quadrant = in-quadrant left t r.lo r.hi r.lo_side r.hi_side r.lo_proper r.hi_proper r.before r.after;
      lo = angle r.lo;
      hi = angle r.hi;
      lo_proper = lit< tt;
      hi_proper = lit< tt;
      before = before (size r.lo) whole r.before;
      after = after (size r.hi) whole r.after;
      close = close (size r.lo) (size r.hi) whole r.close;
      low = low minus r.lo left x y r.lo_side r.lo_proper r.not_under;
      high = high minus r.hi left x y r.hi_side r.hi_proper r.not_over;
    }
  where
    before : (a w : ℕ) → a ≤ 4 * t * w → a * 2 ^ 49 ≤ t * (w * 2 ^ 51)
    before a w h = omega arith

    after : (a w : ℕ) → 4 * t * w ≤ a → t * (w * 2 ^ 51) ≤ a * 2 ^ 49
    after a w h = omega arith

    close : (a b w : ℕ) → b ≤ a + 32 * w → 2 ^ 46 * (b * (w * 2 ^ 51)) ≤ 2 ^ 46 * (a * (w * 2 ^ 51)) + w * 2 ^ 51 * (w * 2 ^ 51)
    close a b w h = omega (arith, mul-le-mul_right w h)
