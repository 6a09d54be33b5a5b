-- The sums at the four places around a multiple of half pi, n / d either side of it: which of the sine and the cosine of n / d they are, and their signs.
use mathlib.Core.Path.{◌≡◌, refl, sym, ap, ◌∙◌, subst, subst₂}
use mathlib.Core.Bool.{Bool, true, false, not}
use mathlib.Core.Logic.{◌⊎◌, inl, inr}
use Prim.Native.Nat.{ℕ, ◌+◌, ◌*◌, ◌≤◌, ◌<◌}
use native.Mathlib.Nat.{mul-pos, mul-le-mul_left, le_refl, le_of_lt, mul_comm, mul-lt-mul_of_pos_left, eq_of_mul-eq-mul_right, zero-mul}
use native.Mathlib.Omega.{arith}
use lib.Dec.{T, ltb, ltb→lt, nltb→le, lit<}
use Rattle.laws.proofs.Bools.{refuted}
use Rattle.trigonometry.specs.Taylor.{sine_num, sine_den, cosine_num, cosine_den}
use Rattle.trigonometry.specs.Angle.{half_pi, whole, distance, quarters, Signed, turned, reduced}
use Rattle.trigonometry.proofs.Reduction.{quarters-between}
use Rattle.trigonometry.proofs.Same.{sine_same, cosine_same}

-- ---- the sine and the cosine of n / d, over the scale that the reduction has
abbrev pub c : ℕ
c = whole * whole

abbrev pub Sine : Bool → ℕ → ℕ → Signed
Sine m n d = record { minus = m; top = sine_num (n * c) (d * c); bottom = sine_den (d * c) }

abbrev pub Cosine : Bool → ℕ → ℕ → Signed
Cosine m n d = record { minus = m; top = cosine_num (n * c) (d * c); bottom = cosine_den (d * c) }

pub same_sine : (n d : ℕ) → sine_num (n * c) (d * c) * sine_den d ≡ sine_num n d * sine_den (d * c)
same_sine n d = subst₂ (λ m e. sine_num m e * sine_den d ≡ sine_num n d * sine_den e) (mul_comm c n) (mul_comm c d) (sine_same c n d)

pub same_cosine : (n d : ℕ) → cosine_num (n * c) (d * c) * cosine_den d ≡ cosine_num n d * cosine_den (d * c)
same_cosine n d = subst₂ (λ m e. cosine_num m e * cosine_den d ≡ cosine_num n d * cosine_den e) (mul_comm c n) (mul_comm c d) (cosine_same c n d)

-- ---- the reduction's parts settle the sum
turned-at : (more a b k m D : ℕ) (below : Bool) → quarters a b ≡ k → ltb (a * whole) (k * half_pi * b) ≡ below → distance (a * whole) (k * half_pi * b) ≡ m → b * whole ≡ D → reduced more a b ≡ turned (k + more) below m D
unfolding reduced
turned-at more a b k m D below e f g h = settle (quarters a b) (ltb (a * whole) (quarters a b * half_pi * b)) (distance (a * whole) (quarters a b * half_pi * b)) (b * whole) e (ap (λ q. ltb (a * whole) (q * half_pi * b)) e ∙ f) (ap (λ q. distance (a * whole) (q * half_pi * b)) e ∙ g) h
  where
    settle : (q : ℕ) (c : Bool) (r E : ℕ) → q ≡ k → c ≡ below → r ≡ m → E ≡ D → turned (q + more) c r E ≡ turned (k + more) below m D
    settle q c r E e f g h = rw (e, f, g, h) refl

distance_under : (a b t : ℕ) → a + t ≡ b → distance a b ≡ t
unfolding distance
distance_under a b t e = omega arith

distance_over : (a b t : ℕ) → b + t ≡ a → distance a b ≡ t
unfolding distance
distance_over a b t e = omega arith

square-den : (w d : ℕ) → w * d * w ≡ d * (w * w)
square-den w d = omega arith

module _ (k n d : ℕ) (hd : 0 < d) (h : 2 * n * whole < half_pi * d) where
  positive : 0 < half_pi * (whole * d)
  positive = mul-pos (lit< tt) (mul-pos (lit< tt) hd)

  -- ---- k half pis and n / d more
  module _ (a : ℕ) (e : k * (half_pi * d) + n * whole ≡ a) where
    after-quarters : quarters a (whole * d) ≡ k
    after-quarters = quarters-between a (whole * d) k a a (mul-pos (lit< tt) hd) (le_refl a) (le_refl a) (low whole half_pi e) (high whole half_pi (lit< tt) e h)
      where
        low : (w p : ℕ) → k * (p * d) + n * w ≡ a → 2 * (k * (p * (w * d))) ≤ 2 * (w * a) + p * (w * d)
        low w p e = omega (arith, ap (λ z. w * z) e)

        high : (w p : ℕ) → 0 < w → k * (p * d) + n * w ≡ a → 2 * n * w < p * d → 2 * (w * a) < 2 * (k * (p * (w * d))) + p * (w * d)
        high w p hw e l = omega (arith, ap (λ z. w * z) e, mul-lt-mul_of_pos_left l hw)

    after_far : k * half_pi * (whole * d) + n * (whole * whole) ≡ a * whole
    after_far = go whole half_pi e
      where
        go : (w p : ℕ) → k * (p * d) + n * w ≡ a → k * p * (w * d) + n * (w * w) ≡ a * w
        go w p e = omega (arith, ap (λ z. z * w) e)

    after_above : ltb (a * whole) (k * half_pi * (whole * d)) ≡ false
    after_above = refuted (ltb (a * whole) (k * half_pi * (whole * d))) (λ t. no (a * whole) (k * half_pi * (whole * d)) (n * (whole * whole)) after_far (ltb→lt (a * whole) (k * half_pi * (whole * d)) t))
      where
        no : (x y z : ℕ) → y + z ≡ x → x < y → ⊥
        no x y z f l = omega arith

    pub after-sum : (more : ℕ) → reduced more a (whole * d) ≡ turned (k + more) false (n * (whole * whole)) (d * (whole * whole))
    after-sum more = turned-at more a (whole * d) k (n * (whole * whole)) (d * (whole * whole)) false after-quarters after_above (distance_over (a * whole) (k * half_pi * (whole * d)) (n * (whole * whole)) after_far) (square-den whole d)

  -- ---- and n / d less
  module _ (a : ℕ) (e : a + n * whole ≡ k * (half_pi * d)) where
    before_quarters : quarters a (whole * d) ≡ k
    before_quarters = quarters-between a (whole * d) k a a (mul-pos (lit< tt) hd) (le_refl a) (le_refl a) (low whole half_pi e h) (high whole half_pi e positive)
      where
        low : (w p : ℕ) → a + n * w ≡ k * (p * d) → 2 * n * w < p * d → 2 * (k * (p * (w * d))) ≤ 2 * (w * a) + p * (w * d)
        low w p e l = omega (arith, ap (λ z. w * z) e, mul-le-mul_left w (le_of_lt l))

        high : (w p : ℕ) → a + n * w ≡ k * (p * d) → 0 < p * (w * d) → 2 * (w * a) < 2 * (k * (p * (w * d))) + p * (w * d)
        high w p e q = omega (arith, ap (λ z. w * z) e)

    before_far : a * whole + n * (whole * whole) ≡ k * half_pi * (whole * d)
    before_far = go whole half_pi e
      where
        go : (w p : ℕ) → a + n * w ≡ k * (p * d) → a * w + n * (w * w) ≡ k * p * (w * d)
        go w p e = omega (arith, ap (λ z. z * w) e)

    pub before_sum : (more : ℕ) → reduced more a (whole * d) ≡ turned (k + more) (ltb (a * whole) (k * half_pi * (whole * d))) (n * (whole * whole)) (d * (whole * whole))
    before_sum more = turned-at more a (whole * d) k (n * (whole * whole)) (d * (whole * whole)) _ before_quarters refl (distance_under (a * whole) (k * half_pi * (whole * d)) (n * (whole * whole)) before_far) (square-den whole d)

    pub below_or_none : (b : Bool) → ltb (a * whole) (k * half_pi * (whole * d)) ≡ b → (b ≡ true) ⊎ ((b ≡ false) × (n ≡ 0))
    below_or_none true f = inl refl
    below_or_none false f = inr (refl, zero_of n (none (a * whole) (k * half_pi * (whole * d)) (n * (whole * whole)) before_far (nltb→le (a * whole) (k * half_pi * (whole * d)) (subst (λ c. T (not c)) (sym f) tt))))
      where
        none : (x y z : ℕ) → x + z ≡ y → y ≤ x → z ≡ 0
        none x y z f l = omega arith

        zero_of : (n : ℕ) → n * (whole * whole) ≡ 0 → n ≡ 0
        zero_of n z = eq_of_mul-eq-mul_right (whole * whole) (lit< tt) n 0 (z ∙ sym (zero-mul (whole * whole)))
