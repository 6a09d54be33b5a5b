-- Two sizes over one power of two: the scale of the arctangent's octant, found from the digits of two f64s.
use mathlib.Core.Path.{◌≡◌, refl, sym, ap, ◌∙◌, subst, subst₂}
use Prim.Native.Nat.{ℕ, zero, suc, ◌+◌, ◌*◌, ◌-◌, ◌^◌, ◌/◌, ◌≤◌, ◌<◌}
use native.Mathlib.Nat.{pow-succ', mul_assoc, mul-one, sub_self, div-one, le_antisymm, le_trans, le_refl, lt_of_lt_of_le, not-le_of_lt, mul-le-mul_left, mul-le-mul_right, mul-lt-mul_of_pos_right, mul-div_cancel, le_of_mul-le-mul_right}
use native.Mathlib.Omega.{arith}
use lib.Pow.{pow-add, pow_pos, pow_mono}
use lib.Ieee.{size}
use lib.Ieee.Digits.{size-lt, size_reaches, size-le}
use lib.Ieee.Nearest.{div_same}
use Rattle.laws.proofs.Numbers.{sub-add, le_by}
use Rattle.grid.specs.Arctangent.{arctangent_steps}
use Rattle.inverse_trigonometry.specs.Atan2.{scaled_by, octant}

-- ---- how many digits
size_is : (n k : ℕ) → 2 ^ k ≤ n → n < 2 * 2 ^ k → size n ≡ suc k
size_is n k a b = le_antisymm (size-le n (suc k) (subst (λ p. n < p) (sym (pow-succ' 2 k)) b)) (le_by (λ g. not-le_of_lt (lt_of_lt_of_le (size-lt n) (pow_mono (before g))) a))
  where
    before : size n < suc k → size n ≤ k
    before g = omega arith

-- 2 ^ k is the largest power of two in n
record Largest (n : ℕ) : Type 0 where
  k : ℕ
  least : 2 ^ k ≤ n
  most : n < 2 * 2 ^ k
  digits : size n ≡ suc k

largest : (n : ℕ) → 0 < n → Largest n
largest n h = go (size n) refl
  where
    go : (s : ℕ) → size n ≡ s → Largest n
    go zero e = absurd (never n h (subst (λ s. n < 2 ^ s) e (size-lt n)))
      where
        never : (n : ℕ) → 0 < n → n < 1 → ⊥
        never n a b = omega arith
    go (suc k) e = record { k = k; least = size_reaches n k (subst (λ s. k < s) (sym e) (last k)); most = subst (λ p. n < p) (pow-succ' 2 k) (subst (λ s. n < 2 ^ s) e (size-lt n)); digits = e }
      where
        last : (k : ℕ) → k < suc k
        last k = omega arith

size_times : (n i : ℕ) → 0 < n → size (n * 2 ^ i) ≡ size n + i
size_times n i h = go (largest n h)
  where
    go : Largest n → size (n * 2 ^ i) ≡ size n + i
    go l = size_is (n * 2 ^ i) (l.k + i) (subst (λ p. p ≤ n * 2 ^ i) (sym (pow-add 2 l.k i)) (mul-le-mul_right (2 ^ i) l.least)) (subst (λ p. n * 2 ^ i < 2 * p) (sym (pow-add 2 l.k i)) (subst (λ p. n * 2 ^ i < p) (mul_assoc 2 (2 ^ l.k) (2 ^ i)) (mul-lt-mul_of_pos_right l.most (pow_pos i)))) ∙ sum l.k (size n) l.digits
      where
        sum : (k s : ℕ) → s ≡ suc k → suc (k + i) ≡ s + i
        sum k s e = omega arith

-- ---- a common power of two does not count
scaled-raised : (n a i : ℕ) → 0 < n → scaled_by (n * 2 ^ i) (a * 2 ^ i) ≡ scaled_by n a
unfolding scaled_by
scaled-raised n a i h = ap (λ s. a * 2 ^ i * 2 ^ 58 / 2 ^ s) (size_times n i h) ∙ div_same (a * 2 ^ i * 2 ^ 58) (2 ^ (size n + i)) (a * 2 ^ 58) (2 ^ size n) (pow_pos (size n + i)) (pow_pos (size n)) (regroup (2 ^ i) (2 ^ size n) ∙ ap (λ p. a * 2 ^ 58 * p) (sym (pow-add 2 (size n) i)))
  where
    regroup : (p s : ℕ) → a * p * 2 ^ 58 * s ≡ a * 2 ^ 58 * (s * p)
    regroup p s = omega arith

pub octant-raised : (n a i : ℕ) → 0 < n → octant (n * 2 ^ i) (a * 2 ^ i) ≡ octant n a
unfolding octant
octant-raised n a i h = ap (λ u. arctangent_steps u (scaled_by (n * 2 ^ i) (a * 2 ^ i))) (scaled-raised n n i h) ∙ ap (λ w. arctangent_steps (scaled_by n n) w) (scaled-raised n a i h)

-- ---- from the digits
module _ (d p : ℕ) (least : 2 ^ 52 ≤ d) (most : d < 2 ^ 53) where
  size_digits : size (d * 2 ^ p) ≡ 53 + p
  size_digits = size_is (d * 2 ^ p) (52 + p) (subst (λ q. q ≤ d * 2 ^ p) (sym (pow-add 2 52 p)) (mul-le-mul_right (2 ^ p) least)) (subst (λ q. d * 2 ^ p < 2 * q) (sym (pow-add 2 52 p)) (subst (λ q. d * 2 ^ p < q) (mul_assoc 2 (2 ^ 52) (2 ^ p)) (mul-lt-mul_of_pos_right most (pow_pos p)))) ∙ sum p
    where
      sum : (p : ℕ) → suc (52 + p) ≡ 53 + p
      sum p = omega arith

  pub scaled-digits : (e q : ℕ) → q ≤ p → scaled_by (d * 2 ^ p) (e * 2 ^ q) ≡ 32 * e / 2 ^ (p - q)
  unfolding scaled_by
  scaled-digits e q h = ap (λ s. e * 2 ^ q * 2 ^ 58 / 2 ^ s) size_digits ∙ div_same (e * 2 ^ q * 2 ^ 58) (2 ^ (53 + p)) (32 * e) (2 ^ (p - q)) (pow_pos (53 + p)) (pow_pos (p - q)) (regroup (2 ^ q) (2 ^ (p - q)) ∙ ap (λ z. 32 * e * (2 ^ 53 * z)) (sym (pow-add 2 (p - q) q) ∙ ap (λ z. 2 ^ z) (sym (sub-add p q h))) ∙ ap (λ z. 32 * e * z) (sym (pow-add 2 53 p)))
    where
      regroup : (b c : ℕ) → e * b * 2 ^ 58 * c ≡ 32 * e * (2 ^ 53 * (c * b))
      regroup b c = omega arith

  -- a number that is no larger has its last digit no higher
  pub no_higher : (e q : ℕ) → (0 < q → 2 ^ 52 ≤ e) → e * 2 ^ q ≤ d * 2 ^ p → q ≤ p
  no_higher e zero f h = omega arith
  no_higher e (suc q) f h = le_by (λ g. not-le_of_lt (lt_of_lt_of_le (mul-lt-mul_of_pos_right most (pow_pos p)) (larger g)) h)
    where
      larger : p < suc q → 2 ^ 53 * 2 ^ p ≤ e * 2 ^ suc q
      larger g = le_trans (twice (2 ^ p)) (le_trans (mul-le-mul_left (2 ^ 52) (subst (λ z. z ≤ 2 ^ suc q) (pow-succ' 2 p) (pow_mono g))) (mul-le-mul_right (2 ^ suc q) (f (positive q))))
        where
          positive : (q : ℕ) → 0 < suc q
          positive q = omega arith

          twice : (b : ℕ) → 2 ^ 53 * b ≤ 2 ^ 52 * (2 * b)
          twice b = omega arith

-- ---- the octant from the parts
pub leading : (u d p : ℕ) → u ≡ d * 2 ^ p → (0 < p → 2 ^ 52 ≤ d) → 2 ^ 52 ≤ u → 2 ^ 52 ≤ d
leading u d zero e f h = subst (λ n. 2 ^ 52 ≤ n) (e ∙ mul-one d) h
leading u d (suc p) e f h = f (positive p)
  where
    positive : (p : ℕ) → 0 < suc p
    positive p = omega arith

pub lower_place : (u v d p e q : ℕ) → u ≡ d * 2 ^ p → v ≡ e * 2 ^ q → d < 2 ^ 53 → (0 < p → 2 ^ 52 ≤ d) → (0 < q → 2 ^ 52 ≤ e) → 2 ^ 52 ≤ u → v ≤ u → q ≤ p
lower_place u v d p e q eu ev few f g h l = no_higher d p (leading u d p eu f h) few e q g (subst₂ (λ a b. a ≤ b) ev eu l)

pub octant_is : (u v d p e q w r : ℕ) → u ≡ d * 2 ^ p → v ≡ e * 2 ^ q → d < 2 ^ 53 → 2 ^ 52 ≤ d → q ≤ p → w ≡ 32 * e / 2 ^ (p - q) → r ≡ arctangent_steps (32 * d) w → r ≡ octant u v
unfolding octant
octant_is u v d p e q w r eu ev few least l ew er = er ∙ ap (λ z. arctangent_steps z w) (sym own) ∙ ap (λ z. arctangent_steps (scaled_by u u) z) (ew ∙ sym other)
  where
    other : scaled_by u v ≡ 32 * e / 2 ^ (p - q)
    other = ap (λ z. scaled_by z v) eu ∙ ap (λ z. scaled_by (d * 2 ^ p) z) ev ∙ scaled-digits d p least few e q l

    own : scaled_by u u ≡ 32 * d
    own = ap (λ z. scaled_by z z) eu ∙ scaled-digits d p least few d p (le_refl p) ∙ ap (λ z. 32 * d / 2 ^ z) (sub_self p) ∙ div-one (32 * d)

-- ---- a number of few digits is scaled exactly, to 58 of them
module _ (n q j : ℕ) (few : q < 2 ^ 53) (is : n ≡ q * 2 ^ j) (h : 0 < n) where
  digits_le : size n ≤ j + 58
  digits_le = le_trans (size-le n (53 + j) (subst (λ z. z < 2 ^ (53 + j)) (sym is) (subst (λ z. q * 2 ^ j < z) (sym (pow-add 2 53 j)) (mul-lt-mul_of_pos_right few (pow_pos j))))) (more j)
    where
      more : (j : ℕ) → 53 + j ≤ j + 58
      more j = omega arith

  whole_times : n * 2 ^ 58 ≡ q * 2 ^ (j + 58 - size n) * 2 ^ size n
  whole_times = ap (λ z. z * 2 ^ 58) is ∙ regroup (2 ^ j) ∙ ap (λ z. q * z) (sym (pow-add 2 j 58) ∙ ap (λ z. 2 ^ z) (sub-add (j + 58) (size n) digits_le) ∙ pow-add 2 (j + 58 - size n) (size n)) ∙ assoc (2 ^ (j + 58 - size n)) (2 ^ size n)
    where
      regroup : (b : ℕ) → q * b * 2 ^ 58 ≡ q * (b * 2 ^ 58)
      regroup b = omega arith

      assoc : (b c : ℕ) → q * (b * c) ≡ q * b * c
      assoc b c = omega arith

  pub scaled_exact : scaled_by n n * 2 ^ size n ≡ n * 2 ^ 58
  unfolding scaled_by
  scaled_exact = ap (λ z. z / 2 ^ size n * 2 ^ size n) whole_times ∙ ap (λ z. z * 2 ^ size n) (mul-div_cancel (q * 2 ^ (j + 58 - size n)) (pow_pos (size n))) ∙ sym whole_times

  pub scaled-least : 2 ^ 57 ≤ scaled_by n n
  scaled-least = le_of_mul-le-mul_right {k = 2 ^ size n} (subst (λ z. 2 ^ 57 * 2 ^ size n ≤ z) (sym scaled_exact) (go (largest n h))) (pow_pos (size n))
    where
      go : Largest n → 2 ^ 57 * 2 ^ size n ≤ n * 2 ^ 58
      go l = subst (λ s. 2 ^ 57 * 2 ^ s ≤ n * 2 ^ 58) (sym l.digits) (subst (λ z. 2 ^ 57 * z ≤ n * 2 ^ 58) (sym (pow-succ' 2 l.k)) (twice (2 ^ l.k) l.least))
        where
          twice : (b : ℕ) → b ≤ n → 2 ^ 57 * (2 * b) ≤ n * 2 ^ 58
          twice b a = omega arith
