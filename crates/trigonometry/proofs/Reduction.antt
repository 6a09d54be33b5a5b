-- The nearest multiple of half pi, exactly and in whole units: `quarters` is nearest, and what is left is at most a quarter pi.
use mathlib.Core.Path.{◌≡◌, refl, ap}
use mathlib.Core.Bool.{Bool, true, false, not}
use Prim.Native.Nat.{ℕ, suc, ◌+◌, ◌*◌, ◌-◌, ◌/◌, ◌≤◌, ◌<◌}
use native.Mathlib.Nat.{mul-le-mul_left, mul-le-mul_right, div-mul-le_self, lt-div-mul-add, le_trans, le-div_iff_mul-le, div-lt_iff_lt-mul, mul_comm, mul_assoc, lt_of_le_of_lt}
use native.Mathlib.Omega.{arith}
use lib.Ieee.Nearest.{div_same}
use lib.Dec.{T, leb, leb→le, nleb→lt, lit≤}
use Rattle.laws.proofs.Numbers.{eq_by}
use Rattle.trigonometry.specs.Angle.{half_pi, whole, distance, quarters, NearestMultiple}
use Rattle.trigonometry.proofs.Near.{Near}

-- ---- distances
pub distance_cases : (a b : ℕ) (P : ℕ → Type 0) → ((u : ℕ) → u + b ≡ a → P u) → ((u : ℕ) → u + a ≡ b → P u) → P (distance a b)
unfolding distance
distance_cases a b P f g = go (leb b a) (leb→le b a) (nleb→lt b a)
  where
    go : (t : Bool) → (T t → b ≤ a) → (T (not t) → a < b) → P ((a - b) + (b - a))
    go true h k = let l = h tt in f ((a - b) + (b - a)) (omega arith)
    go false h k = let l = k tt in g ((a - b) + (b - a)) (omega arith)

pub distance-le : (a b c : ℕ) → a ≤ b + c → b ≤ a + c → distance a b ≤ c
unfolding distance
distance-le a b c h k = omega arith

distance_comm : (a b : ℕ) → distance a b ≡ distance b a
unfolding distance
distance_comm a b = omega arith

-- ---- (2 p + q) / (2 q) is p / q, rounded to the nearest whole number
round_is : (p q k : ℕ) → 0 < q → 2 * (k * q) ≤ 2 * p + q → 2 * p < 2 * (k * q) + q → (2 * p + q) / (2 * q) ≡ k
round_is p q k Q lo hi = eq_by low high
  where
    Q2 : 0 < 2 * q
    Q2 = omega arith

    low : (2 * p + q) / (2 * q) < k → ⊥
    low l = go ((div-lt_iff_lt-mul Q2).0 l)
      where
        go : 2 * p + q < k * (2 * q) → ⊥
        go h = omega arith

    high : k < (2 * p + q) / (2 * q) → ⊥
    high l = go ((le-div_iff_mul-le Q2).0 l)
      where
        go : suc k * (2 * q) ≤ 2 * p + q → ⊥
        go h = omega arith

round_half : (p q k : ℕ) → 0 < q → k ≡ (2 * p + q) / (2 * q) → (2 * p ≤ 2 * (k * q) + q) × (2 * (k * q) ≤ 2 * p + q)
round_half p q k Q e = rw (← e) at (go _ (div-mul-le_self (2 * p + q) (2 * q)) (lt-div-mul-add {a = 2 * p + q} {b = 2 * q} (omega arith)))
  where
    go : (t : ℕ) → t * (2 * q) ≤ 2 * p + q → 2 * p + q < t * (2 * q) + 2 * q → (2 * p ≤ 2 * (t * q) + q) × (2 * (t * q) ≤ 2 * p + q)
    go t h k = (omega arith, omega arith)

half_distance : (p t q : ℕ) → 2 * p ≤ 2 * t + q → 2 * t ≤ 2 * p + q → 2 * distance p t ≤ q
unfolding distance
half_distance p t q h k = omega arith

farther : (p q k j : ℕ) → 2 * p ≤ 2 * (k * q) + q → 2 * (k * q) ≤ 2 * p + q → distance p (k * q) ≤ distance p (j * q)
unfolding distance
farther p q k j h l = go (leb (suc j) k) (leb (suc k) j) (leb→le (suc j) k) (leb→le (suc k) j) (nleb→lt (suc j) k) (nleb→lt (suc k) j)
  where
    go : (s t : Bool) → (T s → suc j ≤ k) → (T t → suc k ≤ j) → (T (not s) → k < suc j) → (T (not t) → j < suc k) → (p - k * q) + (k * q - p) ≤ (p - j * q) + (j * q - p)
    go true t f g m n = less (mul-le-mul_right q (f tt))
      where
        less : suc j * q ≤ k * q → (p - k * q) + (k * q - p) ≤ (p - j * q) + (j * q - p)
        less e = omega arith
    go false true f g m n = more (mul-le-mul_right q (g tt))
      where
        more : suc k * q ≤ j * q → (p - k * q) + (k * q - p) ≤ (p - j * q) + (j * q - p)
        more e = omega arith
    go false false f g m n = same (eq (m tt) (n tt))
      where
        eq : k < suc j → j < suc k → k ≡ j
        eq a b = omega arith

        same : k ≡ j → (p - k * q) + (k * q - p) ≤ (p - j * q) + (j * q - p)
        same e = rw e (omega arith)

-- ---- `quarters` is the nearest multiple
positive : (b : ℕ) → 0 < b → 0 < half_pi * b
positive b h = omega arith

half_both : (a b : ℕ) → 0 < b → (2 * (whole * a) ≤ 2 * (quarters a b * (half_pi * b)) + half_pi * b) × (2 * (quarters a b * (half_pi * b)) ≤ 2 * (whole * a) + half_pi * b)
unfolding quarters
half_both a b h = round_half (whole * a) (half_pi * b) _ (positive b h) refl

pub quarters-nearest : (a b : ℕ) → 0 < b → NearestMultiple a b (quarters a b)
quarters-nearest a b h =
    record {
      nearest = λ j. rw (mul_comm a whole, mul_assoc (quarters a b) half_pi b, mul_assoc j half_pi b) (farther (whole * a) (half_pi * b) (quarters a b) j (half_both a b h).0 (half_both a b h).1);
      half = rw (mul_comm a whole, mul_assoc (quarters a b) half_pi b) (half_distance (whole * a) (quarters a b * (half_pi * b)) (half_pi * b) (half_both a b h).0 (half_both a b h).1);
    }

-- the multiple by two bounds on the angle
pub quarters-between : (a b k least most : ℕ) → 0 < b → least ≤ a → a ≤ most → 2 * (k * (half_pi * b)) ≤ 2 * (whole * least) + half_pi * b → 2 * (whole * most) < 2 * (k * (half_pi * b)) + half_pi * b → quarters a b ≡ k
unfolding quarters
quarters-between a b k least most hb lo hi f g = round_is (whole * a) (half_pi * b) k (positive b hb) (le_trans f (omega (arith, mul-le-mul_left (2 * whole) lo))) (lt_of_le_of_lt (omega (arith, mul-le-mul_left (2 * whole) hi)) g)

-- the same fraction has the same multiple
pub quarters_same : (a b c d : ℕ) → 0 < b → 0 < d → a * d ≡ c * b → quarters a b ≡ quarters c d
unfolding quarters
quarters_same a b c d hb hd e = div_same (2 * (whole * a) + half_pi * b) (2 * (half_pi * b)) (2 * (whole * c) + half_pi * d) (2 * (half_pi * d)) (omega arith) (omega arith) (go whole half_pi)
  where
    go : (w h : ℕ) → (2 * (w * a) + h * b) * (2 * (h * d)) ≡ (2 * (w * c) + h * d) * (2 * (h * b))
    go w h = omega (arith, ap (λ t. 4 * (w * h) * t) e)

-- up to 16 the multiple is at most 10
pub quarters-few : (a b : ℕ) → 0 < b → a ≤ 16 * b → quarters a b ≤ 10
unfolding quarters
quarters-few a b hb h = le_of_lt_suc ((div-lt_iff_lt-mul (omega arith)).1 (omega arith))
  where
    le_of_lt_suc : {n : ℕ} → n < 11 → n ≤ 10
    le_of_lt_suc l = omega arith

-- what is left is at most a quarter pi, and that is below 786 / 1000
pub left_small : (a b : ℕ) → 0 < b → 1000 * distance (a * whole) (quarters a b * half_pi * b) ≤ 786 * (b * whole)
left_small a b h = go half_pi whole _ (lit≤ tt) (quarters-nearest a b h).half
  where
    go : (p w n : ℕ) → 500 * p ≤ 786 * w → 2 * n ≤ p * b → 1000 * n ≤ 786 * (b * w)
    go p w n l k = omega (arith, mul-le-mul_right b l)

-- ---- the difference of two values that are near to two fractions is near to their difference
module _ (S A a p B b q e f u v : ℕ) (x : Near S A a p e e) (y : Near S B b q f f) where
  alike : u + B ≡ A → v + b * p ≡ a * q → Near S u v (p * q) (e + f) (e + f)
  alike hu hv = record { over = over x.over y.under; under = under x.under y.over }
    where
      over : A * p ≤ a * S + e * p → b * S ≤ B * q + f * q → u * (p * q) ≤ v * S + (e + f) * (p * q)
      over k l = omega (arith, mul-le-mul_right q k, mul-le-mul_right p l, ap (λ t. t * (p * q)) hu, ap (λ t. t * S) hv)

      under : a * S ≤ A * p + e * p → B * q ≤ b * S + f * q → v * S ≤ u * (p * q) + (e + f) * (p * q)
      under k l = omega (arith, mul-le-mul_right q k, mul-le-mul_right p l, ap (λ t. t * (p * q)) hu, ap (λ t. t * S) hv)

  -- where the two differences have opposite signs, both are small
  opposite : u + B ≡ A → v + a * q ≡ b * p → u * (p * q) + v * S ≤ (e + f) * (p * q)
  opposite hu hv = go x.over y.under
    where
      go : A * p ≤ a * S + e * p → b * S ≤ B * q + f * q → u * (p * q) + v * S ≤ (e + f) * (p * q)
      go k l = omega (arith, mul-le-mul_right q k, mul-le-mul_right p l, ap (λ t. t * (p * q)) hu, ap (λ t. t * S) hv)

near_of_both : (S u v D e : ℕ) → u * D + v * S ≤ e * D → Near S u v D e e
near_of_both S u v D e h = record { over = omega arith; under = omega arith }

pub near_distance : (S : ℕ) {A a p e B b q f : ℕ} → Near S A a p e e → Near S B b q f f → Near S (distance A B) (distance (a * q) (b * p)) (p * q) (e + f) (e + f)
near_distance S {A} {a} {p} {e} {B} {b} {q} {f} x y =
    distance_cases A B (λ u. Near S u (distance (a * q) (b * p)) (p * q) (e + f) (e + f))
    (λ u hu. distance_cases (a * q) (b * p) (λ v. Near S u v (p * q) (e + f) (e + f)) (λ v hv. alike S A a p B b q e f u v x y hu hv) (λ v hv. near_of_both S u v (p * q) (e + f) (opposite S A a p B b q e f u v x y hu hv)))
    (λ u hu. distance_cases (a * q) (b * p) (λ v. Near S u v (p * q) (e + f) (e + f)) (λ v hv. turn u v (near_of_both S u v (q * p) (f + e) (opposite S B b q A a p f e u v y x hu hv))) (λ v hv. turn u v (alike S B b q A a p f e u v y x hu hv)))
  where
    turn : (u v : ℕ) → Near S u v (q * p) (f + e) (f + e) → Near S u v (p * q) (e + f) (e + f)
    turn u v z = record { over = omega (arith, z.over); under = omega (arith, z.under) }

pub sides_differ : (S : ℕ) {A a p e B b q f : ℕ} → Near S A a p e e → Near S B b q f f → B ≤ A → a * q ≤ b * p → distance A B * (p * q) + distance (a * q) (b * p) * S ≤ (e + f) * (p * q)
unfolding distance
sides_differ S {A} {a} {p} {e} {B} {b} {q} {f} x y h k = opposite S A a p B b q e f _ _ x y (down A B h) (up (a * q) (b * p) k)
  where
    down : (s t : ℕ) → t ≤ s → (s - t) + (t - s) + t ≡ s
    down s t l = omega arith

    up : (s t : ℕ) → s ≤ t → (s - t) + (t - s) + s ≡ t
    up s t l = omega arith

pub sides_differ_below : (S : ℕ) {A a p e B b q f : ℕ} → Near S A a p e e → Near S B b q f f → A ≤ B → b * p ≤ a * q → distance A B * (p * q) + distance (a * q) (b * p) * S ≤ (e + f) * (p * q)
sides_differ_below S {A} {a} {p} {e} {B} {b} {q} {f} x y h k = go (distance_comm A B) (distance_comm (a * q) (b * p)) (sides_differ S y x h k)
  where
    go : distance A B ≡ distance B A → distance (a * q) (b * p) ≡ distance (b * p) (a * q) → distance B A * (q * p) + distance (b * p) (a * q) * S ≤ (f + e) * (q * p) → distance A B * (p * q) + distance (a * q) (b * p) * S ≤ (e + f) * (p * q)
    go i j l = rw (i, j) (omega arith)
