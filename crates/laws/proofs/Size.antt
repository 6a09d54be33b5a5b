-- Sizes at powers of two: `Small p q x` (x is at most 2 ^ p / 2 ^ q in size) and `AtLeast p q x`. Each operation keeps such bounds, since what is at most a float rounds to at most that float.
use mathlib.Core.Path.{◌≡◌, refl, sym, ap, ◌∙◌, subst}
use mathlib.Core.Bool.{Bool, true, false, not, ◌||◌, ◌&&◌}
use Prim.Native.Nat.{ℕ, suc, ◌+◌, ◌*◌, ◌-◌, ◌^◌, ◌≤◌, ◌<◌}
use native.Mathlib.Nat.{le_trans, le_of_eq, lt_of_lt_of_le, mul-le-mul, mul-le-mul_right, le_of_mul-le-mul_right, mul-pos, mul-one, one-mul, zero-mul, pow-succ'}
use native.Mathlib.Omega.{arith}
use lib.IntN.{pos}
use lib.Dec.{T, ltb, eqb, eqb→eq, nltb→le, lt→ltb, lit<}
use lib.Pow.{pow_pos, pow-add, pow_mono, pow-lt}
use lib.Ieee.{Float, nan, inf, fin, up, down, binary64, fits, add, sub, mul, div, neg, lt, le, eq, round, unlike}
use lib.Ieee.Exact.{HasValue}
use lib.Ieee.Fits.{neg-fits, round-fits, down_pos, and_l}
use lib.Ieee.Positive.{first_pos}
use lib.Ieee.Scale.{grid, finite}
use Rattle.laws.specs.Size.{Small, AtLeast}
use Rattle.laws.specs.Units.{Units, sign, units_of}
use Rattle.laws.proofs.Bools.{or_left, le_of_test, test_of_le}
use Rattle.laws.proofs.Compare.{le-units, lt-units}
use Rattle.laws.proofs.Error.{in-range, round-value, round-at_most, round-at_least}
use Rattle.laws.proofs.Numbers.{sub-add}
use Rattle.laws.proofs.Units.{own_units, units_are, finite_of_units, mul-units, div-units, neg-units, add_rounding}

pub units_small : {p q : ℕ} {x : Float} → Small p q x → Units x (sign x) (units_of x)
units_small {x = x} h = own_units x h.held h.number

pub units-least : {p q : ℕ} {x : Float} → AtLeast p q x → Units x (sign x) (units_of x)
units-least {x = x} h = own_units x h.held h.number

-- ---- the laws on `round`. 2 ^ p / 2 ^ q is 2 ^ (p + 1074 - q) units
exponent : (p q : ℕ) → q ≤ p + 1074 → 2 ^ p * 2 ^ 1074 ≡ 2 ^ (p + 1074 - q) * 2 ^ q
exponent p q h = sym (pow-add 2 p 1074) ∙ ap (λ i. 2 ^ i) (sub-add (p + 1074) q h) ∙ pow-add 2 (p + 1074 - q) q

power_lt : (p q : ℕ) → p < q + 1024 → q ≤ p + 1074 → 1 * 2 ^ (p + 1074 - q) < 2 ^ 2098
power_lt p q h k = subst (λ t. t < 2 ^ 2098) (sym (one-mul (2 ^ (p + 1074 - q)))) (pow-lt (go p q h k))
  where
    go : (p q : ℕ) → p < q + 1024 → q ≤ p + 1074 → p + 1074 - q < 2098
    go p q h k = omega arith

fine : (p q a c : ℕ) → p < q + 1024 → a * 2 ^ q ≤ 2 ^ p * c → a ≤ c * 2 ^ 1023
fine p q a c h k = le_of_mul-le-mul_right {k = 2 ^ q} (le_trans k (le_trans (mul-le-mul_right c (pow_mono (go p q h))) (le_of_eq (ap (λ t. t * c) (pow-add 2 q 1023) ∙ move (2 ^ q) (2 ^ 1023) c)))) (pow_pos q)
  where
    go : (p q : ℕ) → p < q + 1024 → p ≤ q + 1023
    go p q h = omega arith

    move : (a b c : ℕ) → a * b * c ≡ c * b * a
    move a b c = omega arith

-- a / c against 2 ^ p / 2 ^ q, in units
in-units-over : (a c P Q L I : ℕ) → 0 < Q → P * L ≡ I * Q → a * Q ≤ P * c → a * L ≤ 1 * I * c
in-units-over a c P Q L I Q⁺ e h = le_of_mul-le-mul_right {k = Q} (go (mul-le-mul_right L h) (ap (λ t. t * c) e)) Q⁺
  where
    go : a * Q * L ≤ P * c * L → P * L * c ≡ I * Q * c → a * L * Q ≤ 1 * I * c * Q
    go x y = omega arith

in-units-under : (a c P Q L I : ℕ) → 0 < Q → P * L ≡ I * Q → P * c ≤ a * Q → 1 * I * c ≤ a * L
in-units-under a c P Q L I Q⁺ e h = le_of_mul-le-mul_right {k = Q} (go (mul-le-mul_right L h) (ap (λ t. t * c) e)) Q⁺
  where
    go : P * c * L ≤ a * Q * L → P * L * c ≡ I * Q * c → 1 * I * c * Q ≤ a * L * Q
    go x y = omega arith

module _ (s : Bool) (a c p q : ℕ) (C : 0 < c) (low : q ≤ p + 1074) (high : p < q + 1024) where
  pub round-small : a * 2 ^ q ≤ 2 ^ p * c → Small p q (round binary64 s a c)
  round-small l =
      let r = in-range a c C (fine p q a c high l) in
      let v = round-value s a c r in
      let i = p + 1074 - q in
      let b = round-at_most a c C 1 i (lit< tt) (power_lt p q high low) r (in-units-over a c (2 ^ p) (2 ^ q) (2 ^ 1074) (2 ^ i) (pow_pos q) (exponent p q low) l) in
      record {
        held = round-fits binary64 s a c;
        number = (finite_of_units (round binary64 s a c) s (grid binary64 a c) v).0;
        most = subst (λ u. u * 2 ^ q ≤ 2 ^ p * 2 ^ 1074) (sym (units_are (round binary64 s a c) s (grid binary64 a c) v)) (le_trans (mul-le-mul_right (2 ^ q) b) (le_of_eq (ap (λ t. t * 2 ^ q) (one-mul (2 ^ i)) ∙ sym (exponent p q low))));
      }

  pub round-least : a ≤ c * 2 ^ 1023 → 2 ^ p * c ≤ a * 2 ^ q → AtLeast p q (round binary64 s a c)
  round-least range l =
      let r = in-range a c C range in
      let v = round-value s a c r in
      let i = p + 1074 - q in
      let b = round-at_least a c C 1 i (lit< tt) (power_lt p q high low) r (in-units-under a c (2 ^ p) (2 ^ q) (2 ^ 1074) (2 ^ i) (pow_pos q) (exponent p q low) l) in
      record {
        held = round-fits binary64 s a c;
        number = (finite_of_units (round binary64 s a c) s (grid binary64 a c) v).0;
        least = subst (λ u. 2 ^ p * 2 ^ 1074 ≤ u * 2 ^ q) (sym (units_are (round binary64 s a c) s (grid binary64 a c) v)) (le_trans (le_of_eq (exponent p q low ∙ ap (λ t. t * 2 ^ q) (sym (one-mul (2 ^ i))))) (mul-le-mul_right (2 ^ q) b));
      }

-- ---- to a larger bound
pub weaken : {p q : ℕ} {x : Float} (r t : ℕ) → p + t ≤ r + q → Small p q x → Small r t x
weaken {p} {q} {x} r t h s = record { held = s.held; number = s.number; most = le_of_mul-le-mul_right {k = 2 ^ q} (go (units_of x) (2 ^ p) (2 ^ q) (2 ^ r) (2 ^ t) (2 ^ 1074) s.most (subst (λ k. k ≤ 2 ^ r * 2 ^ q) (pow-add 2 p t) (subst (λ k. 2 ^ (p + t) ≤ k) (pow-add 2 r q) (pow_mono h)))) (pow_pos q) }
  where
    go : (u P Q R S L : ℕ) → u * Q ≤ P * L → P * S ≤ R * Q → u * S * Q ≤ R * L * Q
    go u P Q R S L a b = omega (arith, mul-le-mul_right S a, mul-le-mul_right L b)

-- ---- the operations
product_over : (u v P Q R S L : ℕ) → u * Q ≤ P * L → v * S ≤ R * L → u * v * (Q * S) ≤ P * R * (L * L)
product_over u v P Q R S L a b = last (mul-le-mul a b)
  where
    last : u * Q * (v * S) ≤ P * L * (R * L) → u * v * (Q * S) ≤ P * R * (L * L)
    last k = omega (arith, k)

product_under : (u v P Q R S L : ℕ) → P * L ≤ u * Q → R * L ≤ v * S → P * R * (L * L) ≤ u * v * (Q * S)
product_under u v P Q R S L a b = last (mul-le-mul a b)
  where
    last : P * L * (R * L) ≤ u * Q * (v * S) → P * R * (L * L) ≤ u * v * (Q * S)
    last k = omega (arith, k)

pub mul_small : {p q r t : ℕ} {x y : Float} → q + t ≤ p + r + 1074 → p + r < q + t + 1024 → Small p q x → Small r t y → Small (p + r) (q + t) (mul binary64 x y)
mul_small {p} {q} {r} {t} {x} {y} h k a b =
    subst (Small (p + r) (q + t)) (sym (mul-units x y (sign x) (sign y) (units_of x) (units_of y) (units_small a) (units_small b)))
    (round-small (unlike (sign x) (sign y)) (units_of x * units_of y) (2 ^ 1074 * 2 ^ 1074) (p + r) (q + t) (mul-pos (pow_pos 1074) (pow_pos 1074)) h k
    (rw (pow-add 2 q t, pow-add 2 p r) (product_over (units_of x) (units_of y) (2 ^ p) (2 ^ q) (2 ^ r) (2 ^ t) (2 ^ 1074) a.most b.most)))

pub mul-least : {p q r t i j k l : ℕ} {x y : Float} → q + t ≤ p + r + 1074 → p + r < q + t + 1024 → i + k < j + l + 1024 → AtLeast p q x → AtLeast r t y → Small i j x → Small k l y → AtLeast (p + r) (q + t) (mul binary64 x y)
mul-least {p} {q} {r} {t} {i} {j} {k} {l} {x} {y} g h e a b c d =
    subst (AtLeast (p + r) (q + t)) (sym (mul-units x y (sign x) (sign y) (units_of x) (units_of y) (units_small c) (units_small d)))
    (round-least (unlike (sign x) (sign y)) (units_of x * units_of y) (2 ^ 1074 * 2 ^ 1074) (p + r) (q + t) (mul-pos (pow_pos 1074) (pow_pos 1074)) g h
    (fine (i + k) (j + l) (units_of x * units_of y) (2 ^ 1074 * 2 ^ 1074) e (rw (pow-add 2 j l, pow-add 2 i k) (product_over (units_of x) (units_of y) (2 ^ i) (2 ^ j) (2 ^ k) (2 ^ l) (2 ^ 1074) c.most d.most)))
    (rw (pow-add 2 q t, pow-add 2 p r) (product_under (units_of x) (units_of y) (2 ^ p) (2 ^ q) (2 ^ r) (2 ^ t) (2 ^ 1074) a.least b.least)))

pub add_small : {p q : ℕ} {x y : Float} → q ≤ suc p + 1074 → suc p < q + 1024 → Small p q x → Small p q y → Small (suc p) q (add binary64 x y)
add_small {p} {q} {x} {y} h k a b =
    let w = add_rounding x y (sign x) (sign y) (units_of x) (units_of y) (units_small a) (units_small b) in
    subst (Small (suc p) q) (sym w.is) (round-small w.s w.n (2 ^ 1074) (suc p) q (pow_pos 1074) h k
    (rw (pow-succ' 2 p) (go (units_of x) (units_of y) w.n (2 ^ p) (2 ^ q) (2 ^ 1074) a.most b.most w.few)))
  where
    go : (u v n P Q L : ℕ) → u * Q ≤ P * L → v * Q ≤ P * L → n ≤ u + v → n * Q ≤ 2 * P * L
    go u v n P Q L a b h = omega (arith, mul-le-mul_right Q h)

pub neg_small : {p q : ℕ} {x : Float} → Small p q x → Small p q (neg x)
neg_small {p} {q} {x} a =
    let v = neg-units x (sign x) (units_of x) (units_small a) in
    record { held = neg-fits binary64 x a.held; number = (finite_of_units (neg x) (not (sign x)) (units_of x) v).0; most = subst (λ u. u * 2 ^ q ≤ 2 ^ p * 2 ^ 1074) (sym (units_are (neg x) (not (sign x)) (units_of x) v)) a.most }

pub sub_small : {p q : ℕ} {x y : Float} → q ≤ suc p + 1074 → suc p < q + 1024 → Small p q x → Small p q y → Small (suc p) q (sub binary64 x y)
unfolding sub
sub_small h k a b = add_small h k a (neg_small b)

pub div-small : {p q r t : ℕ} {x y : Float} → q + r ≤ p + t + 1074 → p + t < q + r + 1024 → Small p q x → AtLeast r t y → Small (p + t) (q + r) (div binary64 x y)
div-small {p} {q} {r} {t} {x} {y} h k a b =
    let B : 0 < units_of y = first_pos (units_of y) (2 ^ t) (lt_of_lt_of_le (mul-pos (pow_pos r) (pow_pos 1074)) b.least) in
    subst (Small (p + t) (q + r)) (sym (div-units x y (sign x) (sign y) (units_of x) (units_of y) B (units_small a) (units-least b)))
    (round-small (unlike (sign x) (sign y)) (units_of x) (units_of y) (p + t) (q + r) B h k
    (rw (pow-add 2 q r, pow-add 2 p t) (go (units_of x) (units_of y) (2 ^ p) (2 ^ q) (2 ^ r) (2 ^ t) (2 ^ 1074) (pow_pos 1074) a.most b.least)))
  where
    go : (u v P Q R S L : ℕ) → 0 < L → u * Q ≤ P * L → R * L ≤ v * S → u * (Q * R) ≤ P * S * v
    go u v P Q R S L L⁺ a b = le_of_mul-le-mul_right {k = L} (last (mul-le-mul_right (R * L) a) (mul-le-mul_right (P * L) b)) L⁺
      where
        last : u * Q * (R * L) ≤ P * L * (R * L) → R * L * (P * L) ≤ v * S * (P * L) → u * (Q * R) * L ≤ P * S * v * L
        last x y = omega arith

-- ---- from a value a / c
in-own-units : (u d n a c L : ℕ) → u * L ≡ n * d → u * c ≡ a * d → n * d * c ≡ a * L * d
in-own-units u d n a c L h k = omega (arith, ap (λ t. t * c) h, ap (λ t. t * L) k)

pub small_of_value : (x : Float) (s : Bool) (a c p q : ℕ) → T (fits binary64 x) → 0 < c → HasValue x s a c → a * 2 ^ q ≤ 2 ^ p * c → Small p q x
small_of_value nan s a c p q t C v h = absurd v
small_of_value (inf r) s a c p q t C v h = absurd v
small_of_value (fin r m e) s a c p q t C v h = record { held = t; number = tt; most = le_of_mul-le-mul_right {k = c * down e} (go (m * up e) (down e) (units_of (fin r m e)) (2 ^ 1074) (2 ^ p) (2 ^ q) (own_units (fin r m e) t tt).1 v.1 h) (mul-pos C (down_pos e)) }
  where
    go : (u d n L P Q : ℕ) → u * L ≡ n * d → u * c ≡ a * d → a * Q ≤ P * c → n * Q * (c * d) ≤ P * L * (c * d)
    go u d n L P Q f g k = last (ap (λ z. z * Q) (in-own-units u d n a c L f g)) (mul-le-mul_right (L * d) k)
      where
        last : n * d * c * Q ≡ a * L * d * Q → a * Q * (L * d) ≤ P * c * (L * d) → n * Q * (c * d) ≤ P * L * (c * d)
        last x y = omega arith

pub least_of_value : (x : Float) (s : Bool) (a c p q : ℕ) → T (fits binary64 x) → 0 < c → HasValue x s a c → 2 ^ p * c ≤ a * 2 ^ q → AtLeast p q x
least_of_value nan s a c p q t C v h = absurd v
least_of_value (inf r) s a c p q t C v h = absurd v
least_of_value (fin r m e) s a c p q t C v h = record { held = t; number = tt; least = le_of_mul-le-mul_right {k = c * down e} (go (m * up e) (down e) (units_of (fin r m e)) (2 ^ 1074) (2 ^ p) (2 ^ q) (own_units (fin r m e) t tt).1 v.1 h) (mul-pos C (down_pos e)) }
  where
    go : (u d n L P Q : ℕ) → u * L ≡ n * d → u * c ≡ a * d → P * c ≤ a * Q → P * L * (c * d) ≤ n * Q * (c * d)
    go u d n L P Q f g k = last (ap (λ z. z * Q) (in-own-units u d n a c L f g)) (mul-le-mul_right (L * d) k)
      where
        last : n * d * c * Q ≡ a * L * d * Q → P * c * (L * d) ≤ a * Q * (L * d) → P * L * (c * d) ≤ n * Q * (c * d)
        last x y = omega arith

-- ---- from tests, and to them
-- what is at least 0 and at most y, of b units, is at most b units in size
pub at_most-units : (x y : Float) (b : ℕ) → T (fits binary64 x) → Units y false b → T (le (fin false 0 (pos 0)) x) → T (le x y) → T (finite x) × (units_of x ≤ b)
at_most-units nan y b t v l h = absurd (unfold le in unfold lt in unfold eq in l)
at_most-units (inf true) y b t v l h = absurd (unfold le in unfold lt in unfold eq in l)
at_most-units (inf false) nan b t v l h = absurd v
at_most-units (inf false) (inf r) b t v l h = absurd v
at_most-units (inf false) (fin r n d) b t v l h = absurd (unfold le in unfold lt in unfold eq in h)
at_most-units (fin false m e) y b t v l h = (tt, le_of_test (units_of (fin false m e)) b (subst T (le-units (fin false m e) y (units_of (fin false m e)) b (own_units (fin false m e) t tt) v) h))
at_most-units (fin true m e) y b t v l h = (tt, go (own_units (fin true m e) t tt).1)
  where
    none : m * up e ≡ 0
    none = let k : T (eqb (0 * 1 * down e) (m * up e * 1) && (false || eqb (0 * 1 * down e) 0)) = (unfold le in unfold lt in unfold eq in l) in
        last (m * up e) (down e) (eqb→eq (0 * 1 * down e) (m * up e * 1) (and_l (eqb (0 * 1 * down e) (m * up e * 1)) (false || eqb (0 * 1 * down e) 0) k))
      where
        last : (u d : ℕ) → 0 * 1 * d ≡ u * 1 → u ≡ 0
        last u d e = omega arith

    go : m * up e * 2 ^ 1074 ≡ units_of (fin true m e) * down e → units_of (fin true m e) ≤ b
    go k = le_of_mul-le-mul_right {k = down e} (zeros (units_of (fin true m e) * down e) (b * down e) (sym k ∙ ap (λ u. u * 2 ^ 1074) none ∙ zero-mul (2 ^ 1074))) (down_pos e)
      where
        zeros : (u w : ℕ) → u ≡ 0 → u ≤ w
        zeros u w e = omega arith

pub small_of_tests : (x y : Float) (b p : ℕ) → T (fits binary64 x) → Units y false b → b ≤ 2 ^ p * 2 ^ 1074 → T (le (fin false 0 (pos 0)) x) → T (le x y) → Small p 0 x
small_of_tests x y b p t v h l k = let w = at_most-units x y b t v l k in record { held = t; number = w.0; most = le_trans (le_of_eq (mul-one (units_of x))) (le_trans w.1 h) }

-- not below y, of b units, and with its sign clear
pub least_of_test : (x y : Float) (a b q : ℕ) → T (fits binary64 x) → Units x false a → Units y false b → 2 ^ 1074 ≤ b * 2 ^ q → lt x y ≡ false → AtLeast 0 q x
least_of_test x y a b q t v w h l =
    record { held = t; number = (finite_of_units x false a v).0; least = subst (λ u. 2 ^ 0 * 2 ^ 1074 ≤ u * 2 ^ q) (sym (units_are x false a v)) (le_trans (le_of_eq (one-mul (2 ^ 1074))) (le_trans h (mul-le-mul_right (2 ^ q) (nltb→le a b (subst (λ c. T (not c)) (sym l ∙ lt-units x y a b v w) tt))))) }

-- what is small passes the test at the power of two
pub test_of_small : (p : ℕ) (x : Float) → Small p 0 x → T (le x (fin false 1 (pos p)))
test_of_small p nan s = absurd s.number
test_of_small p (inf r) s = absurd s.number
test_of_small p (fin false m e) s =
    subst T (sym (le-units (fin false m e) (fin false 1 (pos p)) (units_of (fin false m e)) (2 ^ p * 2 ^ 1074) (units_small s) (refl, power (2 ^ p) (2 ^ 1074))))
    (test_of_le (units_of (fin false m e)) (2 ^ p * 2 ^ 1074) (le_trans (le_of_eq (sym (mul-one (units_of (fin false m e))))) s.most))
  where
    power : (P L : ℕ) → 1 * P * L ≡ P * L * 1
    power P L = omega arith
test_of_small p (fin true m e) s = unfold le in unfold lt in unfold eq in or_left (ltb 0 (m * up e * 1 + 1 * 2 ^ p * down e)) (eqb (m * up e * 1) (1 * 2 ^ p * down e) && (false || eqb (m * up e * 1) 0)) (lt→ltb 0 (m * up e * 1 + 1 * 2 ^ p * down e) (some (m * up e) (2 ^ p) (down e) (mul-pos (pow_pos p) (down_pos e))))
  where
    some : (u P d : ℕ) → 0 < P * d → 0 < u * 1 + 1 * P * d
    some u P d h = omega arith
