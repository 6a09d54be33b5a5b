-- The arcsine of an f64: what its code owes, and that it is enclosed as document 01 asks.
use Rattle.std.proofs.Common.{◌≡◌, ℕ, ◌+◌, ◌-◌, ◌*◌, ◌/◌, ◌^◌, ◌<◌, ◌≤◌, Bool, true, false, cond, not, ◌&&◌, T, ltb, leb, sym, refl, ap, ◌∙◌, subst, inl, inr, true≢false, le_trans, lt_of_le_of_lt, le_of_lt, mul-le-mul_right, mul-le-mul, le_of_mul-le-mul_right, mul-div_cancel, arith, lit<, lit≤, lt→ltb, leb→le, pow_pos, pow_mono, pow-add}
use native.Mathlib.Nat.{div-le_of_le-mul}
use lib.Dec.{nleb→lt}
use lib.Ieee.{Float, nan, inf, fin, binary64, fits, round, lt, le, eq, below, is_nan, of_bits}
use lib.Ieee.Bits.{is_true}
use lib.Ieee.Fits.{round-fits, and_i, and_l, and_r}
use lib.Ieee.Scale.{finite}
use Rattle.laws.specs.Units.{Units, sign, units_of}
use Rattle.laws.proofs.Bools.{holds, fails, and-false, test_of_le}
use Rattle.laws.proofs.Compare.{lt-units-signed, le-units}
use Rattle.laws.proofs.Exact.{finite_of_value, value-units, round_power}
use Rattle.laws.proofs.Numbers.{sub-add}
use Rattle.laws.proofs.Order.{lt_trans, le_of_lt_float, le_trans_float, le-or-lt}
use Rattle.laws.proofs.Size.{at_most-units}
use Rattle.laws.proofs.Units.{Form, form, own_units}
use Rattle.math.specs.Sign.{abs}
use Rattle.math.proofs.Sign.{abs-units}
use Rattle.trigonometry.specs.Angle.{half_pi, whole}
use Rattle.trigonometry.specs.Taylor.{sine_divisors}
use Rattle.trigonometry.specs.Units.{horner, square, sine_units}
use Rattle.trigonometry.specs.Sine.{tiny, scaled}
use Rattle.trigonometry.specs.Sine as circular
use Rattle.grid.specs.Grid.{last_step, sine_step}
use Rattle.grid.specs.Arcsine.{half_pi_steps, arcsine_units}
use Rattle.grid.specs.Enclosure.{IsArcsine}
use Rattle.grid.proofs.Arcsines.{is_arcsine}
use Rattle.grid.proofs.Rescaling.{same_arcsine}
use Rattle.grid.proofs.Scaling.{arcsine_most}
use Rattle.grid.proofs.Surrounding.{arcsine_surrounded, small_surrounded}
use Rattle.inverse_trigonometry.specs.Asin.{zero, one, in_domain, asin, Encloses, IsAsin}

-- ---- the domain
pub in-domain : (x : Float) → T (fits binary64 x) → T (in_domain x) → T (finite x) × (units_of x ≤ 2 ^ 1074)
unfolding in_domain
in-domain x t d = at_most-units x one (2 ^ 1074) t (unfold of_bits in (refl, refl)) (unfold of_bits in and_l (le zero x) (le x one) d) (and_r (le zero x) (le x one) d)

lower : (x : Float) → T (in_domain x) → T (le zero x)
unfolding in_domain
lower x d = and_l (le zero x) (le x one) d

-- what is at least 2 ^ -17 is positive
pub positive : (x : Float) → T (fits binary64 x) → T (finite x) → lt x tiny ≡ false → sign x ≡ false
positive x t f h = go (sign x) refl
  where
    go : (s : Bool) → sign x ≡ s → s ≡ false
    go false e = refl
    go true e = absurd (true≢false (sym (lt-units-signed x tiny true false (units_of x) (2 ^ 1057) (subst (λ s. Units x s (units_of x)) e (own_units x t f)) (unfold of_bits in (refl, refl)) ∙ above (units_of x)) ∙ h))
      where
        above : (n : ℕ) → below true n false (2 ^ 1057) ≡ true
        above n = is_true (ltb 0 (n + 2 ^ 1057)) (lt→ltb 0 (n + 2 ^ 1057) (more n (2 ^ 1057) (pow_pos 1057)))
          where
            more : (n k : ℕ) → 0 < k → 0 < n + k
            more n k h = omega arith

below_tiny : (x : Float) → T (fits binary64 x) → T (le zero x) → lt x tiny ≡ true → T (finite x) × (units_of x ≤ 2 ^ 1057)
below_tiny x t l h = at_most-units x tiny (2 ^ 1057) t (unfold of_bits in (refl, refl)) (unfold of_bits in l) (le_of_lt_float x tiny (holds h))

tiny_inside : (x : Float) → le zero x ≡ true → lt x tiny ≡ true → in_domain x ≡ true
unfolding in_domain
tiny_inside x l h = is_true (le zero x && le x one) (and_i (le zero x) (le x one) (holds l) (le_of_lt_float x one (lt_trans x tiny one (holds h) (unfold lt of_bits in tt))))

-- ---- from 1 / 2 on the units are exact
exact : (q j : ℕ) → q < 2 ^ 53 → 2 ^ 57 ≤ q * 2 ^ j * 2 ^ 58 / 2 ^ 1074 → q * 2 ^ j * 2 ^ 58 / 2 ^ 1074 * 2 ^ 1074 ≡ q * 2 ^ j * 2 ^ 58
exact q j h k = go (leb 1016 j) (leb→le 1016 j) (nleb→lt 1016 j)
  where
    large : 1016 ≤ j → q * 2 ^ j * 2 ^ 58 ≡ q * 2 ^ (j - 1016) * 2 ^ 1074
    large l = ap (λ z. q * z * 2 ^ 58) (ap (λ z. 2 ^ z) (sub-add j 1016 l) ∙ pow-add 2 (j - 1016) 1016) ∙ regroup (2 ^ (j - 1016)) (2 ^ 1016) (2 ^ 1074) refl
      where
        regroup : (i b L : ℕ) → L ≡ b * 2 ^ 58 → q * (i * b) * 2 ^ 58 ≡ q * i * L
        regroup i b L e = omega (arith, ap (λ z. q * i * z) e)

    small : j < 1016 → q * 2 ^ j * 2 ^ 58 / 2 ^ 1074 ≤ 2 ^ 53
    small l = div-le_of_le-mul (2 ^ 1074) (few (2 ^ j) (2 ^ 1016) (2 ^ 1074) (pow_mono (le_of_lt l)) refl)
      where
        few : (i b L : ℕ) → i ≤ b → L ≡ b * 2 ^ 58 → q * i * 2 ^ 58 ≤ L * 2 ^ 53
        few i b L a e = omega (arith, mul-le-mul (le_of_lt h) a)

    go : (b : Bool) → (T b → 1016 ≤ j) → (T (not b) → j < 1016) → q * 2 ^ j * 2 ^ 58 / 2 ^ 1074 * 2 ^ 1074 ≡ q * 2 ^ j * 2 ^ 58
    go true f g = ap (λ z. z / 2 ^ 1074 * 2 ^ 1074) (large (f tt)) ∙ ap (λ z. z * 2 ^ 1074) (mul-div_cancel (q * 2 ^ (j - 1016)) (pow_pos 1074)) ∙ sym (large (f tt))
    go false f g = absurd (never (q * 2 ^ j * 2 ^ 58 / 2 ^ 1074) k (small (g tt)))
      where
        never : (z : ℕ) → 2 ^ 57 ≤ z → z ≤ 2 ^ 53 → ⊥
        never z a b = omega arith

half_of_last : 2 ^ 57 ≤ sine_step last_step
unfolding sine_step sine_units square horner sine_divisors
half_of_last = lit≤ tt

exact_units : (x : Float) → T (fits binary64 x) → T (finite x) → sine_step last_step ≤ units_of x * 2 ^ 58 / 2 ^ 1074 → units_of x * 2 ^ 58 / 2 ^ 1074 * 2 ^ 1074 ≡ units_of x * 2 ^ 58
exact_units x t f h = subst (λ n. n * 2 ^ 58 / 2 ^ 1074 * 2 ^ 1074 ≡ n * 2 ^ 58) (sym o.is) (exact o.q o.j o.few (subst (λ n. 2 ^ 57 ≤ n * 2 ^ 58 / 2 ^ 1074) o.is (le_trans half_of_last h)))
  where
    o : Form x
    o = form x t f

-- ---- the answer
units-few : (n : ℕ) → arcsine_units n < 2 ^ 53
units-few n = lt_of_le_of_lt (arcsine_most n) (lit< tt)

not_negative : (y : Float) → T (fits binary64 y) → T (finite y) → sign y ≡ false → T (le zero y)
not_negative y t f s = subst T (sym (le-units zero y 0 (units_of y) (unfold of_bits in (refl, refl)) (subst (λ b. Units y b (units_of y)) s (own_units y t f)))) (test_of_le 0 (units_of y) (from_zero (units_of y)))
  where
    from_zero : (n : ℕ) → 0 ≤ n
    from_zero n = omega arith

tiny_encloses : (x : Float) → T (fits binary64 x) → T (le zero x) → lt x tiny ≡ true → Encloses x x
tiny_encloses x t l h = let k = below_tiny x t l h in record { held = t; number = k.0; least = l; most = most (units_of x) (2 ^ 1057) (2 ^ 1074) whole half_pi k.1 (lit≤ tt) (lit≤ tt); enclosed = is_arcsine (units_of x) (2 ^ 1074) (units_of x) (2 ^ 1074) (small_surrounded (units_of x) (2 ^ 1074) (pow_pos 1074) (le_trans (mul-le-mul_right (2 ^ 17) k.1) (lit≤ tt))) }
  where
    most : (n k L w p : ℕ) → n ≤ k → k ≤ L → w ≤ p → n * w ≤ p * L
    most n k L w p a b c = omega (arith, mul-le-mul (le_trans a b) c)

round_encloses : (x : Float) → T (fits binary64 x) → T (finite x) → units_of x ≤ 2 ^ 1074 → Encloses x (round binary64 false (arcsine_units (scaled x)) (2 ^ 52))
unfolding scaled
round_encloses x t f l = made (arcsine_units X) (units-few X) (arcsine_most X) (is_arcsine (arcsine_units X) (2 ^ 52) (units_of x) (2 ^ 1074) (arcsine_surrounded (units_of x) (2 ^ 1074) (pow_pos 1074) l (exact_units x t f)))
  where
    X : ℕ
    X = units_of x * 2 ^ 58 / 2 ^ 1074

    made : (n : ℕ) → n < 2 ^ 53 → n ≤ 8 * half_pi_steps → IsArcsine n (2 ^ 52) (units_of x) (2 ^ 1074) → Encloses x (round binary64 false n (2 ^ 52))
    made n h m r =
        let y = round binary64 false n (2 ^ 52) in
        let v = round_power false n 52 h (lit≤ tt) in
        let u = value-units y false n (2 ^ 52) (round-fits binary64 false n (2 ^ 52)) v in
        let g = finite_of_value y false n (2 ^ 52) v in
        record {
          held = round-fits binary64 false n (2 ^ 52);
          number = g.0;
          least = not_negative y (round-fits binary64 false n (2 ^ 52)) g.0 g.1;
          most = most (units_of y) (2 ^ 1074) whole half_pi u (lit≤ tt);
          enclosed = same_arcsine n (2 ^ 52) (units_of y) (2 ^ 1074) (lit< tt) u (units_of x) (2 ^ 1074) r;
        }
      where
        most : (u L w p : ℕ) → u * 2 ^ 52 ≡ n * L → 8 * half_pi_steps * w ≤ p * 2 ^ 52 → u * w ≤ p * L
        most u L w p e k = le_of_mul-le-mul_right {k = 2 ^ 52} (go (8 * half_pi_steps) m k) (lit< tt)
          where
            go : (P : ℕ) → n ≤ P → P * w ≤ p * 2 ^ 52 → u * w * 2 ^ 52 ≤ p * L * 2 ^ 52
            go P a b = omega (arith, ap (λ z. z * w) e, mul-le-mul_right (L * w) a, mul-le-mul_right L b)

pub arcsine_is : (x : Float) → T (fits binary64 x) → IsAsin x (asin x)
unfolding asin
arcsine_is x t = record { inside = λ d. go (in_domain x) refl d (lt x tiny) refl; outside = λ d. none (in_domain x) d }
  where
    answer : Float
    answer = round binary64 false (arcsine_units (scaled x)) (2 ^ 52)

    go : (c : Bool) → in_domain x ≡ c → T c → (b : Bool) → lt x tiny ≡ b → Encloses x (cond c (cond b x answer) nan)
    go true e d true h = tiny_encloses x t (lower x (holds e)) h
    go true e d false h = let k = in-domain x t (holds e) in round_encloses x t k.0 k.1
    go false e d b h = elim d [ ]

    none : (c : Bool) → T (not c) → cond c (cond (lt x tiny) x answer) nan ≡ nan
    none false d = refl
    none true d = elim d [ ]

-- ---- what the code owes
at_least : (x : Float) → lt x tiny ≡ false → le x one ≡ true → le zero x ≡ true
at_least x h k = is_true (le zero x) (elim (le-or-lt tiny x (unfold is_nan of_bits in tt) (number x one k)) [ inl g ↦ le_trans_float zero tiny x (unfold le lt of_bits in tt) g | inr g ↦ absurd (fails h g) ])
  where
    number : (x y : Float) → le x y ≡ true → T (not (is_nan x))
    number nan y e = absurd (unfold le lt eq in holds e)
    number (inf s) y e = unfold is_nan in tt
    number (fin s m e) y f = unfold is_nan in tt

pub asks_units : (x : Float) → T (fits binary64 x) → lt x tiny ≡ false → le x one ≡ true → T (circular.in_domain x) × (sign x ≡ false)
unfolding circular.in_domain in_domain
asks_units x t h k =
    let d = in-domain x t (and_i (le zero x) (le x one) (holds (at_least x h k)) (holds k)) in
    (subst T (sym (le-units (abs x) circular.largest (units_of x) (16 * 2 ^ 1074) (abs-units x (sign x) (units_of x) (own_units x t d.0)) (unfold of_bits in (refl, refl)))) (test_of_le (units_of x) (16 * 2 ^ 1074) (le_trans d.1 (lit≤ tt))), positive x t d.0 h)

pub answer_tiny : (x : Float) → lt x tiny ≡ true → le zero x ≡ true → x ≡ asin x
unfolding asin
answer_tiny x h l = rw (tiny_inside x l h, h) refl

pub answer_negative : (x : Float) → le zero x ≡ false → nan ≡ asin x
unfolding asin in_domain
answer_negative x l = rw l refl

pub answer_inside : (x y : Float) (n u : ℕ) → lt x tiny ≡ false → le x one ≡ true → n ≡ scaled x → u ≡ arcsine_units n → y ≡ round binary64 false u (2 ^ 52) → y ≡ asin x
unfolding asin in_domain
answer_inside x y n u h k e f g = rw (at_least x h k, h, k) (g ∙ ap (λ u. round binary64 false u (2 ^ 52)) (f ∙ ap arcsine_units e))

pub answer_above : (x : Float) → le x one ≡ false → nan ≡ asin x
unfolding asin in_domain
answer_above x k = rw (k, and-false (le zero x)) refl
