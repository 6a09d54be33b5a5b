-- Sine and cosine are within 2 ^ -48 of the exact sums.
--
-- The budget in units of 2 ^ -58, of which 2 ^ -48 has 1024: 23 for the sums of the reduced angle (Reduced.antt) and 16 for the rounding to 2 ^ -53. An angle of 2 ^ -6 and more is a whole number of units, so that the multiple of half pi nearest to the units is the one nearest to the angle; below 2 ^ -5 both are 0. The sine of an angle x below 2 ^ -17 is x itself, at most x³ / 6 off.
use Rattle.std.proofs.Common.{◌≡◌, ℕ, ◌+◌, ◌-◌, ◌*◌, ◌/◌, ◌^◌, ◌<◌, ◌≤◌, Bool, true, false, cond, not, ◌&&◌, T, ltb, leb, ◌⊎◌, List, [], ◌∷◌, sym, refl, ap, ◌∙◌, subst, inl, inr, le_trans, le_of_lt, mul-le-mul_right, mul-le-mul, eq-or-lt_of_le, mul-le-mul_left, div-mul-le_self, mul-div_cancel, arith, lit<, lit≤, ltb→lt, leb→le, pow_pos, pow-add}
use native.Mathlib.Nat.{lt-div-mul-add, div-le_of_le-mul, eq_of_mul-eq-mul_right, le_of_mul-le-mul_left}
use lib.Dec.{nleb→lt}
use lib.Pow.{pow-lt}
use lib.Ieee.{Float, nan, inf, fin, binary64, fits, round, lt, unlike, of_bits}
use lib.Ieee.Bits.{is_true}
use lib.Ieee.Exact.{HasValue, round_exact}
use lib.Ieee.Fits.{round-fits}
use lib.Ieee.Scale.{finite}
use Rattle.laws.specs.Units.{sign, units_of}
use Rattle.laws.proofs.Bools.{holds, refuted}
use Rattle.laws.proofs.Compare.{lt-units}
use Rattle.laws.proofs.Exact.{finite_of_value, value-units, round_power}
use Rattle.laws.proofs.Numbers.{sub-add}
use Rattle.laws.proofs.Order.{lt_trans, le_of_lt_float}
use Rattle.laws.proofs.Units.{form, own_units}
use Rattle.math.specs.Sign.{abs}
use Rattle.math.proofs.Sign.{at_most_size}
use Rattle.trigonometry.specs.Angle.{whole, distance, quarters, NearestMultiple, Signed, negative, even, reduced, turned, negated, sine_sum, cosine_sum, gap, Close}
use Rattle.trigonometry.specs.Taylor.{num, den, sine_divisors, sine_num, sine_den}
use Rattle.trigonometry.specs.Units.{one, turned_minus, turned_units}
use Rattle.trigonometry.proofs.Near.{Near}
use Rattle.trigonometry.proofs.Horner.{num-le-den}
use Rattle.trigonometry.proofs.Reduction.{quarters-nearest, quarters_same, quarters-between, quarters-few}
use Rattle.trigonometry.proofs.Reduced.{Reduced, reduced_by_units, turned_close, turned_most, negated_close, gap_same, sine_proper}
use Rattle.trigonometry.specs.Sine.{largest, tiny, in_domain, scaled, from_units, sin, cos, sine_of, cosine_of, Value, IsSine, IsCosine}

-- ---- the domain
pub in-domain : (x : Float) → T (fits binary64 x) → T (in_domain x) → T (finite x) × (units_of x ≤ 16 * 2 ^ 1074)
unfolding in_domain
in-domain x t d = at_most_size x largest (16 * 2 ^ 1074) t (unfold of_bits in (refl, refl)) d

-- ---- from units to an f64
rounded_value : (s : Bool) (v : ℕ) → v ≤ 2 ^ 53 → HasValue (round binary64 s v (2 ^ 53)) s v (2 ^ 53)
rounded_value s v h = go (eq-or-lt_of_le h)
  where
    go : (v ≡ 2 ^ 53) ⊎ (v < 2 ^ 53) → HasValue (round binary64 s v (2 ^ 53)) s v (2 ^ 53)
    go (inl e) = subst (λ n. HasValue (round binary64 s n (2 ^ 53)) s n (2 ^ 53)) (sym e) (round_exact binary64 s (2 ^ 53) (2 ^ 53) 1 1074 (lit< tt) (lit< tt) (lit< tt) refl)
    go (inr l) = round_power s v 53 l (lit≤ tt)

rounding_gap : (s t : Bool) (p v D M : ℕ) → v ≡ (p + 16) / 32 → gap s (p * D) t (32 * M) ≤ 23 * D → gap s (v * D) t M ≤ 2 * D
unfolding gap distance
rounding_gap s t p v D M e h = go s t (mul-le-mul_right D lo) (mul-le-mul_right D hi) h
  where
    lo : 32 * v ≤ p + 16
    lo = omega arith

    hi : p ≤ 32 * v + 15
    hi = omega arith

    go : (s t : Bool) → 32 * v * D ≤ (p + 16) * D → p * D ≤ (32 * v + 15) * D → gap s (p * D) t (32 * M) ≤ 23 * D → gap s (v * D) t M ≤ 2 * D
    go true true f g k = omega arith
    go true false f g k = omega arith
    go false true f g k = omega arith
    go false false f g k = omega arith

gap_times : (s t : Bool) (a b K : ℕ) → gap s (a * K) t (b * K) ≡ gap s a t b * K
unfolding gap distance
gap_times s t a b K = go s t
  where
    minus : (a b : ℕ) → a * K - b * K ≡ (a - b) * K
    minus a b = sym (Rattle.laws.proofs.Numbers.sub-mul a b K)

    plus : (a b c d : ℕ) → c ≡ a * K → d ≡ b * K → c + d ≡ (a + b) * K
    plus a b c d e f = omega arith

    go : (s t : Bool) → gap s (a * K) t (b * K) ≡ gap s a t b * K
    go true true = plus (a - b) (b - a) _ _ (minus a b) (minus b a)
    go true false = plus a b _ _ refl refl
    go false true = plus a b _ _ refl refl
    go false false = plus (a - b) (b - a) _ _ (minus a b) (minus b a)

pub from_units_lem : (s : Bool) (p : ℕ) (f : Signed) → p ≤ one → Close one s p f 23 → Value f (from_units s p)
unfolding from_units
from_units_lem s p f h c = made y ((p + 16) / 32) (few p h) refl (round-fits binary64 s ((p + 16) / 32) (2 ^ 53)) (rounded_value s ((p + 16) / 32) (few p h))
  where
    y : Float
    y = round binary64 s ((p + 16) / 32) (2 ^ 53)

    few : (p : ℕ) → p ≤ 2 ^ 58 → (p + 16) / 32 ≤ 2 ^ 53
    few p h = omega arith

    made : (y : Float) (v : ℕ) → v ≤ 2 ^ 53 → v ≡ (p + 16) / 32 → T (fits binary64 y) → HasValue y s v (2 ^ 53) → Value f y
    made y v hv e t w =
        let fin = finite_of_value y s v (2 ^ 53) w in
        let n : units_of y ≡ v * 2 ^ 1021 = units v (units_of y) (2 ^ 1021) (value-units y s v (2 ^ 53) t w) in
        record {
          held = t;
          number = fin.0;
          most = subst (λ k. k ≤ 2 ^ 1074) (sym n) (mul-le-mul_right (2 ^ 1021) hv);
          within = record { proper = c.proper; close = rw (fin.1, n) (close v e) };
        }
      where
        units : (v n K : ℕ) → n * 2 ^ 53 ≡ v * (2 ^ 53 * K) → n ≡ v * K
        units v n K e = eq_of_mul-eq-mul_right (2 ^ 53) (lit< tt) n (v * K) (omega arith)

        close : (v : ℕ) → v ≡ (p + 16) / 32 → gap s (v * 2 ^ 1021 * f.bottom) f.minus (f.top * 2 ^ 1074) ≤ 2 ^ 1026 * f.bottom
        close v e = widen (2 ^ 1021) (2 ^ 1074) (2 ^ 1026) refl (lit≤ tt) (rounding_gap s f.minus p v f.bottom (f.top * 2 ^ 53) e (subst (λ m. gap s (p * f.bottom) f.minus m ≤ 23 * f.bottom) (fold f.top) c.close))
          where
            fold : (n : ℕ) → n * 2 ^ 58 ≡ 32 * (n * 2 ^ 53)
            fold n = omega arith

            regroup : (n K L : ℕ) → L ≡ 2 ^ 53 * K → n * L ≡ n * 2 ^ 53 * K
            regroup n K L e = omega (arith, ap (λ m. n * m) e)

            more : (g D K E : ℕ) → 2 * K ≤ E → g ≤ 2 * D → g * K ≤ E * D
            more g D K E h k = omega (arith, mul-le-mul_right K k, mul-le-mul_right D h)

            swap : (n K D : ℕ) → n * K * D ≡ n * D * K
            swap n K D = omega arith

            widen : (K L E : ℕ) → L ≡ 2 ^ 53 * K → 2 * K ≤ E → gap s (v * f.bottom) f.minus (f.top * 2 ^ 53) ≤ 2 * f.bottom → gap s (v * K * f.bottom) f.minus (f.top * L) ≤ E * f.bottom
            widen K L E q h g = subst (λ z. z ≤ E * f.bottom) (sym (gap_times s f.minus (v * f.bottom) (f.top * 2 ^ 53) K) ∙ ap (λ z. gap s z f.minus (f.top * 2 ^ 53 * K)) (sym (swap v K f.bottom)) ∙ ap (λ z. gap s (v * K * f.bottom) f.minus z) (sym (regroup f.top K L q))) (more _ f.bottom K E h g)

-- ---- into units
near_units : (n L : ℕ) → 0 < L → Near one (n * 2 ^ 58 / L) n L 1 1
near_units n L h = record { over = over (div-mul-le_self (n * 2 ^ 58) L); under = under (lt-div-mul-add {a = n * 2 ^ 58} {b = L} h) }
  where
    over : n * 2 ^ 58 / L * L ≤ n * 2 ^ 58 → n * 2 ^ 58 / L * L ≤ n * 2 ^ 58 + 1 * L
    over k = omega arith

    under : n * 2 ^ 58 < n * 2 ^ 58 / L * L + L → n * 2 ^ 58 ≤ n * 2 ^ 58 / L * L + 1 * L
    under k = omega arith

-- the multiple of half pi nearest to the units is nearest to the angle
pub same_quarters : (x : Float) → T (fits binary64 x) → T (finite x) → quarters (scaled x) one ≡ quarters (units_of x) (2 ^ 1074)
unfolding scaled
same_quarters x t f = let o = form x t f in subst (λ n. quarters (n * 2 ^ 58 / 2 ^ 1074) one ≡ quarters n (2 ^ 1074)) (sym o.is) (go o.q o.j o.few (leb 1016 o.j) (leb→le 1016 o.j) (nleb→lt 1016 o.j))
  where
    whole-units : (q i : ℕ) → q * 2 ^ (i + 1016) * 2 ^ 58 ≡ q * 2 ^ i * 2 ^ 1074
    whole-units q i = ap (λ z. q * z * 2 ^ 58) (pow-add 2 i 1016) ∙ move q (2 ^ i) (2 ^ 1016) (2 ^ 58)
      where
        move : (q I a b : ℕ) → q * (I * a) * b ≡ q * I * (a * b)
        move q I a b = omega arith

    exact : (q i : ℕ) → quarters (q * 2 ^ (i + 1016) * 2 ^ 58 / 2 ^ 1074) one ≡ quarters (q * 2 ^ (i + 1016)) (2 ^ 1074)
    exact q i =
        let d : q * 2 ^ (i + 1016) * 2 ^ 58 / 2 ^ 1074 ≡ q * 2 ^ i = ap (λ z. z / 2 ^ 1074) (whole-units q i) ∙ mul-div_cancel (q * 2 ^ i) (pow_pos 1074) in
        ap (λ z. quarters z one) d ∙ quarters_same (q * 2 ^ i) one (q * 2 ^ (i + 1016)) (2 ^ 1074) (lit< tt) (pow_pos 1074) (sym (whole-units q i))

    small : (q j : ℕ) → q < 2 ^ 53 → j < 1016 → q * 2 ^ j ≤ 2 ^ 53 * 2 ^ 1016
    small q j h k = mul-le-mul (le_of_lt h) (le_of_lt (pow-lt k))

    none : (q j : ℕ) → q * 2 ^ j ≤ 2 ^ 53 * 2 ^ 1016 → quarters (q * 2 ^ j * 2 ^ 58 / 2 ^ 1074) one ≡ quarters (q * 2 ^ j) (2 ^ 1074)
    none q j h =
        quarters-between (q * 2 ^ j * 2 ^ 58 / 2 ^ 1074) one 0 0 (2 ^ 53) (lit< tt) (from_zero _) (div-le_of_le-mul (2 ^ 1074) (le_trans (mul-le-mul_right (2 ^ 58) h) (lit≤ tt))) (lit≤ tt) (lit< tt)
        ∙ sym (quarters-between (q * 2 ^ j) (2 ^ 1074) 0 0 (2 ^ 53 * 2 ^ 1016) (pow_pos 1074) (from_zero _) h (lit≤ tt) (lit< tt))
      where
        from_zero : (n : ℕ) → 0 ≤ n
        from_zero n = omega arith

    go : (q j : ℕ) → q < 2 ^ 53 → (b : Bool) → (T b → 1016 ≤ j) → (T (not b) → j < 1016) → quarters (q * 2 ^ j * 2 ^ 58 / 2 ^ 1074) one ≡ quarters (q * 2 ^ j) (2 ^ 1074)
    go q j h true g k = subst (λ i. quarters (q * 2 ^ i * 2 ^ 58 / 2 ^ 1074) one ≡ quarters (q * 2 ^ i) (2 ^ 1074)) (sym (sub-add j 1016 (g tt))) (exact q (j - 1016))
    go q j h false g k = none q j (small q j h (k tt))

pub reduced_float : (x : Float) → T (fits binary64 x) → T (in_domain x) → Reduced (scaled x) (units_of x) (2 ^ 1074)
unfolding scaled
reduced_float x t d =
    let f = in-domain x t d in
    reduced_by_units (units_of x * 2 ^ 58 / 2 ^ 1074) (units_of x) (2 ^ 1074) (pow_pos 1074) (same_quarters x t f.0) (quarters-few (units_of x) (2 ^ 1074) (pow_pos 1074) f.1) (near_units (units_of x) (2 ^ 1074) (pow_pos 1074))

-- the sine of x and `more` half pis
close_units : (more : ℕ) (x : Float) → T (fits binary64 x) → T (in_domain x) → (turned_units more (scaled x) ≤ one) × Close one (turned_minus more (scaled x)) (turned_units more (scaled x)) (reduced more (units_of x) (2 ^ 1074)) 23
close_units more x t d = let r = reduced_float x t d in (turned_most more (scaled x) (units_of x) (2 ^ 1074) r, turned_close more (scaled x) (units_of x) (2 ^ 1074) (same_quarters x t (in-domain x t d).0) r)

-- ---- the sine of a tiny angle
abbrev tail : List ℕ
tail = 20 ∷ 42 ∷ 72 ∷ 110 ∷ 156 ∷ 210 ∷ 272 ∷ 342 ∷ 420 ∷ []

apart : (a b t B : ℕ) → a ≡ b + t → t ≤ B → (a - b) + (b - a) ≤ B
apart a b t B e h = omega arith

-- r - r³ / 6 and r enclose the sum: they are r³ / 6 apart, at most a 2 ^ 48th where r is at most a 2 ^ 17th
small_sine : (n L w E : ℕ) → n * 2 ^ 17 ≤ L → L ≤ 2 ^ 48 * E → distance (n * sine_den (L * w)) (sine_num (n * w) (L * w) * L) ≤ E * sine_den (L * w)
unfolding sine_den sine_num sine_divisors num den distance
small_sine n L w E h k = go m d (den (d * d) tail) (num (m * m) (d * d) tail) refl refl (num-le-den (m * m) (d * d) tail)
  where
    m : ℕ
    m = n * w

    d : ℕ
    d = L * w

    cube : (m d : ℕ) → m * 2 ^ 17 ≤ d → n * (m * m) ≤ E * (d * d)
    cube m d l = le_of_mul-le-mul_left {k = 2 ^ 48} (last (mul-le-mul h (mul-le-mul l l)) (mul-le-mul_right (d * d) k)) (lit< tt)
      where
        last : n * 2 ^ 17 * (m * 2 ^ 17 * (m * 2 ^ 17)) ≤ L * (d * d) → L * (d * d) ≤ 2 ^ 48 * E * (d * d) → 2 ^ 48 * (n * (m * m)) ≤ 2 ^ 48 * (E * (d * d))
        last f g = omega arith

    less : (m d D N : ℕ) → m * m ≤ d * d → N ≤ D → m * m * N ≤ 6 * (d * d * D)
    less m d D N f g = omega (arith, mul-le-mul f g)

    scaled_down : n * w * 2 ^ 17 ≤ L * w
    scaled_down = omega (arith, mul-le-mul_right w h)

    short : n * w ≤ L * w
    short = omega (arith, scaled_down)

    go : (m d D N : ℕ) → m ≡ n * w → d ≡ L * w → N ≤ D → (n * (d * (6 * (d * d * D))) - m * (6 * (d * d * D) - m * m * N) * L) + (m * (6 * (d * d * D) - m * m * N) * L - n * (d * (6 * (d * d * D)))) ≤ E * (d * (6 * (d * d * D)))
    go m d D N em ed l = apart (n * (d * (6 * (d * d * D)))) (m * (6 * (d * d * D) - m * m * N) * L) (n * (d * (m * m * N))) (E * (d * (6 * (d * d * D)))) (sum (6 * (d * d * D)) (m * m * N) _ (sub-add (6 * (d * d * D)) (m * m * N) (less m d D N (mul-le-mul ml ml) l))) (rest_of (cube m d tiny_m))
      where
        tiny_m : m * 2 ^ 17 ≤ d
        tiny_m = rw (em, ed) scaled_down

        ml : m ≤ d
        ml = rw (em, ed) short

        sum : (C P Q : ℕ) → C ≡ Q + P → n * (d * C) ≡ m * Q * L + n * (d * P)
        sum C P Q e = rw (em, ed) (open_up C P Q e)
          where
            open_up : (C P Q : ℕ) → C ≡ Q + P → n * (L * w * C) ≡ n * w * Q * L + n * (L * w * P)
            open_up C P Q e = omega (arith, ap (λ z. n * (L * w) * z) e)

        rest_of : n * (m * m) ≤ E * (d * d) → n * (d * (m * m * N)) ≤ E * (d * (6 * (d * d * D)))
        rest_of f = more (mul-le-mul f l)
          where
            more : n * (m * m) * N ≤ E * (d * d) * D → n * (d * (m * m * N)) ≤ E * (d * (6 * (d * d * D)))
            more g = omega (arith, mul-le-mul_left d g)

-- below 2 ^ -17 a float is finite, and so many units
below_tiny : (x : Float) → T (fits binary64 x) → lt (abs x) tiny ≡ true → T (finite x) × (units_of x < 2 ^ 1057)
unfolding abs
below_tiny nan t h = absurd (unfold lt of_bits in holds h)
below_tiny (inf s) t h = absurd (unfold lt of_bits in holds h)
below_tiny (fin s m e) t h = (tt, ltb→lt (units_of (fin s m e)) (2 ^ 1057) (holds (sym (lt-units (fin false m e) tiny (units_of (fin s m e)) (2 ^ 1057) (refl, (own_units (fin s m e) t tt).1) (unfold of_bits in (refl, refl))) ∙ h)))

no_quarters : (n : ℕ) → n < 2 ^ 1057 → quarters n (2 ^ 1074) ≡ 0
no_quarters n h = quarters-between n (2 ^ 1074) 0 0 (2 ^ 1057) (pow_pos 1074) (from_zero n) (le_of_lt h) (lit≤ tt) (lit< tt)
  where
    from_zero : (n : ℕ) → 0 ≤ n
    from_zero n = omega arith

distance-zero : (a : ℕ) → distance a 0 ≡ a
unfolding distance
distance-zero a = omega arith

tiny_close : (n : ℕ) → n < 2 ^ 1057 → Close (2 ^ 1074) false n (reduced 0 n (2 ^ 1074)) (2 ^ 1026)
unfolding reduced turned negative even
tiny_close n h = rw (no_quarters n h) (made (ltb (n * whole) 0) _ (never (n * whole)) (distance-zero (n * whole)))
  where
    never : (a : ℕ) → ltb a 0 ≡ false
    never a = refuted (ltb a 0) (λ t. none (ltb→lt a 0 t))
      where
        none : a < 0 → ⊥
        none l = omega arith

    made : (b : Bool) (m : ℕ) → b ≡ false → m ≡ n * whole → Close (2 ^ 1074) false n (record { minus = unlike false (true && b); top = sine_num m (2 ^ 1074 * whole); bottom = sine_den (2 ^ 1074 * whole) }) (2 ^ 1026)
    made b m e f =
        rw (e, f)
        (record {
          proper = sine_proper (2 ^ 1074 * whole) (lit< tt);
          close = subst (λ g. g ≤ 2 ^ 1026 * sine_den (2 ^ 1074 * whole)) (sym (gap_same false (n * sine_den (2 ^ 1074 * whole)) (sine_num (n * whole) (2 ^ 1074 * whole) * 2 ^ 1074))) (small_sine n (2 ^ 1074) whole (2 ^ 1026) (le_trans (mul-le-mul_right (2 ^ 17) (le_of_lt h)) (lit≤ tt)) (lit≤ tt));
        })

tiny_inside : (x : Float) → lt (abs x) tiny ≡ true → T (in_domain x)
unfolding in_domain
tiny_inside x e = le_of_lt_float (abs x) largest (lt_trans (abs x) tiny largest (holds e) (unfold lt of_bits in tt))

unlike_false : (s : Bool) → unlike s false ≡ s
unlike_false true = refl
unlike_false false = refl

-- ---- the sine
pub sine_is : (x : Float) → T (fits binary64 x) → IsSine x (sin x)
unfolding sin sine_of sine_sum
sine_is x t = record { inside = λ d. go (lt (abs x) tiny) refl (in_domain x) refl d; outside = λ d. none (lt (abs x) tiny) refl (in_domain x) refl d }
  where
    answer : Float
    answer = from_units (unlike (sign x) (turned_minus 0 (scaled x))) (turned_units 0 (scaled x))

    go : (b : Bool) → lt (abs x) tiny ≡ b → (c : Bool) → in_domain x ≡ c → T c → Value (sine_of x) (cond b x (cond c answer nan))
    go true e c f d = tiny-value
      where
        k : T (finite x) × (units_of x < 2 ^ 1057)
        k = below_tiny x t e

        tiny-value : Value (sine_of x) x
        tiny-value = record { held = t; number = k.0; most = le_trans (le_of_lt k.1) (lit≤ tt); within = subst (λ s. Close (2 ^ 1074) s (units_of x) (negated (sign x) (reduced 0 (units_of x) (2 ^ 1074))) (2 ^ 1026)) (unlike_false (sign x)) (negated_close (sign x) false (2 ^ 1074) (units_of x) (reduced 0 (units_of x) (2 ^ 1074)) (2 ^ 1026) (tiny_close (units_of x) k.1)) }
    go false e true f d = let w = close_units 0 x t (holds f) in from_units_lem _ _ _ w.0 (negated_close (sign x) (turned_minus 0 (scaled x)) one (turned_units 0 (scaled x)) (reduced 0 (units_of x) (2 ^ 1074)) 23 w.1)
    go false e false f d = elim d [ ]

    none : (b : Bool) → lt (abs x) tiny ≡ b → (c : Bool) → in_domain x ≡ c → T (not c) → cond b x (cond c answer nan) ≡ nan
    none true e c f d = absurd (subst (λ b. T (not b)) (sym f ∙ is_true (in_domain x) (tiny_inside x e)) d)
    none false e false f d = refl
    none false e true f d = elim d [ ]

-- ---- the cosine
pub cosine_is : (x : Float) → T (fits binary64 x) → IsCosine x (cos x)
unfolding cos cosine_of cosine_sum
cosine_is x t = record { inside = λ d. go (in_domain x) refl d; outside = λ d. none (in_domain x) d }
  where
    answer : Float
    answer = from_units (turned_minus 1 (scaled x)) (turned_units 1 (scaled x))

    go : (c : Bool) → in_domain x ≡ c → T c → Value (cosine_of x) (cond c answer nan)
    go true f d = let w = close_units 1 x t (holds f) in from_units_lem _ _ _ w.0 w.1
    go false f d = elim d [ ]

    none : (c : Bool) → T (not c) → cond c answer nan ≡ nan
    none false d = refl
    none true d = elim d [ ]

-- ---- the multiple of half pi that is removed is the nearest
pub nearest-removed : (x : Float) → T (fits binary64 x) → T (in_domain x) → NearestMultiple (units_of x) (2 ^ 1074) (quarters (scaled x) one)
nearest-removed x t d = subst (NearestMultiple (units_of x) (2 ^ 1074)) (sym (same_quarters x t (in-domain x t d).0)) (quarters-nearest (units_of x) (2 ^ 1074) (pow_pos 1074))
