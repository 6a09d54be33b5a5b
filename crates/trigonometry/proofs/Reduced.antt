-- The sine and the cosine of any angle in units, against the exact sums of the reduced angle: within 23 units.
--
-- The budget: an angle's own cut is one unit, and k times half pi, cut to whole units, is at most k ≤ 10 units off: 11. The sums turn 11 units into 23 (proofs/Values). Where the cut puts the angle on the other side of its multiple, both values are below 11 units.
use mathlib.Core.Path.{◌≡◌, refl, sym, subst}
use mathlib.Core.Bool.{Bool, true, false, not, ◌&&◌, cond, true≢false}
use mathlib.Core.List.{List, [], ◌∷◌}
use Prim.Native.Nat.{ℕ, ◌+◌, ◌*◌, ◌-◌, ◌/◌, ◌%◌, ◌≤◌, ◌<◌}
use native.Mathlib.Nat.{mul-le-mul_left, mul-le-mul_right, le_trans, le_of_lt, mul-pos, div-le_of_le-mul, le_of_mul-le-mul_right}
use native.Mathlib.Omega.{arith}
use lib.Dec.{T, leb, ltb, ltb→lt, nltb→le, lit<, lit≤}
use lib.Ieee.{unlike}
use Rattle.trigonometry.specs.Taylor.{num, den, sine_divisors, cosine_divisors, sine_num, sine_den, cosine_num, cosine_den}
use Rattle.trigonometry.specs.Angle.{half_pi, whole, distance, quarters, Signed, even, negative, turned, reduced, negated, gap, Close}
use Rattle.trigonometry.specs.Units.{horner, square, sine_units, cosine_units, one, half_pi_units, removed, rest, turned_minus, turned_units}
use Rattle.trigonometry.proofs.Near.{Near}
use Rattle.trigonometry.proofs.Horner.{AtLeast, num-le-den, horner-le}
use Rattle.trigonometry.proofs.Values.{sine_close, cosine_close, sine_at_least, cosine_at_least}
use Rattle.trigonometry.proofs.Reduction.{distance-le, left_small, near_distance, sides_differ, sides_differ_below}

-- ---- denominators are positive
pub den_pos : (k zd : ℕ) (cs : List ℕ) → 0 < k → 0 < zd → AtLeast k cs → 0 < den zd cs
unfolding den AtLeast
den_pos k zd [] hk hz a = omega arith
den_pos k zd (c ∷ cs) hk hz a = mul-pos (omega (arith, a.0)) (mul-pos hz (den_pos k zd cs hk hz a.1))

pub sine_proper : (d : ℕ) → 0 < d → 0 < sine_den d
unfolding sine_den
sine_proper d h = mul-pos h (den_pos 6 (d * d) sine_divisors (omega arith) (mul-pos h h) sine_at_least)

pub cosine_proper : (d : ℕ) → 0 < d → 0 < cosine_den d
unfolding cosine_den den
cosine_proper d h = mul-pos (lit< tt) (mul-pos (mul-pos h h) (den_pos 6 (d * d) cosine_divisors (omega arith) (mul-pos h h) cosine_at_least))

-- ---- signs
pub gap_same : (s : Bool) (a b : ℕ) → gap s a s b ≡ distance a b
unfolding gap
gap_same true a b = refl
gap_same false a b = refl

gap-le : (s t : Bool) (a b : ℕ) → gap s a t b ≤ a + b
unfolding gap distance
gap-le true true a b = omega arith
gap-le true false a b = omega arith
gap-le false true a b = omega arith
gap-le false false a b = omega arith

near_gap : (s : Bool) (S P N D o u e : ℕ) → o ≤ e → u ≤ e → Near S P N D o u → gap s (P * D) s (N * S) ≤ e * D
near_gap s S P N D o u e ho hu x = subst (λ t. t ≤ e * D) (sym (gap_same s (P * D) (N * S))) (distance-le (P * D) (N * S) (e * D) (omega (arith, x.over, mul-le-mul_right D ho)) (omega (arith, x.under, mul-le-mul_right D hu)))

-- ---- the angle's own error
half_pi_near : (k : ℕ) → k ≤ 10 → Near one (k * half_pi_units) (k * half_pi) whole 10 10
half_pi_near k h = record { over = over k; under = under k h }
  where
    over : (k : ℕ) → k * half_pi_units * whole ≤ k * half_pi * one + 10 * whole
    over k = go k half_pi_units whole half_pi one (lit≤ tt)
      where
        go : (k u w p o : ℕ) → u * w ≤ p * o → k * u * w ≤ k * p * o + 10 * w
        go k u w p o l = omega (arith, mul-le-mul_left k l)

    under : (k : ℕ) → k ≤ 10 → k * half_pi * one ≤ k * half_pi_units * whole + 10 * whole
    under k h = go k half_pi_units whole half_pi one h (lit≤ tt)
      where
        go : (k u w p o : ℕ) → k ≤ 10 → p * o ≤ u * w + w → k * p * o ≤ k * u * w + 10 * w
        go k u w p o h l = omega (arith, mul-le-mul_left k l, mul-le-mul_right w h)

rest-small : (R n d : ℕ) → 0 < d → Near one R n d 11 11 → 1000 * n ≤ 786 * d → 5 * R ≤ 4 * one
rest-small R n d hd x h = le_of_mul-le-mul_right {k = d} (go one (lit≤ tt) x.over) hd
  where
    go : (S : ℕ) → 1000 * 55 ≤ 70 * S → R * d ≤ n * S + 11 * d → 5 * R * d ≤ 4 * S * d
    go S l k = omega (arith, mul-le-mul_right S h, mul-le-mul_right d l)

pub record Reduced (x a b : ℕ) : Type 0 where
  pub near : Near one (rest x) (distance (a * whole) (quarters a b * half_pi * b)) (b * whole) 11 11
  pub small : 5 * rest x ≤ 4 * one
  pub left : 5 * distance (a * whole) (quarters a b * half_pi * b) ≤ 4 * (b * whole)
  pub proper : 0 < b * whole
  pub sides : (t u : Bool) → t ≡ ltb x (removed x) → u ≡ ltb (a * whole) (quarters a b * half_pi * b) → (t ≡ u → ⊥) → rest x * (b * whole) + distance (a * whole) (quarters a b * half_pi * b) * one ≤ 11 * (b * whole)

pub reduced_by_units : (x a b : ℕ) → 0 < b → quarters x one ≡ quarters a b → quarters a b ≤ 10 → Near one x a b 1 1 → Reduced x a b
unfolding rest removed
reduced_by_units x a b hb same few near = record { near = distances; small = rest-small _ _ _ proper distances fine; left = coarse _ _ fine; proper = proper; sides = sides }
  where
    k : ℕ
    k = quarters a b

    proper : 0 < b * whole
    proper = mul-pos hb (lit< tt)

    multiple : Near one (quarters x one * half_pi_units) (k * half_pi) whole 10 10
    multiple = rw same (half_pi_near k few)

    distances : Near one (distance x (quarters x one * half_pi_units)) (distance (a * whole) (k * half_pi * b)) (b * whole) 11 11
    distances = near_distance one near multiple

    fine : 1000 * distance (a * whole) (k * half_pi * b) ≤ 786 * (b * whole)
    fine = left_small a b hb

    coarse : (n d : ℕ) → 1000 * n ≤ 786 * d → 5 * n ≤ 4 * d
    coarse n d h = omega arith

    sides : (t u : Bool) → t ≡ ltb x (quarters x one * half_pi_units) → u ≡ ltb (a * whole) (k * half_pi * b) → (t ≡ u → ⊥) → distance x (quarters x one * half_pi_units) * (b * whole) + distance (a * whole) (k * half_pi * b) * one ≤ 11 * (b * whole)
    sides true true e f n = absurd (n refl)
    sides false false e f n = absurd (n refl)
    sides true false e f n = sides_differ_below one near multiple (le_of_lt (ltb→lt x (quarters x one * half_pi_units) (subst T e tt))) (nltb→le (a * whole) (k * half_pi * b) (subst (λ w. T (not w)) f tt))
    sides false true e f n = sides_differ one near multiple (nltb→le x (quarters x one * half_pi_units) (subst (λ w. T (not w)) e tt)) (le_of_lt (ltb→lt (a * whole) (k * half_pi * b) (subst T f tt)))

-- a sine is at most its angle, in units and exactly
sine_most : (R : ℕ) → sine_units one R ≤ R
unfolding sine_units
sine_most R = div-le_of_le-mul one (turn (horner one (square one R) 1 sine_divisors) (mul-le-mul_left R (horner-le one (square one R) 1 sine_divisors)))
  where
    turn : (p : ℕ) → R * p ≤ R * (one / 1) → R * p ≤ one * R
    turn p k = omega arith

sine_below : (R n d e : ℕ) → R * d + n * one ≤ e * d → sine_units one R * sine_den d + sine_num n d * one ≤ e * sine_den d
unfolding sine_num sine_den
sine_below R n d e h = go one (num (n * n) (d * d) sine_divisors) (den (d * d) sine_divisors) (sine_units one R) (sine_most R) (num-le-den (n * n) (d * d) sine_divisors) h
  where
    go : (S N D P : ℕ) → P ≤ R → N ≤ D → R * d + n * S ≤ e * d → P * (d * D) + n * N * S ≤ e * (d * D)
    go S N D P k l m = omega (arith, mul-le-mul_right (d * D) k, mul-le-mul_left (n * S) l, mul-le-mul_right D m)

-- the value with its sign
pub turned_close : (more x a b : ℕ) → quarters x one ≡ quarters a b → Reduced x a b → Close one (turned_minus more x) (turned_units more x) (reduced more a b) 23
unfolding turned_minus turned_units reduced turned negative
turned_close more x a b same r = record { proper = proper (even q); close = rw same (go (even q) (ltb x (removed x)) (ltb (a * whole) (quarters a b * half_pi * b)) refl refl) }
  where
    q : ℕ
    q = quarters a b + more

    n : ℕ
    n = distance (a * whole) (quarters a b * half_pi * b)

    d : ℕ
    d = b * whole

    w : Bool
    w = leb 2 (q % 4)

    proper : (v : Bool) → 0 < cond v (sine_den d) (cosine_den d)
    proper true = sine_proper d r.proper
    proper false = cosine_proper d r.proper

    far : (s t : Bool) → rest x * d + n * one ≤ 11 * d → gap s (sine_units one (rest x) * sine_den d) t (sine_num n d * one) ≤ 23 * sine_den d
    far s t h = le_trans (gap-le s t _ _) (le_trans (sine_below (rest x) n d 11 h) (mul-le-mul_right (sine_den d) (lit≤ tt)))

    go : (v t u : Bool) → t ≡ ltb x (removed x) → u ≡ ltb (a * whole) (quarters a b * half_pi * b)
        → gap (unlike w (v && t)) (cond v (sine_units one (rest x)) (cosine_units one (rest x)) * cond v (sine_den d) (cosine_den d)) (unlike w (v && u)) (cond v (sine_num n d) (cosine_num n d) * one) ≤ 23 * cond v (sine_den d) (cosine_den d)
    go true true true e f = near_gap (unlike w true) one _ _ _ 22 23 23 (omega arith) (omega arith) (sine_close one (rest x) n d (lit< tt) r.small r.left r.near)
    go true false false e f = near_gap (unlike w false) one _ _ _ 22 23 23 (omega arith) (omega arith) (sine_close one (rest x) n d (lit< tt) r.small r.left r.near)
    go true true false e f = far _ _ (r.sides true false e f (λ z. absurd (true≢false z)))
    go true false true e f = far _ _ (r.sides false true e f (λ z. absurd (true≢false (sym z))))
    go false t u e f = near_gap (unlike w false) one _ _ _ 15 14 23 (omega arith) (omega arith) (cosine_close one (rest x) n d (lit< tt) r.small r.left r.near)

-- it is at most one
pub turned_most : (more x a b : ℕ) → Reduced x a b → turned_units more x ≤ one
unfolding turned_units cosine_units
turned_most more x a b r = go (even (quarters x one + more))
  where
    less : (R s : ℕ) → s ≤ R → 5 * R ≤ 4 * one → s ≤ one
    less R s h k = omega arith

    cut : (s p : ℕ) → s - p ≤ s
    cut s p = omega arith

    go : (v : Bool) → cond v (sine_units one (rest x)) (cosine_units one (rest x)) ≤ one
    go true = less (rest x) (sine_units one (rest x)) (sine_most (rest x)) r.small
    go false = cut one _

-- both with the other sign
pub negated_close : (s t : Bool) (S p : ℕ) (f : Signed) (e : ℕ) → Close S t p f e → Close S (unlike s t) p (negated s f) e
unfolding negated gap
negated_close s t S p f e c = record { proper = c.proper; close = subst (λ g. g ≤ e * f.bottom) (sym (both s t f.minus (p * f.bottom) (f.top * S))) c.close }
  where
    both : (s t u : Bool) (a b : ℕ) → gap (unlike s t) a (unlike s u) b ≡ gap t a u b
    both true true true a b = refl
    both true true false a b = refl
    both true false true a b = refl
    both true false false a b = refl
    both false true true a b = refl
    both false true false a b = refl
    both false false true a b = refl
    both false false false a b = refl
