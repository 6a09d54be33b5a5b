-- Sizes against another float: `Times k x y` says that x is at most 2 ^ k times y in size. As 2 ^ k times a float is a float, roundings keep such bounds.
use mathlib.Core.Path.{◌≡◌, sym, ap, ◌∙◌, subst}
use mathlib.Core.Bool.{Bool, not}
use Prim.Native.Nat.{ℕ, suc, ◌+◌, ◌*◌, ◌^◌, ◌≤◌, ◌<◌}
use native.Mathlib.Nat.{le_of_eq, lt_of_le_of_lt, mul-le-mul, mul-le-mul_right, mul-pos, mul_assoc, mul_comm, one-mul, pow-succ'}
use native.Mathlib.Omega.{arith}
use lib.Dec.{T, lit<}
use lib.Pow.{pow_pos, pow-add}
use lib.Ieee.{Float, binary64, fits, add, sub, mul, neg, round, unlike}
use lib.Ieee.Fits.{neg-fits, round-fits}
use lib.Ieee.Scale.{finite, grid}
use Rattle.laws.specs.Size.{Small, Times}
use Rattle.laws.specs.Units.{Units, sign, units_of}
use Rattle.laws.proofs.Error.{in-range, round-value, round-at_most, under_float}
use Rattle.laws.proofs.Size.{units_small}
use Rattle.laws.proofs.Units.{Form, own_units, units_are, finite_of_units, mul-units, neg-units, add_rounding}

-- 2 ^ k times y is a float
scaled : (k : ℕ) (y : Float) (o : Form y) → 2 ^ k * units_of y ≡ o.q * 2 ^ (o.j + k)
scaled k y o = ap (λ t. 2 ^ k * t) o.is ∙ mul_comm (2 ^ k) (o.q * 2 ^ o.j) ∙ mul_assoc o.q (2 ^ o.j) (2 ^ k) ∙ ap (λ t. o.q * t) (sym (pow-add 2 o.j k))

pub rounded_times : (k : ℕ) (y : Float) (o : Form y) (s : Bool) (a c : ℕ) → 0 < c → 2 ^ k * units_of y ≤ 2 ^ 1023 * 2 ^ 1074 → a * 2 ^ 1074 ≤ 2 ^ k * units_of y * c → Times k (round binary64 s a c) y
rounded_times k y o s a c C top h =
    let e = scaled k y o in
    let r = in-range a c C (under_float a c (2 ^ k * units_of y) top h) in
    let v = round-value s a c r in
    let w = round-at_most a c C o.q (o.j + k) o.few (subst (λ t. t < 2 ^ 2098) e (lt_of_le_of_lt top (lit< tt))) r (subst (λ t. a * 2 ^ 1074 ≤ t * c) e h) in
    record {
      held = round-fits binary64 s a c;
      number = (finite_of_units (round binary64 s a c) s (grid binary64 a c) v).0;
      most = subst (λ t. t ≤ 2 ^ k * units_of y) (sym (units_are (round binary64 s a c) s (grid binary64 a c) v)) (subst (λ t. grid binary64 a c ≤ t) (sym e) w);
    }

product_times : {k : ℕ} {r : Float} (x y : Float) → Form r → 2 ^ k * units_of r ≤ 2 ^ 1023 * 2 ^ 1074 → Units x (sign x) (units_of x) → Units y (sign y) (units_of y)
    → units_of x * units_of y * 2 ^ 1074 ≤ 2 ^ k * units_of r * (2 ^ 1074 * 2 ^ 1074) → Times k (mul binary64 x y) r
product_times {k} {r} x y o top u v h =
    subst (λ z. Times k z r) (sym (mul-units x y (sign x) (sign y) (units_of x) (units_of y) u v))
    (rounded_times k r o (unlike (sign x) (sign y)) (units_of x * units_of y) (2 ^ 1074 * 2 ^ 1074) (mul-pos (pow_pos 1074) (pow_pos 1074)) top h)

-- u is at most P, and v at most K s, in units
scaled_up : (u v P K s L : ℕ) → u * 1 ≤ P * L → v ≤ K * s → u * v * L ≤ P * K * s * (L * L)
scaled_up u v P K s L h k = last (mul-le-mul h k)
  where
    last : u * 1 * v ≤ P * L * (K * s) → u * v * L ≤ P * K * s * (L * L)
    last m = omega (arith, mul-le-mul_right L m)

pub mul_times : {p k : ℕ} {x y r : Float} → Form r → 2 ^ (p + k) * units_of r ≤ 2 ^ 1023 * 2 ^ 1074 → Small p 0 x → Times k y r → Times (p + k) (mul binary64 x y) r
mul_times {p} {k} {x} {y} {r} o top a b =
    product_times x y o top (units_small a) (own_units y b.held b.number) (rw (pow-add 2 p k) (scaled_up (units_of x) (units_of y) (2 ^ p) (2 ^ k) (units_of r) (2 ^ 1074) a.most b.most))

-- the same with the factors the other way round
pub times_mul : {p k : ℕ} {x y r : Float} → Form r → 2 ^ (p + k) * units_of r ≤ 2 ^ 1023 * 2 ^ 1074 → Times k x r → Small p 0 y → Times (p + k) (mul binary64 x y) r
times_mul {p} {k} {x} {y} {r} o top a b =
    product_times x y o top (own_units x a.held a.number) (units_small b)
    (subst (λ n. n * 2 ^ 1074 ≤ 2 ^ (p + k) * units_of r * (2 ^ 1074 * 2 ^ 1074)) (mul_comm (units_of y) (units_of x)) (rw (pow-add 2 p k) (scaled_up (units_of y) (units_of x) (2 ^ p) (2 ^ k) (units_of r) (2 ^ 1074) b.most a.most)))

pub add_times : {k : ℕ} {x y r : Float} → Form r → 2 ^ suc k * units_of r ≤ 2 ^ 1023 * 2 ^ 1074 → Times k x r → Times k y r → Times (suc k) (add binary64 x y) r
add_times {k} {x} {y} {r} o top a b =
    let w = add_rounding x y (sign x) (sign y) (units_of x) (units_of y) (own_units x a.held a.number) (own_units y b.held b.number) in
    subst (λ z. Times (suc k) z r) (sym w.is) (rounded_times (suc k) r o w.s w.n (2 ^ 1074) (pow_pos 1074) top
    (mul-le-mul_right (2 ^ 1074) (subst (λ t. w.n ≤ t * units_of r) (sym (pow-succ' 2 k)) (go (units_of x) (units_of y) w.n (2 ^ k) (units_of r) a.most b.most w.few))))
  where
    go : (u v n K s : ℕ) → u ≤ K * s → v ≤ K * s → n ≤ u + v → n ≤ 2 * K * s
    go u v n K s a b h = omega arith

pub neg_times : {k : ℕ} {x r : Float} → Times k x r → Times k (neg x) r
neg_times {k} {x} {r} a =
    let v = neg-units x (sign x) (units_of x) (own_units x a.held a.number) in
    record { held = neg-fits binary64 x a.held; number = (finite_of_units (neg x) (not (sign x)) (units_of x) v).0; most = subst (λ t. t ≤ 2 ^ k * units_of r) (sym (units_are (neg x) (not (sign x)) (units_of x) v)) a.most }

pub sub_times : {k : ℕ} {x y r : Float} → Form r → 2 ^ suc k * units_of r ≤ 2 ^ 1023 * 2 ^ 1074 → Times k x r → Times k y r → Times (suc k) (sub binary64 x y) r
unfolding sub
sub_times o top a b = add_times o top a (neg_times b)

pub own_times : {x : Float} → T (fits binary64 x) → T (finite x) → Times 0 x x
own_times {x} h n = record { held = h; number = n; most = le_of_eq (sym (one-mul (units_of x))) }
