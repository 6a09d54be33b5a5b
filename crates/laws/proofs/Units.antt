-- Finite floats by units: each f64 is q * 2 ^ j of them with a q of 53 digits at most, a float is known by its sign and its units, and each operation is one rounding of a fraction of units.
use mathlib.Core.Path.{◌≡◌, refl, sym, ap, ◌∙◌, subst}
use mathlib.Core.Bool.{Bool, true, false, not, ◌&&◌, cond, true≢false}
use Prim.Native.Nat.{ℕ, zero, suc, ◌+◌, ◌*◌, ◌-◌, ◌^◌, ◌/◌, ◌%◌, ◌≤◌, ◌<◌}
use native.Mathlib.Nat.{not-le_of_lt, mul-le-mul_right, le_of_mul-le-mul_right, mul-pos, mul-one, one-mul, zero-mul, mul_comm, mul_assoc, mul_right_comm, mul-div_cancel, zero-div, lt_irrefl, eq_of_mul-eq-mul_right, zero-lt-suc, le_refl, le_of_eq, mul-lt-mul_of_pos_right, lt_of_mul-lt-mul_right}
use native.Mathlib.Omega.{arith}
use lib.IntN.{ℤ, pos, negsuc}
use lib.Arith.{le→nltb}
use lib.Dec.{T, ltb, leb, eqb, ltb→lt, lt→ltb, leb→le, eqb→eq, not_T, lit<}
use lib.Pow.{pow-add, pow_pos, pow-lt}
use lib.Ieee.{Float, nan, inf, fin, binary64, fits, up, down, mul, add, sub, div, neg, sum, round, unlike, to_bits, of_bits, top, hid, size}
use lib.Ieee.Bits.{of_bits-to_bits, cond_no, is_true, is_false}
use lib.Ieee.Exact.{HasValue}
use lib.Ieee.Fits.{and_l, and_r, up_pos, down_pos}
use lib.Ieee.Positive.{first_pos}
use lib.Ieee.Scale.{round_same, finite}
use Rattle.laws.specs.Units.{Units, sign, units_of}
use Rattle.laws.proofs.Numbers.{le_by, sub-add, sub-mul}

-- ---- the form of an f64
-- what `fits` says of a number that is not zero
pub small_of_fits : (s : Bool) (m : ℕ) (e : ℤ) → T (fits binary64 (fin s (suc m) e)) → (suc m < 2 ^ 53) × (down e ≤ 2 ^ 1074) × (suc m * up e < 2 ^ 1024 * down e)
unfolding fits
small_of_fits s m e t =
    let a : Bool = eqb (suc m % 2) 1 in
    let b : Bool = ltb (suc m) (2 ^ 53) in
    let c : Bool = leb (down e) (2 ^ 1074) in
    let d : Bool = ltb (suc m * up e) (2 ^ 1024 * down e) in
    (ltb→lt (suc m) (2 ^ 53) (and_r a b (and_l (a && b) c (and_l (a && b && c) d t))), leb→le (down e) (2 ^ 1074) (and_r (a && b) c (and_l (a && b && c) d t)), ltb→lt (suc m * up e) (2 ^ 1024 * down e) (and_r (a && b && c) d t))

-- up e / down e in units of 2 ^ - l is a power of two, where l is large enough
power_of_exponent : (l : ℕ) (e : ℤ) → down e ≤ 2 ^ l → (j : ℕ) × (up e * 2 ^ l ≡ 2 ^ j * down e)
power_of_exponent l (pos k) h = (k + l, sym (pow-add 2 k l) ∙ sym (mul-one (2 ^ (k + l))))
power_of_exponent l (negsuc k) h = (l - suc k, one-mul (2 ^ l) ∙ ap (λ x. 2 ^ x) (sub-add l (suc k) (le_by (λ g. not-le_of_lt (pow-lt g) h))) ∙ pow-add 2 (l - suc k) (suc k))

-- q * 2 ^ j units, with a q below 2 ^ 53
pub record Form (x : Float) : Type 0 where
  pub q : ℕ
  pub j : ℕ
  pub few : q < 2 ^ 53
  pub is : units_of x ≡ q * 2 ^ j
  pub value : Units x (sign x) (q * 2 ^ j)
  pub top : q * 2 ^ j < 2 ^ 1024 * 2 ^ 1074

pub form : (x : Float) → T (fits binary64 x) → T (finite x) → Form x
unfolding units_of
form nan t f = absurd f
form (inf s) t f = absurd f
form (fin s zero e) t f = record { q = 0; j = 0; few = omega arith; is = ap (λ n. n / down e) z ∙ zero-div (down e); value = (refl, z ∙ sym (ap (λ n. n * down e) (zero-mul 1) ∙ zero-mul (down e))); top = lit< tt }
  where
    z : 0 * up e * 2 ^ 1074 ≡ 0
    z = ap (λ n. n * 2 ^ 1074) (zero-mul (up e)) ∙ zero-mul (2 ^ 1074)
form (fin s (suc m) e) t f =
    let k = small_of_fits s m e t in
    let p = power_of_exponent 1074 e k.1 in
    let v : suc m * up e * 2 ^ 1074 ≡ suc m * 2 ^ p.0 * down e = times (suc m) (up e) (2 ^ 1074) (2 ^ p.0) (down e) p.1 in
    record { q = suc m; j = p.0; few = k.0; is = ap (λ n. n / down e) v ∙ mul-div_cancel (suc m * 2 ^ p.0) (down_pos e); value = (refl, v); top = lt_of_mul-lt-mul_right (down e) (below_top (suc m * up e) (down e) (2 ^ 1074) (2 ^ 1024) (suc m * 2 ^ p.0) (pow_pos 1074) v k.2) }
  where
    below_top : (v d L B n : ℕ) → 0 < L → v * L ≡ n * d → v < B * d → n * d < B * L * d
    below_top v d L B n P e h = subst (λ t. t < B * L * d) e (subst (λ t. v * L < t) (mul_right_comm B d L) (mul-lt-mul_of_pos_right h P))

    times : (m u L P d : ℕ) → u * L ≡ P * d → m * u * L ≡ m * P * d
    times m u L P d h = mul_assoc m u L ∙ ap (λ t. m * t) h ∙ sym (mul_assoc m P d)

-- ---- a float and its units
pub own_units : (x : Float) → T (fits binary64 x) → T (finite x) → Units x (sign x) (units_of x)
own_units x t f = let w = form x t f in subst (λ n. Units x (sign x) n) (sym w.is) w.value

pub units_are : (x : Float) (s : Bool) (n : ℕ) → Units x s n → units_of x ≡ n
unfolding units_of
units_are nan s n v = absurd v
units_are (inf t) s n v = absurd v
units_are (fin t m e) s n v = ap (λ k. k / down e) v.1 ∙ mul-div_cancel n (down_pos e)

pub finite_of_units : (x : Float) (s : Bool) (n : ℕ) → Units x s n → T (finite x) × (sign x ≡ s)
finite_of_units nan s n v = absurd v
finite_of_units (inf t) s n v = absurd v
finite_of_units (fin t m e) s n v = (tt, v.0)

pub units-pos : (s : Bool) (m : ℕ) (e : ℤ) → T (fits binary64 (fin s (suc m) e)) → 0 < units_of (fin s (suc m) e)
units-pos s m e t = first_pos (units_of (fin s (suc m) e)) (down e) (subst (λ k. 0 < k) (own_units (fin s (suc m) e) t tt).1 (mul-pos (mul-pos (zero-lt-suc m) (up_pos e)) (pow_pos 1074)))

-- another fraction of the same size
pub rescale : (x : Float) (s : Bool) (w l num den : ℕ) → 0 < l → num * l ≡ w * den → HasValue x s w l → HasValue x s num den
rescale nan s w l num den p h v = v
rescale (inf t) s w l num den p h v = v
rescale (fin t m e) s w l num den p h v = (v.0, cross (m * up e) (down e) v.1)
  where
    cross : (a d : ℕ) → a * l ≡ w * d → a * den ≡ num * d
    cross a d k = eq_of_mul-eq-mul_right l p (a * den) (num * d) (omega (arith, ap (λ t. t * den) k, ap (λ t. t * d) h))

-- the sign and the units say which float it is
pub same_float : (x y : Float) → T (fits binary64 x) → T (fits binary64 y) → T (finite x) → T (finite y) → sign x ≡ sign y → units_of x ≡ units_of y → x ≡ y
same_float x y p q f g e u = sym (of_bits-to_bits binary64 x p) ∙ ap (λ n. of_bits binary64 n) (patterns x y f g e u) ∙ of_bits-to_bits binary64 y q
  where
    patterns : (x y : Float) → T (finite x) → T (finite y) → sign x ≡ sign y → units_of x ≡ units_of y → to_bits binary64 x ≡ to_bits binary64 y
    patterns nan y f g e u = absurd f
    patterns (inf s) y f g e u = absurd f
    patterns (fin s m a) nan f g e u = absurd g
    patterns (fin s m a) (inf t) f g e u = absurd g
    patterns (fin s m a) (fin t n b) f g e u =
        unfold to_bits units_of in
        ap (λ r. cond r (top binary64) 0 + (size (m * up a * 2 ^ 1074 / down a) - 53) * hid binary64 + m * up a * 2 ^ 1074 / down a / 2 ^ (size (m * up a * 2 ^ 1074 / down a) - 53)) e
        ∙ ap (λ k. cond t (top binary64) 0 + (size k - 53) * hid binary64 + k / 2 ^ (size k - 53)) u

-- ---- the product
cross_mul : (x d y g a b L : ℕ) → x * L ≡ a * d → y * L ≡ b * g → x * y * (L * L) ≡ a * b * (d * g)
cross_mul x d y g a b L h k = omega (arith, ap (λ t. t * (y * L)) h, ap (λ t. a * d * t) k)

pub mul-units : (x y : Float) (s t : Bool) (a b : ℕ) → Units x s a → Units y t b → mul binary64 x y ≡ round binary64 (unlike s t) (a * b) (2 ^ 1074 * 2 ^ 1074)
unfolding mul
mul-units nan y s t a b v w = absurd v
mul-units (inf u) y s t a b v w = absurd v
mul-units (fin u m e) nan s t a b v w = absurd w
mul-units (fin u m e) (inf r) s t a b v w = absurd w
mul-units (fin u m e) (fin r n d) s t a b v w =
    ap (λ z. round binary64 (unlike z r) (m * up e * (n * up d)) (down e * down d)) v.0
    ∙ ap (λ z. round binary64 (unlike s z) (m * up e * (n * up d)) (down e * down d)) w.0
    ∙ round_same binary64 (unlike s t) (m * up e * (n * up d)) (down e * down d) (a * b) (2 ^ 1074 * 2 ^ 1074) (mul-pos (down_pos e) (down_pos d)) (mul-pos (pow_pos 1074) (pow_pos 1074))
    (cross_mul (m * up e) (down e) (n * up d) (down d) a b (2 ^ 1074) v.1 w.1)

-- ---- the sum
cross_add : (x d y g a b L : ℕ) → x * L ≡ a * d → y * L ≡ b * g → (x * g + y * d) * L ≡ (a + b) * (d * g)
cross_add x d y g a b L h k = omega (arith, ap (λ t. t * g) h, ap (λ t. t * d) k)

cross_sub : (x d y g a b L : ℕ) → x * L ≡ a * d → y * L ≡ b * g → (x * g - y * d) * L ≡ (a - b) * (d * g)
cross_sub x d y g a b L h k = sub-mul (x * g) (y * d) L ∙ join (x * g * L) (y * d * L) (a * (d * g)) (b * (d * g)) (omega (arith, ap (λ t. t * g) h)) (omega (arith, ap (λ t. t * d) k)) ∙ sym (sub-mul a b (d * g))
  where
    join : (p q r s : ℕ) → p ≡ r → q ≡ s → p - q ≡ r - s
    join p q r s e f = omega arith

-- of one sign
same_sign : (s : Bool) (m : ℕ) (e : ℤ) (n : ℕ) (d : ℤ) (a b : ℕ) → m * up e * 2 ^ 1074 ≡ a * down e → n * up d * 2 ^ 1074 ≡ b * down d
    → round binary64 s (m * up e * down d + n * up d * down e) (down e * down d) ≡ round binary64 s (a + b) (2 ^ 1074)
same_sign s m e n d a b v w =
    round_same binary64 s (m * up e * down d + n * up d * down e) (down e * down d) (a + b) (2 ^ 1074) (mul-pos (down_pos e) (down_pos d)) (pow_pos 1074)
    (cross_add (m * up e) (down e) (n * up d) (down d) a b (2 ^ 1074) v w)

pub add-units : (x y : Float) (s : Bool) (a b : ℕ) → Units x s a → Units y s b → add binary64 x y ≡ round binary64 s (a + b) (2 ^ 1074)
unfolding add sum
add-units nan y s a b v w = absurd v
add-units (inf u) y s a b v w = absurd v
add-units (fin u m e) nan s a b v w = absurd w
add-units (fin u m e) (inf r) s a b v w = absurd w
add-units (fin true m e) (fin false n d) s a b v w = absurd (true≢false (v.0 ∙ sym w.0))
add-units (fin false m e) (fin true n d) s a b v w = absurd (true≢false (w.0 ∙ sym v.0))
add-units (fin false m e) (fin false n d) s a b v w = same_sign false m e n d a b v.1 w.1 ∙ ap (λ z. round binary64 z (a + b) (2 ^ 1074)) v.0
add-units (fin true m e) (fin true n d) s a b v w = same_sign true m e n d a b v.1 w.1 ∙ ap (λ z. round binary64 z (a + b) (2 ^ 1074)) v.0

-- any sum is one rounding of a whole number of units, no more than both together
pub record SumOf (y : Float) (most : ℕ) : Type 0 where
  pub s : Bool
  pub n : ℕ
  pub is : y ≡ round binary64 s n (2 ^ 1074)
  pub few : n ≤ most

two_signs : (s t : Bool) (m : ℕ) (e : ℤ) (n : ℕ) (d : ℤ) (a b : ℕ) → m * up e * 2 ^ 1074 ≡ a * down e → n * up d * 2 ^ 1074 ≡ b * down d
    → SumOf (cond (ltb (m * up e * down d) (n * up d * down e)) (round binary64 t (n * up d * down e - m * up e * down d) (down e * down d)) (round binary64 s (m * up e * down d - n * up d * down e) (down e * down d))) (a + b)
two_signs s t m e n d a b v w = go (ltb (m * up e * down d) (n * up d * down e))
  where
    D : 0 < down e * down d
    D = mul-pos (down_pos e) (down_pos d)

    swap : (n * up d * down e - m * up e * down d) * 2 ^ 1074 ≡ (b - a) * (down e * down d)
    swap = cross_sub (n * up d) (down d) (m * up e) (down e) b a (2 ^ 1074) w v ∙ ap (λ k. (b - a) * k) (mul_comm (down d) (down e))

    less : (a b : ℕ) → (a - b ≤ a + b) × (b - a ≤ a + b)
    less a b = (omega arith, omega arith)

    go : (c : Bool) → SumOf (cond c (round binary64 t (n * up d * down e - m * up e * down d) (down e * down d)) (round binary64 s (m * up e * down d - n * up d * down e) (down e * down d))) (a + b)
    go true = record { s = t; n = b - a; is = round_same binary64 t (n * up d * down e - m * up e * down d) (down e * down d) (b - a) (2 ^ 1074) D (pow_pos 1074) swap; few = (less a b).1 }
    go false = record { s = s; n = a - b; is = round_same binary64 s (m * up e * down d - n * up d * down e) (down e * down d) (a - b) (2 ^ 1074) D (pow_pos 1074) (cross_sub (m * up e) (down e) (n * up d) (down d) a b (2 ^ 1074) v w); few = (less a b).0 }

pub add_rounding : (x y : Float) (s t : Bool) (a b : ℕ) → Units x s a → Units y t b → SumOf (add binary64 x y) (a + b)
unfolding add sum
add_rounding nan y s t a b v w = absurd v
add_rounding (inf u) y s t a b v w = absurd v
add_rounding (fin u m e) nan s t a b v w = absurd w
add_rounding (fin u m e) (inf r) s t a b v w = absurd w
add_rounding (fin false m e) (fin false n d) s t a b v w = record { s = false; n = a + b; is = same_sign false m e n d a b v.1 w.1; few = le_refl (a + b) }
add_rounding (fin true m e) (fin true n d) s t a b v w = record { s = true; n = a + b; is = same_sign true m e n d a b v.1 w.1; few = le_refl (a + b) }
add_rounding (fin false m e) (fin true n d) s t a b v w = two_signs false true m e n d a b v.1 w.1
add_rounding (fin true m e) (fin false n d) s t a b v w = two_signs (true && ltb (n * up d * down e) (m * up e * down d)) false m e n d a b v.1 w.1

-- of two signs, the second larger: the difference, with its sign; and of one size: a zero with its sign clear
module _ (m : ℕ) (e : ℤ) (n : ℕ) (d : ℤ) (a b : ℕ) (v : m * up e * 2 ^ 1074 ≡ a * down e) (w : n * up d * 2 ^ 1074 ≡ b * down d) where
  first : m * up e * down d * 2 ^ 1074 ≡ a * (down e * down d)
  first = mul_right_comm (m * up e) (down d) (2 ^ 1074) ∙ ap (λ k. k * down d) v ∙ mul_assoc a (down e) (down d)

  second : n * up d * down e * 2 ^ 1074 ≡ b * (down e * down d)
  second = mul_right_comm (n * up d) (down e) (2 ^ 1074) ∙ ap (λ k. k * down e) w ∙ mul_assoc b (down d) (down e) ∙ ap (λ k. b * k) (mul_comm (down d) (down e))

  under : a < b → T (ltb (m * up e * down d) (n * up d * down e))
  under h = lt→ltb (m * up e * down d) (n * up d * down e) (lt_of_mul-lt-mul_right (2 ^ 1074) (subst (λ k. k < n * up d * down e * 2 ^ 1074) (sym first) (subst (λ k. a * (down e * down d) < k) (sym second) (mul-lt-mul_of_pos_right h (mul-pos (down_pos e) (down_pos d))))))

  level : a ≡ b → m * up e * down d ≡ n * up d * down e
  level h = eq_of_mul-eq-mul_right (2 ^ 1074) (pow_pos 1074) (m * up e * down d) (n * up d * down e) (first ∙ ap (λ k. k * (down e * down d)) h ∙ sym second)

  larger : (t : Bool) → a < b → round binary64 t (n * up d * down e - m * up e * down d) (down e * down d) ≡ round binary64 t (b - a) (2 ^ 1074)
  larger t h = round_same binary64 t (n * up d * down e - m * up e * down d) (down e * down d) (b - a) (2 ^ 1074) (mul-pos (down_pos e) (down_pos d)) (pow_pos 1074)
      (cross_sub (n * up d) (down d) (m * up e) (down e) b a (2 ^ 1074) w v ∙ ap (λ k. (b - a) * k) (mul_comm (down d) (down e)))

  equal : a ≡ b → round binary64 false (m * up e * down d - n * up d * down e) (down e * down d) ≡ round binary64 false 0 (2 ^ 1074)
  equal h = ap (λ k. round binary64 false k (down e * down d)) (gone (m * up e * down d) (n * up d * down e) (level h)) ∙ round_same binary64 false 0 (down e * down d) 0 (2 ^ 1074) (mul-pos (down_pos e) (down_pos d)) (pow_pos 1074) (zero-mul (2 ^ 1074) ∙ sym (zero-mul (down e * down d)))
    where
      gone : (x y : ℕ) → x ≡ y → x - y ≡ 0
      gone x y e = omega arith

  not_under : (x y : ℕ) → x ≡ y → ltb x y ≡ false
  not_under x y e = is_false (ltb x y) (le→nltb x y (le_of_eq (sym e)))

pub add-larger : (x y : Float) (s : Bool) (a b : ℕ) → Units x s a → Units y (not s) b → a < b → add binary64 x y ≡ round binary64 (not s) (b - a) (2 ^ 1074)
unfolding add sum
add-larger nan y s a b v w h = absurd v
add-larger (inf u) y s a b v w h = absurd v
add-larger (fin u m e) nan s a b v w h = absurd w
add-larger (fin u m e) (inf r) s a b v w h = absurd w
add-larger (fin true m e) (fin true n d) true a b v w h = absurd (true≢false w.0)
add-larger (fin true m e) (fin true n d) false a b v w h = absurd (true≢false v.0)
add-larger (fin false m e) (fin false n d) true a b v w h = absurd (true≢false (sym v.0))
add-larger (fin false m e) (fin false n d) false a b v w h = absurd (true≢false (sym w.0))
add-larger (fin true m e) (fin false n d) true a b v w h = rw (is_true (ltb (m * up e * down d) (n * up d * down e)) (under m e n d a b v.1 w.1 h)) (larger m e n d a b v.1 w.1 false h)
add-larger (fin true m e) (fin false n d) false a b v w h = absurd (true≢false v.0)
add-larger (fin false m e) (fin true n d) false a b v w h = rw (is_true (ltb (m * up e * down d) (n * up d * down e)) (under m e n d a b v.1 w.1 h)) (larger m e n d a b v.1 w.1 true h)
add-larger (fin false m e) (fin true n d) true a b v w h = absurd (true≢false (sym v.0))

pub add_equal : (x y : Float) (s : Bool) (a b : ℕ) → Units x s a → Units y (not s) b → a ≡ b → add binary64 x y ≡ round binary64 false 0 (2 ^ 1074)
unfolding add sum
add_equal nan y s a b v w h = absurd v
add_equal (inf u) y s a b v w h = absurd v
add_equal (fin u m e) nan s a b v w h = absurd w
add_equal (fin u m e) (inf r) s a b v w h = absurd w
add_equal (fin true m e) (fin true n d) true a b v w h = absurd (true≢false w.0)
add_equal (fin true m e) (fin true n d) false a b v w h = absurd (true≢false v.0)
add_equal (fin false m e) (fin false n d) true a b v w h = absurd (true≢false (sym v.0))
add_equal (fin false m e) (fin false n d) false a b v w h = absurd (true≢false (sym w.0))
add_equal (fin true m e) (fin false n d) true a b v w h =
    let l = level m e n d a b v.1 w.1 h in
    rw (not_under m e n d a b v.1 w.1 (m * up e * down d) (n * up d * down e) l, not_under m e n d a b v.1 w.1 (n * up d * down e) (m * up e * down d) (sym l)) (equal m e n d a b v.1 w.1 h)
add_equal (fin true m e) (fin false n d) false a b v w h = absurd (true≢false v.0)
add_equal (fin false m e) (fin true n d) false a b v w h = rw (not_under m e n d a b v.1 w.1 (m * up e * down d) (n * up d * down e) (level m e n d a b v.1 w.1 h)) (equal m e n d a b v.1 w.1 h)
add_equal (fin false m e) (fin true n d) true a b v w h = absurd (true≢false (sym v.0))

-- a difference of floats that have their signs clear, the second not larger
pub sub-units : (x y : Float) (a b : ℕ) → Units x false a → Units y false b → b ≤ a → sub binary64 x y ≡ round binary64 false (a - b) (2 ^ 1074)
unfolding sub add sum neg
sub-units nan y a b v w h = absurd v
sub-units (inf u) y a b v w h = absurd v
sub-units (fin u m e) nan a b v w h = absurd w
sub-units (fin u m e) (inf r) a b v w h = absurd w
sub-units (fin true m e) (fin r n d) a b v w h = absurd (true≢false v.0)
sub-units (fin false m e) (fin true n d) a b v w h = absurd (true≢false w.0)
sub-units (fin false m e) (fin false n d) a b v w h =
    rw (is_false (ltb (m * up e * down d) (n * up d * down e)) (le→nltb (m * up e * down d) (n * up d * down e) over))
    (round_same binary64 false (m * up e * down d - n * up d * down e) (down e * down d) (a - b) (2 ^ 1074) (mul-pos (down_pos e) (down_pos d)) (pow_pos 1074) (cross_sub (m * up e) (down e) (n * up d) (down d) a b (2 ^ 1074) v.1 w.1))
  where
    over : n * up d * down e ≤ m * up e * down d
    over = le_of_mul-le-mul_right {k = 2 ^ 1074} (subst (λ k. k ≤ m * up e * down d * 2 ^ 1074) (sym (second m e n d a b v.1 w.1)) (subst (λ k. b * (down e * down d) ≤ k) (sym (first m e n d a b v.1 w.1)) (mul-le-mul_right (down e * down d) h))) (pow_pos 1074)

-- ---- the quotient
cross_div : (x d y g a b L : ℕ) → 0 < L → x * L ≡ a * d → y * L ≡ b * g → x * g * b ≡ a * (y * d)
cross_div x d y g a b L P h k = eq_of_mul-eq-mul_right L P (x * g * b) (a * (y * d)) (omega (arith, ap (λ t. t * (g * b)) h, ap (λ t. t * (a * d)) k))

not-zero : (y b g L : ℕ) → 0 < b → 0 < g → y ≡ 0 → y * L ≡ b * g → ⊥
not-zero y b g L B G e h = lt_irrefl 0 (subst (λ k. 0 < k) (sym h ∙ ap (λ k. k * L) e ∙ zero-mul L) (mul-pos B G))

pub div-units : (x y : Float) (s t : Bool) (a b : ℕ) → 0 < b → Units x s a → Units y t b → div binary64 x y ≡ round binary64 (unlike s t) a b
unfolding div
div-units nan y s t a b B v w = absurd v
div-units (inf u) y s t a b B v w = absurd v
div-units (fin u m e) nan s t a b B v w = absurd w
div-units (fin u m e) (inf r) s t a b B v w = absurd w
div-units (fin u m e) (fin r n d) s t a b B v w =
    cond_no (eqb n 0) (cond (eqb m 0) nan (inf (unlike u r))) (round binary64 (unlike u r) (m * up e * down d) (n * up d * down e)) (not_T (eqb n 0) (λ z. not-zero (n * up d) b (down d) (2 ^ 1074) B (down_pos d) (ap (λ k. k * up d) (eqb→eq n 0 z) ∙ zero-mul (up d)) w.1))
    ∙ ap (λ z. round binary64 (unlike z r) (m * up e * down d) (n * up d * down e)) v.0
    ∙ ap (λ z. round binary64 (unlike s z) (m * up e * down d) (n * up d * down e)) w.0
    ∙ round_same binary64 (unlike s t) (m * up e * down d) (n * up d * down e) a b (mul-pos (first_pos (n * up d) (2 ^ 1074) (subst (λ k. 0 < k) (sym w.1) (mul-pos B (down_pos d)))) (down_pos e)) B
    (cross_div (m * up e) (down e) (n * up d) (down d) a b (2 ^ 1074) (pow_pos 1074) v.1 w.1)

-- ---- the opposite
pub neg-units : (x : Float) (s : Bool) (a : ℕ) → Units x s a → Units (neg x) (not s) a
unfolding neg
neg-units nan s a v = absurd v
neg-units (inf t) s a v = absurd v
neg-units (fin t m e) s a v = (ap not v.0, v.1)
