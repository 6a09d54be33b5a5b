-- The arctangent of two f64s: what its code owes, and that it is what document 01 asks.
use mathlib.Core.Path.{◌≡◌, refl, sym, ap, ◌∙◌, subst, subst₂}
use mathlib.Core.Bool.{Bool, true, false, not, cond, ◌&&◌, true≢false}
use Prim.Native.Nat.{ℕ, ◌+◌, ◌*◌, ◌^◌, ◌/◌, ◌≤◌, ◌<◌}
use native.Mathlib.Nat.{le_of_lt, lt_of_le_of_lt, mul-le-mul_right, div-eq_of_lt, lt_of_lt_of_le}
use native.Mathlib.Omega.{arith}
use lib.IntN.{pos, negsuc}
use lib.Dec.{T, eqb, ltb, ltb→lt, nltb→le, lt→ltb, eqb→eq, lit<, lit≤}
use lib.Pow.{pow_pos, pow_mono}
use lib.Ieee.{Float, nan, inf, fin, binary64, fits, round, mul, lt, eq, below, is_nan, of_bits, size}
use lib.Ieee.Bits.{is_true}
use lib.Ieee.Exact.{HasValue}
use lib.Ieee.Fits.{round-fits, mul-fits, and_l, and_r, eq→eqb}
use lib.Ieee.Scale.{finite}
use Rattle.laws.specs.Units.{Units, sign, units_of}
use Rattle.laws.proofs.Bools.{holds, fails, refuted, and-false}
use Rattle.laws.proofs.Compare.{lt-units, lt-units-signed, eq-units}
use Rattle.laws.proofs.Exact.{finite_of_value, value-units, round_power, mul_power}
use Rattle.laws.proofs.Units.{form, own_units, units_are, finite_of_units}
use Rattle.math.specs.Sign.{abs}
use Rattle.math.proofs.Sign.{units_of-abs}
use Rattle.trigonometry.specs.Angle.{half_pi, whole}
use Rattle.grid.specs.Grid.{last_step}
use Rattle.grid.specs.Arcsine.{half_pi_steps}
use Rattle.grid.specs.Arctangent.{arctangent_steps, placed}
use Rattle.grid.specs.Enclosure.{IsArctangent}
use Rattle.grid.proofs.Arctangents.{is_arctangent}
use Rattle.grid.proofs.Octant.{arctangent_found}
use Rattle.grid.proofs.Placing.{Around, across, along, arctangent_around}
use Rattle.grid.proofs.Rescaling.{same_arctangent, same_point}
use Rattle.inverse_trigonometry.specs.Asin.{zero}
use Rattle.inverse_trigonometry.specs.declared.arctangent.Magnitude.{Magnitude}
use Rattle.inverse_trigonometry.specs.Atan2.{scaled_by, octant, angle_steps, both_finite, atan2, IsAngle, IsAtan2}
use Rattle.inverse_trigonometry.proofs.Octants.{scaled_exact, scaled-least}

-- ---- the sizes of the answers
octant-few : (n a : ℕ) → octant n a ≤ last_step
unfolding octant
octant-few n a = (arctangent_found (scaled_by n n) (scaled_by n a)).within

pub placed-few : (steep left : Bool) (t : ℕ) → t ≤ last_step → placed steep left t < 2 ^ 53
unfolding placed
placed-few false false t h = omega arith
placed-few true false t h = omega arith
placed-few false true t h = omega arith
placed-few true true t h = omega arith

pub angle_few : (left : Bool) (x y : ℕ) → angle_steps left x y < 2 ^ 53
unfolding angle_steps
angle_few left x y = go (eqb y 0) (eqb x 0) (ltb x y) left
  where
    go : (a b c left : Bool) → cond a (cond left (2 * half_pi_steps) 0) (cond b half_pi_steps (cond c (placed true left (octant y x)) (placed false left (octant x y)))) < 2 ^ 53
    go true b c true = lit< tt
    go true b c false = lit< tt
    go false true c left = lit< tt
    go false false true left = placed-few true left (octant y x) (octant-few y x)
    go false false false left = placed-few false left (octant x y) (octant-few x y)

-- ---- off the axes
-- a number of 53 digits, times a power of two
record Short (n : ℕ) : Type 0 where
  q : ℕ
  j : ℕ
  few : q < 2 ^ 53
  is : n ≡ q * 2 ^ j

module _ (minus left : Bool) where
  by_octant : (steep : Bool) (n a : ℕ) → Short n → 0 < n → a ≤ n → IsArctangent minus left (across steep n a) (along steep n a) (placed steep left (octant n a)) (2 ^ 49)
  unfolding octant scaled_by
  by_octant steep n a s h l = go steep (is_arctangent minus left _ _ _ (subst (λ z. Around left (across steep z (a * 2 ^ 58)) (along steep z (a * 2 ^ 58)) (placed steep left (arctangent_steps (scaled_by n n) (a * 2 ^ 58 / 2 ^ size n)))) e (arctangent_around steep left (scaled_by n n) (a * 2 ^ 58) (2 ^ size n) (pow_pos (size n)) (scaled-least n s.q s.j s.few s.is h) (subst (λ z. a * 2 ^ 58 ≤ z) (sym e) (mul-le-mul_right (2 ^ 58) l)))))
    where
      e : scaled_by n n * 2 ^ size n ≡ n * 2 ^ 58
      e = scaled_exact n s.q s.j s.few s.is h

      go : (steep : Bool) → IsArctangent minus left (across steep (n * 2 ^ 58) (a * 2 ^ 58)) (along steep (n * 2 ^ 58) (a * 2 ^ 58)) (placed steep left (octant n a)) (2 ^ 49) → IsArctangent minus left (across steep n a) (along steep n a) (placed steep left (octant n a)) (2 ^ 49)
      go true r = same_point (2 ^ 58) (lit< tt) minus left a n _ _ r
      go false r = same_point (2 ^ 58) (lit< tt) minus left n a _ _ r

  slanted : (x y : ℕ) → Short x → Short y → 0 < x → 0 < y → IsArctangent minus left x y (angle_steps left x y) (2 ^ 49)
  unfolding angle_steps
  slanted x y s t hx hy = rw (none y hy, none x hx) (go (ltb x y) (ltb→lt x y) (nltb→le x y))
    where
      none : (n : ℕ) → 0 < n → eqb n 0 ≡ false
      none n h = refuted (eqb n 0) (λ t. never n h (eqb→eq n 0 t))
        where
          never : (n : ℕ) → 0 < n → n ≡ 0 → ⊥
          never n h e = omega arith

      go : (b : Bool) → (T b → x < y) → (T (not b) → y ≤ x) → IsArctangent minus left x y (cond b (placed true left (octant y x)) (placed false left (octant x y))) (2 ^ 49)
      go true f g = by_octant true y x t hy (le_of_lt (f tt))
      go false f g = by_octant false x y s hx (g tt)

-- ---- the order with 0
module _ (x : Float) (t : T (fits binary64 x)) (f : T (finite x)) where
  below_zero : (s : Bool) → sign x ≡ s → lt x zero ≡ below s (units_of x) false 0
  below_zero s e = lt-units-signed x zero s false (units_of x) 0 (subst (λ s. Units x s (units_of x)) e (own_units x t f)) (unfold of_bits in (refl, refl))

  above_zero : (s : Bool) → sign x ≡ s → lt zero x ≡ below false 0 s (units_of x)
  above_zero s e = lt-units-signed zero x false s 0 (units_of x) (unfold of_bits in (refl, refl)) (subst (λ s. Units x s (units_of x)) e (own_units x t f))

  -- 0 is not below 0, and any other number is by its sign
  zero_not_below : units_of x ≡ 0 → lt x zero ≡ false
  zero_not_below z = go (sign x) refl
    where
      go : (s : Bool) → sign x ≡ s → lt x zero ≡ false
      go true e = below_zero true e ∙ ap (λ n. ltb 0 (n + 0)) z
      go false e = below_zero false e ∙ ap (λ n. ltb n 0) z

  pub below_by_sign : 0 < units_of x → lt x zero ≡ sign x
  below_by_sign h = go (sign x) refl
    where
      go : (s : Bool) → sign x ≡ s → lt x zero ≡ s
      go true e = below_zero true e ∙ is_true (ltb 0 (units_of x + 0)) (lt→ltb 0 (units_of x + 0) (more (units_of x) h))
        where
          more : (n : ℕ) → 0 < n → 0 < n + 0
          more n h = omega arith
      go false e = below_zero false e ∙ refuted (ltb (units_of x) 0) (λ t. never (units_of x) (ltb→lt (units_of x) 0 t))
        where
          never : (n : ℕ) → n < 0 → ⊥
          never n h = omega arith

  -- what is below 0 or above it has a size
  sized_below : lt x zero ≡ true → 0 < units_of x
  sized_below h = by_size (λ z. true≢false (sym h ∙ zero_not_below z))
    where
      by_size : (units_of x ≡ 0 → ⊥) → 0 < units_of x
      by_size f = go (units_of x) f
        where
          go : (n : ℕ) → (n ≡ 0 → ⊥) → 0 < n
          go n f = omega (arith, f)

  positive_above : lt zero x ≡ true → (0 < units_of x) × (lt x zero ≡ false)
  positive_above h = go (sign x) refl
    where
      go : (s : Bool) → sign x ≡ s → (0 < units_of x) × (lt x zero ≡ false)
      go true e = absurd (true≢false (sym h ∙ above_zero true e))
      go false e = let l : 0 < units_of x = ltb→lt 0 (units_of x) (holds (sym (above_zero false e) ∙ h)) in (l, below_by_sign l ∙ e)

-- ---- the f64 nearest to half pi and to pi
nearest_half : (s : Bool) → round binary64 s half_pi_steps (2 ^ 49) ≡ round binary64 s half_pi whole
nearest_half s = steps s ∙ sym (fraction s)
  where
    steps : (s : Bool) → round binary64 s half_pi_steps (2 ^ 49) ≡ fin s 884279719003555 (negsuc 48)
    steps true = unfold round in refl
    steps false = unfold round in refl

    fraction : (s : Bool) → round binary64 s half_pi whole ≡ fin s 884279719003555 (negsuc 48)
    fraction true = unfold round in refl
    fraction false = unfold round in refl

nearest-pi : round binary64 false (2 * half_pi_steps) (2 ^ 49) ≡ round binary64 false (2 * half_pi) whole
nearest-pi = steps ∙ sym fraction
  where
    steps : round binary64 false (2 * half_pi_steps) (2 ^ 49) ≡ fin false 884279719003555 (negsuc 47)
    steps = unfold round in refl

    fraction : round binary64 false (2 * half_pi) whole ≡ fin false 884279719003555 (negsuc 47)
    fraction = unfold round in refl

-- ---- the theorem
short : (x : Float) → T (fits binary64 x) → T (finite x) → Short (units_of x)
short x t f = let o = form x t f in record { q = o.q; j = o.j; few = o.few; is = o.is }

module _ (y x : Float) (ty : T (fits binary64 y)) (tx : T (fits binary64 x)) (fy : T (finite y)) (fx : T (finite x)) where
  -- the answer, for the tests' values
  abbrev answer : (minus left : Bool) → Float
  answer minus left = round binary64 minus (angle_steps left (units_of x) (units_of y)) (2 ^ 49)

  value : (minus left : Bool) → HasValue (answer minus left) minus (angle_steps left (units_of x) (units_of y)) (2 ^ 49)
  value minus left = round_power minus (angle_steps left (units_of x) (units_of y)) 49 (angle_few left (units_of x) (units_of y)) (lit≤ tt)

  units : (minus left : Bool) → units_of (answer minus left) * 2 ^ 49 ≡ angle_steps left (units_of x) (units_of y) * 2 ^ 1074
  units minus left = value-units (answer minus left) minus (angle_steps left (units_of x) (units_of y)) (2 ^ 49) (round-fits binary64 minus (angle_steps left (units_of x) (units_of y)) (2 ^ 49)) (value minus left)

  -- on the axes
  on_axis : (left : Bool) → units_of y ≡ 0 → angle_steps left (units_of x) (units_of y) ≡ cond left (2 * half_pi_steps) 0
  unfolding angle_steps
  on_axis left e = rw e refl

  across_axis : (left : Bool) → units_of x ≡ 0 → 0 < units_of y → angle_steps left (units_of x) (units_of y) ≡ half_pi_steps
  unfolding angle_steps
  across_axis left e h = rw (e, refuted (eqb (units_of y) 0) (λ t. never (units_of y) h (eqb→eq (units_of y) 0 t))) refl
    where
      never : (n : ℕ) → 0 < n → n ≡ 0 → ⊥
      never n h e = omega arith

  flat : (minus : Bool) → units_of y ≡ 0 → units_of (answer minus false) ≡ 0
  flat minus e = none (units_of (answer minus false)) (angle_steps false (units_of x) (units_of y)) (2 ^ 1074) (on_axis false e) (units minus false)
    where
      none : (u n L : ℕ) → n ≡ 0 → u * 2 ^ 49 ≡ n * L → u ≡ 0
      none u n L e f = omega (arith, ap (λ z. z * L) e)

  is_angle : (minus left : Bool) → lt y zero ≡ minus → lt x zero ≡ left → IsAngle y x (answer minus left)
  is_angle minus left em el =
      record {
        held = round-fits binary64 minus (angle_steps left (units_of x) (units_of y)) (2 ^ 49);
        number = (finite_of_value (answer minus left) minus (angle_steps left (units_of x) (units_of y)) (2 ^ 49) (value minus left)).0;
        zeros = λ e z. subst (λ b. units_of (answer minus b) ≡ 0) (sym (zero_not_below x tx fx z) ∙ el) (flat minus e);
        ahead = λ e b. subst (λ b. units_of (answer minus b) ≡ 0) (sym b ∙ el) (flat minus e);
        behind = λ e b. ap (λ m. answer m left) (sym em ∙ zero_not_below y ty fy e) ∙ ap (λ n. round binary64 false n (2 ^ 49)) (ap (λ b. angle_steps b (units_of x) (units_of y)) (sym el ∙ b) ∙ on_axis true e) ∙ nearest-pi;
        up = λ e b. let p = positive_above y ty fy b in ap (λ m. answer m left) (sym em ∙ p.1) ∙ ap (λ n. round binary64 false n (2 ^ 49)) (across_axis left e p.0) ∙ nearest_half false;
        down = λ e b. ap (λ m. answer m left) (sym em ∙ b) ∙ ap (λ n. round binary64 true n (2 ^ 49)) (across_axis left e (sized_below y ty fy b)) ∙ nearest_half true;
        sign_of_y = λ hx hy. (finite_of_value (answer minus left) minus (angle_steps left (units_of x) (units_of y)) (2 ^ 49) (value minus left)).1 ∙ sym em ∙ below_by_sign y ty fy hy;
        enclosed = λ hx hy. subst₂ (λ m l. IsArctangent m l (units_of x) (units_of y) (units_of (answer minus left)) (2 ^ 1074)) (sym em ∙ below_by_sign y ty fy hy) (sym el ∙ below_by_sign x tx fx hx) (same_arctangent (angle_steps left (units_of x) (units_of y)) (2 ^ 49) (units_of (answer minus left)) (2 ^ 1074) (lit< tt) (units minus left) minus left (units_of x) (units_of y) (slanted minus left (units_of x) (units_of y) (short x tx fx) (short y ty fy) hx hy));
      }

pub arctangent_is : (y x : Float) → T (fits binary64 y) → T (fits binary64 x) → IsAtan2 y x (atan2 y x)
unfolding atan2 both_finite
arctangent_is y x ty tx = record { inside = λ f. subst (λ b. IsAngle y x (cond b number nan)) (sym (is_true (finite y && finite x) f)) (is_angle y x ty tx (and_l (finite y) (finite x) f) (and_r (finite y) (finite x) f) (lt y zero) (lt x zero) refl refl); outside = λ f. none (finite y && finite x) f }
  where
    number : Float
    number = round binary64 (lt y zero) (angle_steps (lt x zero) (units_of x) (units_of y)) (2 ^ 49)

    none : (b : Bool) → T (not b) → cond b number nan ≡ nan
    none false d = refl
    none true d = elim d [ ]

-- ---- what the code owes
pub not-nan : (x : Float) → T (finite x) → T (not (is_nan x))
unfolding is_nan
not-nan nan f = absurd f
not-nan (inf s) f = absurd f
not-nan (fin s m e) f = tt

-- past the last of 64 digits nothing is left
pub all_cut : (n k : ℕ) → n < 2 ^ 64 → 64 ≤ k → 0 ≡ n / 2 ^ k
all_cut n k h l = sym (div-eq_of_lt (lt_of_lt_of_le h (pow_mono l)))

-- ---- a small number raised
module _ (n : Magnitude) (h : units_of n.value < 2 ^ 52) where
  product : Units (mul binary64 n.value (fin false 1 (pos 54))) (sign n.value) (units_of n.value * 2 ^ 54)
  product = mul_power n.value 54 (holds n.held) (holds n.number) (lt_of_le_of_lt (mul-le-mul_right (2 ^ 54) (le_of_lt h)) (lit< tt))

  pub raised-held : fits binary64 (mul binary64 n.value (fin false 1 (pos 54))) ≡ true
  raised-held = is_true _ (mul-fits binary64 n.value (fin false 1 (pos 54)))

  pub raised-clear : (finite (mul binary64 n.value (fin false 1 (pos 54))) ≡ true) × (sign (mul binary64 n.value (fin false 1 (pos 54))) ≡ false)
  raised-clear = let r = finite_of_units (mul binary64 n.value (fin false 1 (pos 54))) (sign n.value) (units_of n.value * 2 ^ 54) product in (is_true _ r.0, r.1 ∙ n.clear)

  pub raised-units : units_of (mul binary64 n.value (fin false 1 (pos 54))) ≡ units_of n.value * 2 ^ 54
  raised-units = units_are (mul binary64 n.value (fin false 1 (pos 54))) (sign n.value) (units_of n.value * 2 ^ 54) product

-- the test for that
clear_units : (n : Magnitude) → Units n.value false (units_of n.value)
clear_units n = subst (λ b. Units n.value b (units_of n.value)) n.clear (own_units n.value (holds n.held) (holds n.number))

normal_units_is : (n : Magnitude) → lt n.value (of_bits binary64 0x0010_0000_0000_0000) ≡ ltb (units_of n.value) (2 ^ 52)
normal_units_is n = lt-units n.value (of_bits binary64 0x0010_0000_0000_0000) (units_of n.value) (2 ^ 52) (clear_units n) (unfold of_bits in (refl, refl))

pub is_subnormal : (n : Magnitude) → lt n.value (of_bits binary64 0x0010_0000_0000_0000) ≡ true → units_of n.value < 2 ^ 52
is_subnormal n h = ltb→lt (units_of n.value) (2 ^ 52) (holds (sym (normal_units_is n) ∙ h))

pub is_normal : (n : Magnitude) → lt n.value (of_bits binary64 0x0010_0000_0000_0000) ≡ false → 2 ^ 52 ≤ units_of n.value
is_normal n h = nltb→le (units_of n.value) (2 ^ 52) (subst (λ b. T (not b)) (sym h ∙ normal_units_is n) tt)

-- ---- the cases of the angle
pub flat_case : (left : Bool) (x y : ℕ) → eqb y 0 ≡ true → cond left (2 * half_pi_steps) 0 ≡ angle_steps left x y
unfolding angle_steps
flat_case left x y e = rw e refl

pub upright_case : (left : Bool) (x y : ℕ) → eqb y 0 ≡ false → eqb x 0 ≡ true → half_pi_steps ≡ angle_steps left x y
unfolding angle_steps
upright_case left x y e f = rw (e, f) refl

pub steep_case : (left : Bool) (x y t r : ℕ) → eqb y 0 ≡ false → eqb x 0 ≡ false → ltb x y ≡ true → t ≡ octant y x → r ≡ placed true left t → r ≡ angle_steps left x y
unfolding angle_steps
steep_case left x y t r e f g h k = rw (e, f, g) (k ∙ ap (λ t. placed true left t) h)

pub low_case : (left : Bool) (x y t r : ℕ) → eqb y 0 ≡ false → eqb x 0 ≡ false → ltb x y ≡ false → t ≡ octant x y → r ≡ placed false left t → r ≡ angle_steps left x y
unfolding angle_steps
low_case left x y t r e f g h k = rw (e, f, g) (k ∙ ap (λ t. placed false left t) h)

-- the tests of the code, on positive numbers
pub is_zero : (n : Magnitude) → {b : Bool} → eq n.value zero ≡ b → eqb (units_of n.value) 0 ≡ b
is_zero n e = sym (eq-units n.value zero (units_of n.value) 0 (clear_units n) (unfold of_bits in (refl, refl))) ∙ e

pub not-zero : (n : Magnitude) → eq n.value zero ≡ false → 0 < units_of n.value
not-zero n e = go (units_of n.value) (is_zero n e)
  where
    go : (n : ℕ) → eqb n 0 ≡ false → 0 < n
    go n e = by_size n (λ z. fails e (eq→eqb z))
      where
        by_size : (n : ℕ) → (n ≡ 0 → ⊥) → 0 < n
        by_size n f = omega (arith, f)

pub is_below : (n m : Magnitude) → {b : Bool} → lt n.value m.value ≡ b → ltb (units_of n.value) (units_of m.value) ≡ b
is_below n m e = sym (lt-units n.value m.value (units_of n.value) (units_of m.value) (clear_units n) (clear_units m)) ∙ e

-- ---- the answer
pub answer_finite : (y x r : Float) (a b : Float) (fy fx : Bool) (t : ℕ) → fy ≡ finite y → fx ≡ finite x → fy ≡ true → fx ≡ true → a ≡ abs x → b ≡ abs y → t ≡ angle_steps (lt x zero) (units_of a) (units_of b) → r ≡ round binary64 (lt y zero) t (2 ^ 49) → r ≡ atan2 y x
unfolding atan2 both_finite
answer_finite y x r a b fy fx t ey ex hy hx ea eb et er = rw (sym ey ∙ hy, sym ex ∙ hx) (er ∙ ap (λ t. round binary64 (lt y zero) t (2 ^ 49)) (et ∙ ap (λ n. angle_steps (lt x zero) n (units_of b)) (ap units_of ea ∙ units_of-abs x) ∙ ap (λ n. angle_steps (lt x zero) (units_of x) n) (ap units_of eb ∙ units_of-abs y)))

pub answer_no_x : (y x : Float) (fx : Bool) → fx ≡ finite x → fx ≡ false → nan ≡ atan2 y x
unfolding atan2 both_finite
answer_no_x y x fx e h = rw (sym e ∙ h, and-false (finite y)) refl

pub answer_no_y : (y x : Float) (fy : Bool) → fy ≡ finite y → fy ≡ false → nan ≡ atan2 y x
unfolding atan2 both_finite
answer_no_y y x fy e h = rw (sym e ∙ h) refl

-- a finite number's size is finite and has its sign clear
pub size_of : (x : Float) → finite x ≡ true → (finite (abs x) ≡ true) × (sign (abs x) ≡ false)
size_of x h = go x (holds h)
  where
    go : (x : Float) → T (finite x) → (finite (abs x) ≡ true) × (sign (abs x) ≡ false)
    go nan f = absurd f
    go (inf s) f = absurd f
    go (fin s m e) f = unfold abs in (refl, refl)
