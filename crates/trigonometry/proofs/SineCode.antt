-- What the code owes, step by step.
use Rattle.std.proofs.Common.{◌≡◌, ℕ, suc, ◌+◌, ◌*◌, ◌/◌, ◌%◌, ◌^◌, ◌<◌, ◌≤◌, Bool, true, false, cond, not, T, eqb, ltb, leb, pos, negsuc, sym, refl, ap, ◌∙◌, subst, le_trans, lt_of_le_of_lt, mul-le-mul_right, arith, lit<, lit≤, ltb→lt, lt→ltb, nltb→le, pow_pos}
use native.Mathlib.Nat.{div-le_of_le-mul}
use Rattle.std.specs.Prelude.{MatchOption}
use Rattle.std.specs.Prelude.{Some, None, IfSome, is_some}
use Rattle.std.specs.declared.option.Option.{Option}
use Rattle.std.specs.Int.{abs_diff}
use lib.Ieee.{Float, nan, inf, fin, binary64, fits, up, down, neg, mul, round, to_unsigned, lt, le, unlike, of_bits}
use lib.Ieee.Bits.{is_true}
use lib.Ieee.Exact.{HasValue}
use lib.Ieee.Fits.{eq→eqb}
use lib.Ieee.Scale.{finite}
use Rattle.laws.specs.Units.{Units, sign, units_of}
use Rattle.laws.proofs.Bools.{holds, fails, refuted}
use Rattle.laws.proofs.Compare.{lt-units, lt-units-signed}
use Rattle.laws.proofs.Exact.{mul_power, to_unsigned_lem, castable_value}
use Rattle.laws.proofs.Units.{own_units}
use Rattle.math.specs.Sign.{abs}
use Rattle.math.proofs.Sign.{abs-units, units_of-abs, neg-round}
use Rattle.trigonometry.specs.Angle.{distance, quarters, even, negative}
use Rattle.trigonometry.specs.Units.{one, half_pi_units, rest, removed, sine_units, cosine_units, turned_minus, turned_units}
use Rattle.trigonometry.specs.Sine.{largest, tiny, in_domain, scaled, from_units, sin, cos}
use Rattle.trigonometry.proofs.Bound.{in-domain, reduced_float}

-- ---- units
module _ (a : Float) (t : T (fits binary64 a)) (d : T (in_domain a)) (s : sign a ≡ false) where
  f : T (finite a) × (units_of a ≤ 16 * 2 ^ 1074)
  f = in-domain a t d

  product : HasValue (mul binary64 a (fin false 1 (pos 58))) false (units_of a * 2 ^ 58) (2 ^ 1074)
  product = subst (λ b. Units (mul binary64 a (fin false 1 (pos 58))) b (units_of a * 2 ^ 58)) s (mul_power a 58 t f.0 (lt_of_le_of_lt (mul-le-mul_right (2 ^ 58) f.1) (lit< tt)))

  few : units_of a * 2 ^ 58 / 2 ^ 1074 ≤ 2 ^ 62
  few = div-le_of_le-mul (2 ^ 1074) (le_trans (mul-le-mul_right (2 ^ 58) f.1) (lit≤ tt))

  pub units_asks : T (lt (fin true 1 (pos 0)) (mul binary64 a (fin false 1 (pos 58)))) × T (lt (mul binary64 a (fin false 1 (pos 58))) (fin false 1 (pos 64)))
  units_asks = castable_value (mul binary64 a (fin false 1 (pos 58))) (units_of a * 2 ^ 58) (2 ^ 1074) (pow_pos 1074) product (lt_of_le_of_lt (mul-le-mul_right (2 ^ 58) f.1) (lit< tt))

  pub units_is : (r : ℕ) → r ≡ to_unsigned 64 (mul binary64 a (fin false 1 (pos 58))) → (r ≡ scaled a) × (r ≤ 2 ^ 62)
  unfolding scaled
  units_is r e = let g : r ≡ units_of a * 2 ^ 58 / 2 ^ 1074 = e ∙ to_unsigned_lem 64 (mul binary64 a (fin false 1 (pos 58))) (units_of a * 2 ^ 58) (2 ^ 1074) (pow_pos 1074) product (lt_of_le_of_lt few (lit< tt)) in (g, subst (λ n. n ≤ 2 ^ 62) (sym g) few)

-- ---- from units
pub grid_is : (m : Bool) (v : ℕ) → v ≤ 2 ^ 58 → (y : Float) → ((i : ℕ) → (v + 16) / 32 ≤ 2 ^ 53 → fin false 1 (negsuc 52) ≡ fin false 1 (negsuc i) → y ≡ round binary64 m ((v + 16) / 32) (2 ^ suc i)) → y ≡ from_units m v
unfolding from_units
grid_is m v h y e = e 52 (omega arith) refl

-- ---- turned
module _ (n more k left : ℕ) (ek : k ≡ quarters n one) (el : left ≡ abs_diff n (k * 452751216129820177)) where
  left_is : left ≡ rest n
  unfolding rest removed distance
  left_is = el ∙ ap (λ z. distance n (z * half_pi_units)) ek

  pub left_few : rest n ≤ 2 ^ 58 → left ≤ 2 ^ 58
  left_few h = subst (λ r. r ≤ 2 ^ 58) (sym left_is) h

  pub by_sine : (v : ℕ) (y : Float) → v ≡ sine_units one left → (k + more) % 2 ≡ 0 → y ≡ from_units (unlike (leb 2 ((k + more) % 4)) (ltb n (k * 452751216129820177))) v → y ≡ from_units (turned_minus more n) (turned_units more n)
  unfolding turned_minus turned_units negative even removed
  by_sine v y ev p g = rw (← ek, is_true (eqb ((k + more) % 2) 0) (eq→eqb p), ← left_is, ← ev) g

  pub by_cosine : (v : ℕ) (y : Float) → v ≡ cosine_units one left → ((k + more) % 2 ≡ 0 → ⊥) → y ≡ from_units (leb 2 ((k + more) % 4)) v → y ≡ from_units (turned_minus more n) (turned_units more n)
  unfolding turned_minus turned_units negative even removed
  by_cosine v y ev p g = rw (← ek, refuted (eqb ((k + more) % 2) 0) (λ t. p (lib.Dec.eqb→eq ((k + more) % 2) 0 t)), ← left_is, ← ev) (g ∙ ap (λ s. from_units s v) (sym (clear (leb 2 ((k + more) % 4)))))
    where
      clear : (b : Bool) → unlike b false ≡ b
      clear true = refl
      clear false = refl

-- ---- sin and cos, with a for the absolute value
abbrev zero_float : Float
zero_float = of_bits binary64 0

sign_set : (x : Float) → lt x zero_float ≡ true → sign x ≡ true
sign_set nan h = absurd (unfold lt of_bits in holds h)
sign_set (inf true) h = refl
sign_set (inf false) h = absurd (unfold lt of_bits in holds h)
sign_set (fin true m e) h = refl
sign_set (fin false m e) h = absurd (never (m * up e) (down e) (ltb→lt (m * up e * 1) (0 * 1 * down e) (unfold lt of_bits in holds h)))
  where
    never : (u d : ℕ) → u * 1 < 0 * 1 * d → ⊥
    never u d l = omega arith

sign_clear : (x : Float) → T (fits binary64 x) → T (finite x) → lt (abs x) tiny ≡ false → lt x zero_float ≡ false → sign x ≡ false
sign_clear nan t f g h = refl
sign_clear (inf s) t f g h = absurd f
sign_clear (fin false m e) t f g h = refl
sign_clear (fin true m e) t f g h = absurd (no (nltb→le 0 (units_of (fin true m e) + 0) (unset (sym (lt-units-signed (fin true m e) zero_float true false (units_of (fin true m e)) 0 own (unfold of_bits in (refl, refl))) ∙ h))))
  where
    own : Units (fin true m e) true (units_of (fin true m e))
    own = own_units (fin true m e) t tt

    unset : {b : Bool} → b ≡ false → T (not b)
    unset p = subst (λ c. T (not c)) (sym p) tt

    no : units_of (fin true m e) + 0 ≤ 0 → ⊥
    no l = fails (sym (lt-units (abs (fin true m e)) tiny (units_of (fin true m e)) (2 ^ 1057) (abs-units (fin true m e) true (units_of (fin true m e)) own) (unfold of_bits in (refl, refl))) ∙ g) (lt→ltb (units_of (fin true m e)) (2 ^ 1057) (lt_of_le_of_lt (le_trans (plain (units_of (fin true m e))) l) (lit< tt)))
      where
        plain : (n : ℕ) → n ≤ n + 0
        plain n = omega arith

abs-abs : (x : Float) → abs (abs x) ≡ abs x
unfolding abs
abs-abs nan = refl
abs-abs (inf s) = refl
abs-abs (fin s m e) = refl

abs-sign : (x : Float) → sign (abs x) ≡ false
unfolding abs
abs-sign nan = refl
abs-sign (inf s) = refl
abs-sign (fin s m e) = refl

scaled-abs : (x : Float) → scaled (abs x) ≡ scaled x
unfolding scaled
scaled-abs x = ap (λ n. n * 2 ^ 58 / 2 ^ 1074) (units_of-abs x)

neg_from : (s : Bool) (v : ℕ) → neg (from_units s v) ≡ from_units (not s) v
unfolding from_units
neg_from s v = neg-round s ((v + 16) / 32) (2 ^ 53)

unlike_true : (s : Bool) → not s ≡ unlike true s
unlike_true true = refl
unlike_true false = refl

unlike_none : (s : Bool) → s ≡ unlike false s
unlike_none true = refl
unlike_none false = refl

-- the test and the units of its absolute value
module _ (x a : Float) (t : T (fits binary64 a)) (e : a ≡ abs x) where
  pub inside_is : {b : Bool} → le a largest ≡ b → in_domain x ≡ b
  unfolding in_domain
  inside_is l = ap (λ z. le z largest) (sym e) ∙ l

  within : le a largest ≡ true → T (in_domain a)
  unfolding in_domain
  within l = holds (ap (λ z. le z largest) (ap abs e ∙ abs-abs x ∙ sym e) ∙ l)

  clear : sign a ≡ false
  clear = ap sign e ∙ abs-sign x

  pub units_are : le a largest ≡ true → (n : ℕ) → n ≡ to_unsigned 64 (mul binary64 a (fin false 1 (pos 58))) → (in_domain x ≡ true) × (n ≡ scaled x) × (n ≤ 2 ^ 62)
  units_are l n g = let u = units_is a t (within l) clear n g in (inside_is l, u.0 ∙ ap scaled e ∙ scaled-abs x, u.1)

  pub castable : le a largest ≡ true → T (lt (fin true 1 (pos 0)) (mul binary64 a (fin false 1 (pos 58)))) × T (lt (mul binary64 a (fin false 1 (pos 58))) (fin false 1 (pos 64)))
  castable l = units_asks a t (within l) clear

  pub units_answer : (r : Option ℕ) → is_some r ≡ le a largest → IfSome r (λ n. n ≡ to_unsigned 64 (mul binary64 a (fin false 1 (pos 58)))) → MatchOption r (in_domain x ≡ false) (λ n. (in_domain x ≡ true) × (n ≡ scaled x) × (n ≤ 2 ^ 62))
  units_answer None i g = inside_is (sym i)
  units_answer (Some n) i g = units_are (sym i) n g

module _ (x : Float) (t : T (fits binary64 x)) (d : in_domain x ≡ true) (n : ℕ) (f : n ≡ scaled x) where
  pub small-rest : rest n ≤ 2 ^ 58
  small-rest = less (rest n) (subst (λ z. 5 * rest z ≤ 4 * one) (sym f) (reduced_float x t (holds d)).small)
    where
      less : (r : ℕ) → 5 * r ≤ 4 * 2 ^ 58 → r ≤ 2 ^ 58
      less r h = omega arith

  pub cos_inside : (y : Float) → y ≡ from_units (turned_minus 1 n) (turned_units 1 n) → y ≡ cos x
  unfolding cos
  cos_inside y h = rw (d, ← f) h

  module _ (a y : Float) (e : a ≡ abs x) (p : lt a tiny ≡ false) (h : y ≡ from_units (turned_minus 0 n) (turned_units 0 n)) where
    not_tiny : lt (abs x) tiny ≡ false
    not_tiny = ap (λ z. lt z tiny) (sym e) ∙ p

    signed : (s : Bool) → sign x ≡ s → cond s (neg y) y ≡ sin x
    unfolding sin
    signed s g = rw (not_tiny, d, g, ← f) (go s)
      where
        go : (s : Bool) → cond s (neg y) y ≡ from_units (unlike s (turned_minus 0 n)) (turned_units 0 n)
        go true = ap neg h ∙ neg_from (turned_minus 0 n) (turned_units 0 n) ∙ ap (λ b. from_units b (turned_units 0 n)) (unlike_true (turned_minus 0 n))
        go false = h ∙ ap (λ b. from_units b (turned_units 0 n)) (unlike_none (turned_minus 0 n))

    pub sin-negative : lt x zero_float ≡ true → neg y ≡ sin x
    sin-negative q = signed true (sign_set x q)

    pub sin_positive : lt x zero_float ≡ false → y ≡ sin x
    sin_positive q = signed false (sign_clear x t (in-domain x t (holds d)).0 not_tiny q)

pub sin-tiny : (x a : Float) → a ≡ abs x → lt a tiny ≡ true → x ≡ sin x
unfolding sin
sin-tiny x a e p = rw (ap (λ z. lt z tiny) (sym e) ∙ p) refl

pub sin_outside : (x a : Float) → a ≡ abs x → lt a tiny ≡ false → in_domain x ≡ false → nan ≡ sin x
unfolding sin
sin_outside x a e p d = rw (ap (λ z. lt z tiny) (sym e) ∙ p, d) refl

pub cos_outside : (x : Float) → in_domain x ≡ false → nan ≡ cos x
unfolding cos
cos_outside x d = rw d refl

pub cos_answer : (x : Float) → T (fits binary64 x) → (o : Option ℕ) → MatchOption o (in_domain x ≡ false) (λ n. (in_domain x ≡ true) × (n ≡ scaled x) × (n ≤ 2 ^ 62)) → (y : Float) (P : ℕ → Type 0) → MatchOption o (y ≡ nan) P → ((n : ℕ) → P n → y ≡ from_units (turned_minus 1 n) (turned_units 1 n)) → y ≡ cos x
cos_answer x t None d y P e f = e ∙ cos_outside x d
cos_answer x t (Some n) u y P e f = cos_inside x t u.0 n u.1 y (f n e)

-- what `turned` asks of units
pub asked : (x : Float) → T (fits binary64 x) → (n : ℕ) (o : Option ℕ) → o ≡ Some n → MatchOption o (in_domain x ≡ false) (λ n. (in_domain x ≡ true) × (n ≡ scaled x) × (n ≤ 2 ^ 62)) → (n ≤ 2 ^ 62) × (1 ≤ 1) × (rest n ≤ 2 ^ 58)
asked x t n o e u = let v = rw e at u in (v.2, lit≤ tt, small-rest x t v.0 n v.1)
