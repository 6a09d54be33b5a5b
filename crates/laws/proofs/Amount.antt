-- Floats that are not negative, by their numbers of units: -0 counts as 0, so that no comparison asks for a sign.
use mathlib.Core.Path.{◌≡◌, refl, sym, ap, ◌∙◌, subst}
use mathlib.Core.Logic.{inl, inr}
use mathlib.Core.Bool.{Bool, true, false, not, true≢false}
use Prim.Native.Nat.{ℕ, ◌+◌, ◌*◌, ◌-◌, ◌^◌, ◌/◌, ◌%◌, ◌≤◌, ◌<◌, min}
use native.Mathlib.Nat.{le_of_eq, le_trans, mul-one, zero-mul, mul_right_comm, mul-le-mul_right, le_of_mul-le-mul_right, div-add-mod'}
use native.Mathlib.Omega.{arith}
use lib.IntN.{pos}
use lib.Dec.{T, ltb, ltb→lt, lt→ltb, nltb→le, lit<, lit≤}
use lib.Ieee.{Float, nan, inf, fin, up, down, binary64, is_nan, to_unsigned, lt, le, eq, add, sub, neg, round, of_bits, of_int, fits, below}
use lib.Pow.{pow_pos}
use lib.Ieee.Scale.{grid, finite}
use lib.Ieee.Fits.{down_pos}
use Rattle.laws.specs.Units.{Units, sign, units_of}
use Rattle.laws.proofs.Bools.{same_test, or_elim}
use Rattle.laws.proofs.Order.{le-or-lt, le_not_lt}
use Rattle.laws.proofs.Units.{own_units, add-units, add-larger, add_equal, sub-units, neg-units, rescale}
use Rattle.laws.proofs.Error.{in-range, round-value}
use Rattle.laws.proofs.Compare.{lt-units-signed}
use Rattle.laws.proofs.Exact.{whole-value}

-- x is n units, and not negative
pub record Amount (x : Float) (n : ℕ) : Type 0 where
  pub s : Bool
  pub value : Units x s n
  pub clear : s ≡ true → n ≡ 0

pub amount_of_units : {x : Float} {n : ℕ} → Units x false n → Amount x n
amount_of_units v = record { s = false; value = v; clear = λ e. absurd (true≢false (sym e)) }

module _ {x y : Float} {a b : ℕ} (v : Amount x a) (w : Amount y b) where
  signs : (s t : Bool) → (s ≡ true → a ≡ 0) → (t ≡ true → b ≡ 0) → below s a t b ≡ ltb a b
  signs false false p q = refl
  signs false true p q = same_test false (ltb a b) (λ t. absurd t) (λ t. none (q refl) (ltb→lt a b t))
    where
      none : b ≡ 0 → a < b → ⊥
      none e h = omega arith
  signs true false p q = same_test (ltb 0 (a + b)) (ltb a b) (λ t. lt→ltb a b (to (p refl) (ltb→lt 0 (a + b) t))) (λ t. lt→ltb 0 (a + b) (from (ltb→lt a b t)))
    where
      to : a ≡ 0 → 0 < a + b → a < b
      to e h = omega arith

      from : a < b → 0 < a + b
      from h = omega arith
  signs true true p q = same_test (ltb b a) (ltb a b) (λ t. absurd (none (p refl) (ltb→lt b a t))) (λ t. absurd (none (q refl) (ltb→lt a b t)))
    where
      none : {m n : ℕ} → m ≡ 0 → n < m → ⊥
      none e h = omega arith

  pub lt_amounts : lt x y ≡ ltb a b
  lt_amounts = lt-units-signed x y v.s w.s a b v.value w.value ∙ signs v.s w.s v.clear w.clear

  pub below_amounts : a < b → T (lt x y)
  below_amounts h = subst T (sym lt_amounts) (lt→ltb a b h)

number_of : {x : Float} {a : ℕ} → Amount x a → T (not (is_nan x))
unfolding is_nan
number_of {x} {a} v = go x v.value
  where
    go : (x : Float) → Units x v.s a → T (not (is_nan x))
    go nan f = absurd f
    go (inf s) f = absurd f
    go (fin s m e) f = tt

module _ {x y : Float} {a b : ℕ} (v : Amount x a) (w : Amount y b) where
  pub amounts_at_most : T (le x y) → a ≤ b
  amounts_at_most h = go (ltb b a) refl
    where
      go : (t : Bool) → ltb b a ≡ t → a ≤ b
      go false e = nltb→le b a (subst (λ t. T (not t)) (sym e) tt)
      go true e = absurd (le_not_lt x y h (subst T (sym (lt_amounts w v ∙ e)) tt))

  pub at_most_amounts : a ≤ b → T (le x y)
  at_most_amounts h = elim (le-or-lt x y (number_of v) (number_of w)) [ inl l ↦ l | inr l ↦ absurd (clash (ltb→lt b a (subst T (lt_amounts w v) l)) h) ]
    where
      clash : b < a → a ≤ b → ⊥
      clash p q = omega arith

-- equal amounts are equal floats, but for the sign of 0
pub eq_amounts : {x y : Float} {a : ℕ} → Amount x a → Amount y a → T (eq x y)
eq_amounts {x} {y} {a} v w = or_elim (lt x y) (eq x y) (λ l. absurd (self (ltb→lt a a (subst T (lt_amounts v w) l)))) (λ e. e) (unfold le in at_most_amounts v w (le_of_eq refl))
  where
    self : a < a → ⊥
    self h = omega arith

-- ---- what passes the test against 0
zero-units : Units (of_bits binary64 0) false 0
unfolding of_bits
zero-units = (refl, refl)

pub amount_of : (x : Float) → T (fits binary64 x) → T (finite x) → T (le (of_bits binary64 0) x) → Amount x (units_of x)
amount_of x t f h = record { s = sign x; value = own_units x t f; clear = λ e. go (ltb 0 (units_of x)) refl e }
  where
    go : (b : Bool) → ltb 0 (units_of x) ≡ b → sign x ≡ true → units_of x ≡ 0
    go false e g = none (nltb→le 0 (units_of x) (subst (λ t. T (not t)) (sym e) tt))
      where
        none : units_of x ≤ 0 → units_of x ≡ 0
        none k = omega arith
    go true e g = absurd (le_not_lt (of_bits binary64 0) x h (subst T (sym (lt-units-signed x (of_bits binary64 0) true false (units_of x) 0 (subst (λ s. Units x s (units_of x)) g (own_units x t f)) zero-units)) (lt→ltb 0 (units_of x + 0) (more (ltb→lt 0 (units_of x) (subst T (sym e) tt))))))
      where
        more : 0 < units_of x → 0 < units_of x + 0
        more k = omega arith

-- ---- a sum with a whole number
pub whole-units : (k : ℕ) → k ≤ 2 ^ 53 → Units (of_int binary64 (pos k)) false (k * 2 ^ 1074)
whole-units k h = rescale (of_int binary64 (pos k)) false k 1 (k * 2 ^ 1074) (2 ^ 1074) (lit< tt) (mul-one (k * 2 ^ 1074)) (whole-value k h)

pub add-whole : {x : Float} {a : ℕ} (k : ℕ) → k ≤ 2 ^ 53 → Amount x a → add binary64 x (of_int binary64 (pos k)) ≡ round binary64 false (a + k * 2 ^ 1074) (2 ^ 1074)
add-whole {x} {a} k h v = go v.s v.value v.clear
  where
    go : (s : Bool) → Units x s a → (s ≡ true → a ≡ 0) → add binary64 x (of_int binary64 (pos k)) ≡ round binary64 false (a + k * 2 ^ 1074) (2 ^ 1074)
    go false u p = add-units x (of_int binary64 (pos k)) false a (k * 2 ^ 1074) u (whole-units k h)
    go true u p = by (ltb a (k * 2 ^ 1074)) refl
      where
        sum : (n : ℕ) → a ≡ 0 → a < n → n - a ≡ a + n
        sum n e l = omega arith

        none : (n : ℕ) → a ≡ 0 → n ≤ a → (a ≡ n) × (0 ≡ a + n)
        none n e l = (omega arith, omega arith)

        by : (b : Bool) → ltb a (k * 2 ^ 1074) ≡ b → add binary64 x (of_int binary64 (pos k)) ≡ round binary64 false (a + k * 2 ^ 1074) (2 ^ 1074)
        by true e =
            let l = ltb→lt a (k * 2 ^ 1074) (subst T (sym e) tt) in
            add-larger x (of_int binary64 (pos k)) true a (k * 2 ^ 1074) u (whole-units k h) l ∙ ap (λ n. round binary64 false n (2 ^ 1074)) (sum (k * 2 ^ 1074) (p refl) l)
        by false e =
            let z = none (k * 2 ^ 1074) (p refl) (nltb→le a (k * 2 ^ 1074) (subst (λ t. T (not t)) (sym e) tt)) in
            add_equal x (of_int binary64 (pos k)) true a (k * 2 ^ 1074) u (whole-units k h) z.0 ∙ ap (λ n. round binary64 false n (2 ^ 1074)) z.1

-- a rounded number of units, and the difference of two amounts
pub rounded_amount : (n : ℕ) → n ≤ 2 ^ 1074 * 2 ^ 1023 → Amount (round binary64 false n (2 ^ 1074)) (grid binary64 n (2 ^ 1074))
rounded_amount n h = amount_of_units (round-value false n (2 ^ 1074) (in-range n (2 ^ 1074) (pow_pos 1074) h))

pub sub_amounts : {x y : Float} {a b : ℕ} → Amount x a → Amount y b → b ≤ a → a ≤ 2 ^ 1074 * 2 ^ 1023 → Amount (sub binary64 x y) (grid binary64 (a - b) (2 ^ 1074))
unfolding sub
sub_amounts {x} {y} {a} {b} v w h top = go v.s w.s v.value w.value v.clear w.clear
  where
    under : (a b t : ℕ) → a ≤ t → a - b ≤ t
    under a b t k = omega arith

    rest : b ≡ 0 → a + b ≡ a - b
    rest e = omega arith

    nothing : b ≤ a → a ≡ 0 → (b ≡ 0) × (a + b ≡ 0) × (0 ≡ a - b)
    nothing l e = (omega arith, omega arith, omega arith)

    is_one : {z : Float} {n : ℕ} → z ≡ round binary64 false n (2 ^ 1074) → n ≡ a - b → Amount z (grid binary64 (a - b) (2 ^ 1074))
    is_one {z} {n} e f = subst (λ z. Amount z (grid binary64 (a - b) (2 ^ 1074))) (sym (e ∙ ap (λ n. round binary64 false n (2 ^ 1074)) f)) (rounded_amount (a - b) (under a b (2 ^ 1074 * 2 ^ 1023) top))

    go : (s t : Bool) → Units x s a → Units y t b → (s ≡ true → a ≡ 0) → (t ≡ true → b ≡ 0) → Amount (add binary64 x (neg y)) (grid binary64 (a - b) (2 ^ 1074))
    go false false p q c d = is_one (sub-units x y a b p q h) refl
    go false true p q c d = is_one (add-units x (neg y) false a b p (neg-units y true b q)) (rest (d refl))
    go true false p q c d =
        let z = nothing h (c refl) in
        subst (λ u. Amount u (grid binary64 (a - b) (2 ^ 1074))) (sym (add-units x (neg y) true a b p (neg-units y false b q) ∙ ap (λ n. round binary64 true n (2 ^ 1074)) z.1))
        (subst (λ n. Amount (round binary64 true 0 (2 ^ 1074)) (grid binary64 n (2 ^ 1074))) z.2 (record { s = true; value = round-value true 0 (2 ^ 1074) (in-range 0 (2 ^ 1074) (pow_pos 1074) (lit≤ tt)); clear = λ e. refl }))
    go true true p q c d = let z = nothing h (c refl) in is_one (add_equal x (neg y) true a b p (neg-units y true b q) (c refl ∙ sym z.0)) z.2

-- the whole part of an amount
pub whole_part : (w : ℕ) (x : Float) (n : ℕ) → Amount x n → to_unsigned w x * 2 ^ 1074 ≤ n
unfolding to_unsigned
whole_part w nan n v = absurd v.value
whole_part w (inf s) n v = absurd v.value
whole_part w (fin true m e) n v = none 0 (2 ^ 1074) refl
  where
    none : (u U : ℕ) → u ≡ 0 → u * U ≤ n
    none u U e = le_trans (le_of_eq (ap (λ u. u * U) e ∙ zero-mul U)) (omega arith)
whole_part w (fin false m e) n v =
    le_of_mul-le-mul_right {k = down e}
    (le_trans (le_of_eq (mul_right_comm (min (m * up e / down e) (2 ^ w - 1)) (2 ^ 1074) (down e)))
    (le_trans (mul-le-mul_right (2 ^ 1074) (le_trans (mul-le-mul_right (down e) (least (m * up e / down e) (2 ^ w - 1))) (parts (m * up e) (down e))))
    (le_of_eq v.value.1)))
    (down_pos e)
  where
    least : (u v : ℕ) → min u v ≤ u
    least u v = omega arith

    parts : (u d : ℕ) → u / d * d ≤ u
    parts u d = go (u / d * d) (u % d) (div-add-mod' u d)
      where
        go : (p r : ℕ) → p + r ≡ u → p ≤ u
        go p r e = omega arith
