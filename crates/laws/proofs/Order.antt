-- The order of floats: `lt` is irreflexive and transitive, `eq` is an equality beside it, and of two numbers one is at most the other.
-- A NaN is below nothing and above nothing, so only the last law asks that a value is a number.
use mathlib.Core.Path.{◌≡◌, refl, sym, ap, subst, ◌∙◌}
use mathlib.Core.Bool.{Bool, true, false, not, ◌||◌, beq}
use mathlib.Core.Logic.{◌⊎◌, inl, inr}
use Prim.Native.Nat.{ℕ, zero, suc, ◌+◌, ◌*◌, ◌≤◌, ◌<◌}
use native.Mathlib.Nat.{lt_irrefl, lt_of_lt_of_le, lt_of_le_of_lt, le_of_lt, le_of_eq, mul_right_comm, mul-le-mul_right, mul-lt-mul_of_pos_right, lt_of_mul-lt-mul_right, mul-pos, zero-mul, eq_of_mul-eq-mul_right, eq-zero-or-pos, add_comm}
use native.Mathlib.Omega.{arith}
use lib.Dec.{T, ltb, eqb, ltb→lt, lt→ltb, nltb→le, eqb→eq}
use lib.Ieee.{Float, nan, inf, fin, up, down, below, level, is_nan, neg, lt, eq, le}
use lib.Ieee.Bits.{is_true}
use lib.Ieee.Fits.{down_pos, and_l, and_r, and_i, eq→eqb}
use Rattle.laws.proofs.Bools.{holds, fails, refuted, or_left, or_right, or_elim}

-- ---- fractions with a sign: ±a / p < ±b / q and ±a / p = ±b / q, as products
abbrev Below : Bool → ℕ → ℕ → Bool → ℕ → ℕ → Type 0
Below s a p t b q = T (below s (a * q) t (b * p))

abbrev Level : Bool → ℕ → ℕ → Bool → ℕ → ℕ → Type 0
Level s a p t b q = T (level s (a * q) t (b * p))

le-lt : (a p b q c r : ℕ) → 0 < p → a * q ≤ b * p → b * r < c * q → a * r < c * p
le-lt a p b q c r P h k =
    lt_of_mul-lt-mul_right q
    (rw (mul_right_comm a r q, mul_right_comm c p q)
    (lt_of_le_of_lt (mul-le-mul_right r h) (rw (mul_right_comm b p r) (mul-lt-mul_of_pos_right k P))))

lt-le : (a p b q c r : ℕ) → 0 < r → a * q < b * p → b * r ≤ c * q → a * r < c * p
lt-le a p b q c r R h k =
    lt_of_mul-lt-mul_right q
    (rw (mul_right_comm a r q, mul_right_comm c p q)
    (lt_of_lt_of_le (mul-lt-mul_of_pos_right h R) (rw (mul_right_comm b p r) (mul-le-mul_right p k))))

eq-eq : (a p b q c r : ℕ) → 0 < q → a * q ≡ b * p → b * r ≡ c * q → a * r ≡ c * p
eq-eq a p b q c r Q h k = eq_of_mul-eq-mul_right q Q (a * r) (c * p) (omega (arith, ap (λ t. t * r) h, ap (λ t. t * p) k))

factor_pos : (a b x : ℕ) → x < a * b → 0 < a
factor_pos zero b x h = absurd (nope (rw (zero-mul b) at h))
  where
    nope : x < 0 → ⊥
    nope k = omega arith
factor_pos (suc a) b x h = omega arith

factor_zero : (a p : ℕ) → 0 < p → a * p ≡ 0 → a ≡ 0
factor_zero zero p P e = refl
factor_zero (suc a) p P e = absurd (lt_irrefl 0 (subst (λ (n : ℕ). 0 < n) e (mul-pos (omega arith) P)))

left_pos : (a b : ℕ) → 0 < a → 0 < a + b
left_pos a b h = omega arith

right_pos : (a b : ℕ) → 0 < b → 0 < a + b
right_pos a b h = omega arith

below_trans : (s t u : Bool) (a p b q c r : ℕ) → 0 < p → 0 < r → Below s a p t b q → Below t b q u c r → Below s a p u c r
below_trans false false false a p b q c r P R h k = lt→ltb (a * r) (c * p) (le-lt a p b q c r P (le_of_lt (ltb→lt (a * q) (b * p) h)) (ltb→lt (b * r) (c * q) k))
below_trans s false true a p b q c r P R h k = absurd k
below_trans false true u a p b q c r P R h k = absurd h
below_trans true false false a p b q c r P R h k = lt→ltb 0 (a * r + c * p) (right_pos (a * r) (c * p) (mul-pos (factor_pos c q (b * r) (ltb→lt (b * r) (c * q) k)) P))
below_trans true true false a p b q c r P R h k = lt→ltb 0 (a * r + c * p) (left_pos (a * r) (c * p) (mul-pos (factor_pos a q (b * p) (ltb→lt (b * p) (a * q) h)) R))
below_trans true true true a p b q c r P R h k = lt→ltb (c * p) (a * r) (lt-le c r b q a p P (ltb→lt (c * q) (b * r) k) (le_of_lt (ltb→lt (b * p) (a * q) h)))

-- two that are level have one sign and one size, or are both zero
level_cases : (s t : Bool) (a p b q : ℕ) → 0 < p → 0 < q → Level s a p t b q → ((s ≡ t) × (a * q ≡ b * p)) ⊎ ((a ≡ 0) × (b ≡ 0))
level_cases s t a p b q P Q h = go s t (and_r (eqb (a * q) (b * p)) (beq s t || eqb (a * q) 0) h)
  where
    e : a * q ≡ b * p
    e = eqb→eq (a * q) (b * p) (and_l (eqb (a * q) (b * p)) (beq s t || eqb (a * q) 0) h)

    nought : T (eqb (a * q) 0) → (a ≡ 0) × (b ≡ 0)
    nought z = let k = eqb→eq (a * q) 0 z in (factor_zero a q Q k, factor_zero b p P (sym e ∙ k))

    go : (s t : Bool) → T (beq s t || eqb (a * q) 0) → ((s ≡ t) × (a * q ≡ b * p)) ⊎ ((a ≡ 0) × (b ≡ 0))
    go true true z = inl (refl, e)
    go false false z = inl (refl, e)
    go true false z = inr (nought z)
    go false true z = inr (nought z)

level_same : (s : Bool) (a p b q : ℕ) → a * q ≡ b * p → Level s a p s b q
level_same true a p b q e = and_i (eqb (a * q) (b * p)) true (eq→eqb e) tt
level_same false a p b q e = and_i (eqb (a * q) (b * p)) true (eq→eqb e) tt

level_zero : (s t : Bool) (a p b q : ℕ) → a ≡ 0 → b ≡ 0 → Level s a p t b q
level_zero s t a p b q e f =
    let z : a * q ≡ 0 = ap (λ n. n * q) e ∙ zero-mul q in
    and_i (eqb (a * q) (b * p)) (beq s t || eqb (a * q) 0) (eq→eqb (z ∙ sym (ap (λ n. n * p) f ∙ zero-mul p))) (or_right (beq s t) (eqb (a * q) 0) (eq→eqb z))

-- zero is below what has its sign clear and is not zero
above_zero : (s u : Bool) (a p c r : ℕ) → a ≡ 0 → Below s a p u c r → (u ≡ false) × (0 < c)
above_zero false false a p c r e h = (refl, factor_pos c p (a * r) (ltb→lt (a * r) (c * p) h))
above_zero false true a p c r e h = absurd h
above_zero true false a p c r e h = (refl, factor_pos c p 0 (rest (c * p) (subst (λ n. 0 < n + c * p) (ap (λ n. n * r) e ∙ zero-mul r) (ltb→lt 0 (a * r + c * p) h))))
  where
    rest : (n : ℕ) → 0 < 0 + n → 0 < n
    rest n h = omega arith
above_zero true true a p c r e h = absurd (lt_irrefl 0 (factor_pos 0 r (c * p) (subst (λ n. c * p < n * r) e (ltb→lt (c * p) (a * r) h))))

zero_below : (s : Bool) (a p c r : ℕ) → 0 < p → a ≡ 0 → 0 < c → Below s a p false c r
zero_below false a p c r P e h = lt→ltb (a * r) (c * p) (subst (λ n. n < c * p) (sym (ap (λ n. n * r) e ∙ zero-mul r)) (mul-pos h P))
zero_below true a p c r P e h = lt→ltb 0 (a * r + c * p) (right_pos (a * r) (c * p) (mul-pos h P))

below_level : (s t u : Bool) (a p b q c r : ℕ) → 0 < p → 0 < q → 0 < r → Level s a p t b q → Below t b q u c r → Below s a p u c r
below_level s t u a p b q c r P Q R h k = elim (level_cases s t a p b q P Q h) [
  | inl w ↦ same u s t w.0 k
  | inr z ↦ (let w = above_zero t u b q c r z.1 k in subst (λ v. Below s a p v c r) (sym w.0) (zero_below s a p c r P z.0 w.1))
]
  where
    e : a * q ≡ b * p
    e = eqb→eq (a * q) (b * p) (and_l (eqb (a * q) (b * p)) (beq s t || eqb (a * q) 0) h)

    same : (u s t : Bool) → s ≡ t → Below t b q u c r → Below s a p u c r
    same u s false f k = subst (λ v. Below v a p u c r) (sym f) (go u k)
      where
        go : (u : Bool) → Below false b q u c r → Below false a p u c r
        go false k = lt→ltb (a * r) (c * p) (le-lt a p b q c r P (le_of_eq e) (ltb→lt (b * r) (c * q) k))
        go true k = absurd k
    same u s true f k = subst (λ v. Below v a p u c r) (sym f) (go u k)
      where
        go : (u : Bool) → Below true b q u c r → Below true a p u c r
        go true k = lt→ltb (c * p) (a * r) (lt-le c r b q a p P (ltb→lt (c * q) (b * r) k) (le_of_eq (sym e)))
        go false k = lt→ltb 0 (a * r + c * p) (some (eq-zero-or-pos a))
          where
            some : (a ≡ 0) ⊎ (0 < a) → 0 < a * r + c * p
            some (inr l) = left_pos (a * r) (c * p) (mul-pos l R)
            some (inl z) = right_pos (a * r) (c * p) (mul-pos (above_zero true false b q c r (factor_zero b p P (sym e ∙ ap (λ n. n * q) z ∙ zero-mul q)) k).1 P)

level_trans : (s t u : Bool) (a p b q c r : ℕ) → 0 < p → 0 < q → 0 < r → Level s a p t b q → Level t b q u c r → Level s a p u c r
level_trans s t u a p b q c r P Q R h k = elim (level_cases s t a p b q P Q h) [
  | inl w ↦ elim (level_cases t u b q c r Q R k) [
    | inl v ↦ subst (λ x. Level s a p x c r) (w.0 ∙ v.0) (level_same s a p c r (eq-eq a p b q c r Q w.1 v.1))
    | inr z ↦ level_zero s u a p c r (factor_zero a q Q (w.1 ∙ ap (λ n. n * p) z.0 ∙ zero-mul p)) z.1
  ]
  | inr z ↦ level_zero s u a p c r z.0 (elim (level_cases t u b q c r Q R k) [ inl v ↦ factor_zero c q Q (sym v.1 ∙ ap (λ n. n * r) z.1 ∙ zero-mul r) | inr y ↦ y.1 ])
]

-- of two fractions the first is at most the second, or the second is below it
three_ways : (x y : ℕ) → (T (ltb x y) ⊎ T (ltb y x)) ⊎ (x ≡ y)
three_ways x y = at (ltb x y) (ltb y x) (nltb→le x y) (nltb→le y x)
  where
    at : (c d : Bool) → (T (not c) → y ≤ x) → (T (not d) → x ≤ y) → (T c ⊎ T d) ⊎ (x ≡ y)
    at true d f g = inl (inl tt)
    at false true f g = inl (inr tt)
    at false false f g = inr (between (f tt) (g tt))
      where
        between : y ≤ x → x ≤ y → x ≡ y
        between h k = omega arith

module _ (a p b q : ℕ) (P : 0 < p) (Q : 0 < q) where
  abbrev AtMost : Bool → Bool → Type 0
  AtMost s t = T (below s (a * q) t (b * p) || level s (a * q) t (b * p))

  at_level : (s t : Bool) → Level s a p t b q → AtMost s t
  at_level s t l = or_right (below s (a * q) t (b * p)) (level s (a * q) t (b * p)) l

  both_zero : ((a ≡ 0) × (b ≡ 0)) ⊎ (0 < a * q + b * p)
  both_zero = elim (eq-zero-or-pos a) [
    | inr l ↦ inr (left_pos (a * q) (b * p) (mul-pos l Q))
    | inl z ↦ elim (eq-zero-or-pos b) [ inr l ↦ inr (right_pos (a * q) (b * p) (mul-pos l P)) | inl w ↦ inl (z, w) ]
  ]

  at_most_or_below : (s t : Bool) → AtMost s t ⊎ Below t b q s a p
  at_most_or_below s t = elim both_zero [ inl z ↦ inl (at_level s t (level_zero s t a p b q z.0 z.1)) | inr l ↦ go s t l ]
    where
      go : (s t : Bool) → 0 < a * q + b * p → AtMost s t ⊎ Below t b q s a p
      go false false l = elim (three_ways (a * q) (b * p)) [ inl c ↦ elim c [ inl h ↦ inl (or_left (ltb (a * q) (b * p)) (level false (a * q) false (b * p)) h) | inr h ↦ inr h ] | inr e ↦ inl (at_level false false (level_same false a p b q e)) ]
      go true true l = elim (three_ways (b * p) (a * q)) [ inl c ↦ elim c [ inl h ↦ inl (or_left (ltb (b * p) (a * q)) (level true (a * q) true (b * p)) h) | inr h ↦ inr h ] | inr e ↦ inl (at_level true true (level_same true a p b q (sym e))) ]
      go true false l = inl (or_left (ltb 0 (a * q + b * p)) (level true (a * q) false (b * p)) (lt→ltb 0 (a * q + b * p) l))
      go false true l = inr (lt→ltb 0 (b * p + a * q) (subst (λ n. 0 < n) (add_comm (a * q) (b * p)) l))

-- ---- floats
pub lt_not_self : (x : Float) → T (lt x x) → ⊥
unfolding lt
lt_not_self nan t = t
lt_not_self (inf true) t = t
lt_not_self (inf false) t = t
lt_not_self (fin false m e) t = lt_irrefl (m * up e * down e) (ltb→lt (m * up e * down e) (m * up e * down e) t)
lt_not_self (fin true m e) t = lt_irrefl (m * up e * down e) (ltb→lt (m * up e * down e) (m * up e * down e) t)

pub lt_trans : (x y z : Float) → T (lt x y) → T (lt y z) → T (lt x z)
unfolding lt
lt_trans nan y z h k = absurd h
lt_trans (inf s) nan z h k = absurd h
lt_trans (inf false) (inf t) z h k = absurd h
lt_trans (inf false) (fin t n d) z h k = absurd h
lt_trans (inf true) (inf true) z h k = absurd h
lt_trans (inf true) (inf false) nan h k = absurd k
lt_trans (inf true) (inf false) (inf u) h k = absurd k
lt_trans (inf true) (inf false) (fin u o g) h k = absurd k
lt_trans (inf true) (fin t n d) nan h k = absurd k
lt_trans (inf true) (fin t n d) (inf true) h k = absurd k
lt_trans (inf true) (fin t n d) (inf false) h k = tt
lt_trans (inf true) (fin t n d) (fin u o g) h k = tt
lt_trans (fin s m e) nan z h k = absurd h
lt_trans (fin s m e) (inf true) z h k = absurd h
lt_trans (fin s m e) (inf false) nan h k = absurd k
lt_trans (fin s m e) (inf false) (inf u) h k = absurd k
lt_trans (fin s m e) (inf false) (fin u o g) h k = absurd k
lt_trans (fin s m e) (fin t n d) nan h k = absurd k
lt_trans (fin s m e) (fin t n d) (inf true) h k = absurd k
lt_trans (fin s m e) (fin t n d) (inf false) h k = tt
lt_trans (fin s m e) (fin t n d) (fin u o g) h k = below_trans s t u (m * up e) (down e) (n * up d) (down d) (o * up g) (down g) (down_pos e) (down_pos g) h k

pub eq-lt : (x y z : Float) → T (eq x y) → T (lt y z) → T (lt x z)
unfolding lt eq
eq-lt nan y z h k = absurd h
eq-lt (inf s) nan z h k = absurd h
eq-lt (inf true) (inf true) z h k = k
eq-lt (inf false) (inf false) z h k = k
eq-lt (inf true) (inf false) z h k = absurd h
eq-lt (inf false) (inf true) z h k = absurd h
eq-lt (inf s) (fin t n d) z h k = absurd h
eq-lt (fin s m e) nan z h k = absurd h
eq-lt (fin s m e) (inf t) z h k = absurd h
eq-lt (fin s m e) (fin t n d) nan h k = absurd k
eq-lt (fin s m e) (fin t n d) (inf u) h k = k
eq-lt (fin s m e) (fin t n d) (fin u o g) h k = below_level s t u (m * up e) (down e) (n * up d) (down d) (o * up g) (down g) (down_pos e) (down_pos d) (down_pos g) h k

pub eq_trans : (x y z : Float) → T (eq x y) → T (eq y z) → T (eq x z)
unfolding eq
eq_trans nan y z h k = absurd h
eq_trans (inf s) nan z h k = absurd h
eq_trans (inf true) (inf true) z h k = k
eq_trans (inf false) (inf false) z h k = k
eq_trans (inf true) (inf false) z h k = absurd h
eq_trans (inf false) (inf true) z h k = absurd h
eq_trans (inf s) (fin t n d) z h k = absurd h
eq_trans (fin s m e) nan z h k = absurd h
eq_trans (fin s m e) (inf t) z h k = absurd h
eq_trans (fin s m e) (fin t n d) nan h k = absurd k
eq_trans (fin s m e) (fin t n d) (inf u) h k = absurd k
eq_trans (fin s m e) (fin t n d) (fin u o g) h k = level_trans s t u (m * up e) (down e) (n * up d) (down d) (o * up g) (down g) (down_pos e) (down_pos d) (down_pos g) h k

-- the order turned round
pub lt-neg : (x y : Float) → lt (neg x) (neg y) ≡ lt y x
unfolding lt neg
lt-neg nan nan = refl
lt-neg nan (inf t) = refl
lt-neg nan (fin t n d) = refl
lt-neg (inf s) nan = refl
lt-neg (inf true) (inf true) = refl
lt-neg (inf true) (inf false) = refl
lt-neg (inf false) (inf true) = refl
lt-neg (inf false) (inf false) = refl
lt-neg (inf true) (fin t n d) = refl
lt-neg (inf false) (fin t n d) = refl
lt-neg (fin s m e) nan = refl
lt-neg (fin s m e) (inf true) = refl
lt-neg (fin s m e) (inf false) = refl
lt-neg (fin true m e) (fin true n d) = refl
lt-neg (fin false m e) (fin false n d) = refl
lt-neg (fin true m e) (fin false n d) = refl
lt-neg (fin false m e) (fin true n d) = ap (ltb 0) (add_comm (m * up e * down d) (n * up d * down e))

eq-neg : (x y : Float) → eq (neg x) (neg y) ≡ eq x y
unfolding eq neg
eq-neg nan y = refl
eq-neg (inf s) nan = refl
eq-neg (inf true) (inf true) = refl
eq-neg (inf true) (inf false) = refl
eq-neg (inf false) (inf true) = refl
eq-neg (inf false) (inf false) = refl
eq-neg (inf s) (fin t n d) = refl
eq-neg (fin s m e) nan = refl
eq-neg (fin s m e) (inf t) = refl
eq-neg (fin true m e) (fin true n d) = refl
eq-neg (fin true m e) (fin false n d) = refl
eq-neg (fin false m e) (fin true n d) = refl
eq-neg (fin false m e) (fin false n d) = refl

pub eq_sym : (x y : Float) → T (eq x y) → T (eq y x)
unfolding eq
eq_sym nan y h = absurd h
eq_sym (inf s) nan h = absurd h
eq_sym (inf true) (inf true) h = tt
eq_sym (inf false) (inf false) h = tt
eq_sym (inf true) (inf false) h = absurd h
eq_sym (inf false) (inf true) h = absurd h
eq_sym (inf s) (fin t n d) h = absurd h
eq_sym (fin s m e) nan h = absurd h
eq_sym (fin s m e) (inf t) h = absurd h
eq_sym (fin s m e) (fin t n d) h = elim (level_cases s t (m * up e) (down e) (n * up d) (down d) (down_pos e) (down_pos d) h) [
  | inl w ↦ subst (λ r. Level t (n * up d) (down d) r (m * up e) (down e)) (sym w.0) (level_same t (n * up d) (down d) (m * up e) (down e) (sym w.1))
  | inr z ↦ level_zero t s (n * up d) (down d) (m * up e) (down e) z.1 z.0
]

pub lt-eq : (x y z : Float) → T (lt x y) → T (eq y z) → T (lt x z)
lt-eq x y z h k = subst T (lt-neg z x) (eq-lt (neg z) (neg y) (neg x) (subst T (sym (eq-neg z y)) (eq_sym y z k)) (subst T (sym (lt-neg y x)) h))

-- ---- `le`
pub le_of_lt_float : (x y : Float) → T (lt x y) → T (le x y)
unfolding le
le_of_lt_float x y h = or_left (lt x y) (eq x y) h

pub lt_le_trans : (x y z : Float) → T (lt x y) → T (le y z) → T (lt x z)
unfolding le
lt_le_trans x y z h k = or_elim (lt y z) (eq y z) (lt_trans x y z h) (lt-eq x y z h) k

pub le_lt_trans : (x y z : Float) → T (le x y) → T (lt y z) → T (lt x z)
unfolding le
le_lt_trans x y z h k = or_elim (lt x y) (eq x y) (λ l. lt_trans x y z l k) (λ e. eq-lt x y z e k) h

pub le_trans_float : (x y z : Float) → T (le x y) → T (le y z) → T (le x z)
unfolding le
le_trans_float x y z h k =
    or_elim (lt x y) (eq x y)
    (λ l. or_left (lt x z) (eq x z) (lt_le_trans x y z l k))
    (λ e. or_elim (lt y z) (eq y z) (λ l. or_left (lt x z) (eq x z) (eq-lt x y z e l)) (λ f. or_right (lt x z) (eq x z) (eq_trans x y z e f)) k) h

pub le_not_lt : (x y : Float) → T (le x y) → T (lt y x) → ⊥
le_not_lt x y h k = lt_not_self x (le_lt_trans x y x h k)

-- of two numbers, one is at most the other
pub le-or-lt : (x y : Float) → T (not (is_nan x)) → T (not (is_nan y)) → T (le x y) ⊎ T (lt y x)
unfolding le lt eq is_nan
le-or-lt nan y p q = absurd p
le-or-lt (inf s) nan p q = absurd q
le-or-lt (inf true) (inf true) p q = inl tt
le-or-lt (inf true) (inf false) p q = inl tt
le-or-lt (inf false) (inf true) p q = inr tt
le-or-lt (inf false) (inf false) p q = inl tt
le-or-lt (inf true) (fin t n d) p q = inl tt
le-or-lt (inf false) (fin t n d) p q = inr tt
le-or-lt (fin s m e) nan p q = absurd q
le-or-lt (fin s m e) (inf true) p q = inr tt
le-or-lt (fin s m e) (inf false) p q = inl tt
le-or-lt (fin s m e) (fin t n d) p q = at_most_or_below (m * up e) (down e) (n * up d) (down d) (down_pos e) (down_pos d) s t

-- ---- the same of the tests' values, as branches of code have them
pub lt_self : (x : Float) → lt x x ≡ false
lt_self x = refuted (lt x x) (lt_not_self x)

pub lt_trans_test : (x y z : Float) → lt x y ≡ true → lt y z ≡ true → lt x z ≡ true
lt_trans_test x y z h k = is_true (lt x z) (lt_trans x y z (holds h) (holds k))

-- what is not below z is neither below nor equal to what is below z
pub apart : (x y z : Float) → lt x z ≡ false → lt y z ≡ true → (lt x y ≡ false) × (eq x y ≡ false)
apart x y z h k = (refuted (lt x y) (λ t. fails h (lt_trans x y z t (holds k))), refuted (eq x y) (λ t. fails h (eq-lt x y z t (holds k))))
