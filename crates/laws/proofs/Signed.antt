-- Floats of one sign: their sums have it too and are no smaller than either, a square has its sign clear, a quotient by what is at
-- least 1 keeps it. And the size of what lies between a float and its opposite.
use mathlib.Core.Path.{◌≡◌, refl, sym, ap, ◌∙◌, subst}
use mathlib.Core.Bool.{Bool, true, false, ◌&&◌}
use mathlib.Core.List.{List, [], ◌∷◌}
use Prim.Native.Nat.{ℕ, suc, ◌+◌, ◌*◌, ◌^◌, ◌≤◌, ◌<◌}
use native.Mathlib.Nat.{pow-succ', mul-le-mul_right, mul-le-mul, mul-pos, mul-one, sub-zero, le_trans, le_of_eq, le_of_lt, lt_of_lt_of_le, le_of_mul-le-mul_right}
use native.Mathlib.Omega.{arith}
use lib.Dec.{T, ltb, eqb, ltb→lt, eqb→eq}
use lib.Ieee.Fits.{and_l}
use lib.Pow.{pow_pos, pow-add, pow_mono}
use lib.ListN.{length}
use lib.Ieee.{Float, nan, inf, fin, binary64, fits, neg, round, unlike, lt, le, eq, of_bits}
use lib.Ieee.Scale.{grid}
use Rattle.std.specs.List.{All}
use Rattle.std.proofs.lemmas.List.Elements.{All-head, All-tail, All-weaker}
use Rattle.laws.specs.Fold.{fold}
use Rattle.laws.specs.Ops.{◌⊕◌, ◌⊗◌, ◌⊘◌}
use Rattle.laws.specs.Size.{Small, AtLeast}
use Rattle.laws.specs.Units.{Units, sign, units_of}
use Rattle.laws.proofs.Bools.{or_elim, le_of_test}
use Rattle.laws.proofs.Compare.{le-units, le-values}
use Rattle.laws.proofs.Error.{in-range, round-value}
use Rattle.laws.proofs.Exact.{round_own, unlike_false}
use Rattle.laws.proofs.Size.{units_small, weaken, round-least, add_small, mul_small, div-small}
use Rattle.laws.proofs.Units.{own_units, neg-units, add-units, add-larger, mul-units, div-units, finite_of_units}

-- x is at most 2 ^ p in size and has the sign s
pub record Signed (s : Bool) (p : ℕ) (x : Float) : Type 0 where
  pub size : Small p 0 x
  pub side : sign x ≡ s

-- its units
pub signed_units : {s : Bool} {p : ℕ} {x : Float} → Signed s p x → Units x s (units_of x)
signed_units {s} {p} {x} h = subst (λ s. Units x s (units_of x)) h.side (units_small h.size)

-- a rounded fraction has the sign that it was given
pub rounded_sign : (s : Bool) (a c : ℕ) → 0 < c → a ≤ c * 2 ^ 1023 → sign (round binary64 s a c) ≡ s
rounded_sign s a c C h = (finite_of_units (round binary64 s a c) s (grid binary64 a c) (round-value s a c (in-range a c C h))).1

-- the units of two floats together are in range
together : {p : ℕ} {x y : Float} → p ≤ 1000 → Small p 0 x → Small p 0 y → units_of x + units_of y ≤ 2 ^ 1074 * 2 ^ 1023
together {p} {x} {y} h a b =
    go (units_of x) (units_of y) (2 ^ p) (2 ^ 1074) (2 ^ 1023) a.most b.most
    (subst (λ k. k ≤ 2 ^ 1023) (pow-succ' 2 p) (pow_mono (bound p h)))
  where
    bound : (p : ℕ) → p ≤ 1000 → suc p ≤ 1023
    bound p h = omega arith

    go : (u v P L Q : ℕ) → u * 1 ≤ P * L → v * 1 ≤ P * L → 2 * P ≤ Q → u + v ≤ L * Q
    go u v P L Q a b h = omega (arith, mul-le-mul_right L h)

module _ {s : Bool} {p : ℕ} {x y : Float} (h : p ≤ 1000) (a : Signed s p x) (b : Signed s p y) where
  sum_is : x ⊕ y ≡ round binary64 s (units_of x + units_of y) (2 ^ 1074)
  sum_is = add-units x y s (units_of x) (units_of y) (signed_units a) (signed_units b)

  pub add_signed : Signed s (suc p) (x ⊕ y)
  add_signed = record {
    size = add_small {p = p} {q = 0} (omega arith) (above p h) a.size b.size;
    side = ap sign sum_is ∙ rounded_sign s (units_of x + units_of y) (2 ^ 1074) (pow_pos 1074) (together h a.size b.size);
  }
    where
      above : (p : ℕ) → p ≤ 1000 → suc p < 1024
      above p h = omega arith

  least_of : (i : ℕ) → i ≤ 1000 → 2 ^ 0 * 2 ^ 1074 ≤ (units_of x + units_of y) * 2 ^ i → AtLeast 0 i (x ⊕ y)
  least_of i k l =
      subst (AtLeast 0 i) (sym sum_is)
      (round-least s (units_of x + units_of y) (2 ^ 1074) 0 i (pow_pos 1074) (below i k) (above i) (together h a.size b.size) l)
    where
      below : (i : ℕ) → i ≤ 1000 → i ≤ 1074
      below i k = omega arith

      above : (i : ℕ) → 0 < i + 1024
      above i = omega arith

  pub least_left : {i : ℕ} → i ≤ 1000 → AtLeast 0 i x → AtLeast 0 i (x ⊕ y)
  least_left {i} k l = least_of i k (go (units_of x) (units_of y) (2 ^ 1074) (2 ^ i) l.least)
    where
      go : (u v L S : ℕ) → 1 * L ≤ u * S → 1 * L ≤ (u + v) * S
      go u v L S h = omega (arith, h)

  pub least_right : {i : ℕ} → i ≤ 1000 → AtLeast 0 i y → AtLeast 0 i (x ⊕ y)
  least_right {i} k l = least_of i k (go (units_of x) (units_of y) (2 ^ 1074) (2 ^ i) l.least)
    where
      go : (u v L S : ℕ) → 1 * L ≤ v * S → 1 * L ≤ (u + v) * S
      go u v L S h = omega (arith, h)

-- ---- what has its sign set and is not 0 stays as it is, added to 0
pub zero_plus : {p : ℕ} {x : Float} → Signed true p x → 0 < units_of x → of_bits binary64 0 ⊕ x ≡ x
zero_plus {p} {x} a some =
    add-larger (of_bits binary64 0) x false 0 (units_of x) (unfold of_bits in (refl, refl)) (signed_units a) some
    ∙ ap (λ n. round binary64 true n (2 ^ 1074)) (sub-zero (units_of x))
    ∙ round_own x true (units_of x) (2 ^ 1074) a.size.held (pow_pos 1074) (signed_units a)

-- ---- sums over a list: a property with a bound goes on, where one more doubles the bound
module _ (P Q : ℕ → Float → Type 0) (wider : (p m : ℕ) (x : Float) → p ≤ m → P p x → P m x) (next : (p : ℕ) (x : Float) → Q p x → Q (suc p) x)
    (step : (p : ℕ) (x y : Float) → p ≤ 1000 → P p x → Q p y → P (suc p) (x ⊕ y)) {A : Type 0} (g : A → Float) where
  sum_keeps : (xs : List A) (s : Float) (p m : ℕ) → All (λ x. Q p (g x)) xs → P p s → p + length xs ≤ m → m ≤ 1000 → P m (fold (λ s x. s ⊕ g x) s xs)
  unfolding fold
  sum_keeps [] s p m all h k top = wider p m s (omega arith) h
  sum_keeps (x ∷ xs) s p m all h k top =
      sum_keeps xs (s ⊕ g x) (suc p) m
      (All-weaker (λ x. Q p (g x)) (λ x. Q (suc p) (g x)) (λ x a. next p (g x) a) xs (All-tail (λ x. Q p (g x)) x xs all))
      (step p s (g x) (omega arith) h (All-head (λ x. Q p (g x)) x xs all)) (omega arith) top

doubled : (p : ℕ) → p ≤ 1000 → suc p < 0 + 1024
doubled p h = omega arith

small_wider : (p m : ℕ) (x : Float) → p ≤ m → Small p 0 x → Small m 0 x
small_wider p m x h a = weaken m 0 (omega arith) a

pub signed_wider : (s : Bool) (p m : ℕ) (x : Float) → p ≤ m → Signed s p x → Signed s m x
signed_wider s p m x h a = record { size = small_wider p m x h a.size; side = a.side }

module _ {A : Type 0} (g : A → Float) where
  pub sum_small : (xs : List A) (s : Float) (p m : ℕ)
      → All (λ x. Small p 0 (g x)) xs → Small p 0 s → p + length xs ≤ m → m ≤ 1000 → Small m 0 (fold (λ s x. s ⊕ g x) s xs)
  sum_small = sum_keeps (λ p x. Small p 0 x) (λ p x. Small p 0 x) small_wider (λ p x a. small_wider p (suc p) x (omega arith) a)
      (λ p x y h a b. add_small {p = p} {q = 0} (omega arith) (doubled p h) a b) g

  pub sum_signed : (b : Bool) (xs : List A) (s : Float) (p m : ℕ)
      → All (λ x. Signed b p (g x)) xs → Signed b p s → p + length xs ≤ m → m ≤ 1000 → Signed b m (fold (λ s x. s ⊕ g x) s xs)
  sum_signed b = sum_keeps (Signed b) (Signed b) (signed_wider b) (λ p x a. signed_wider b p (suc p) x (omega arith) a) (λ p x y h a c. add_signed h a c) g

  -- a sum is no smaller than what it begins with
  pub sum_least : (b : Bool) (i : ℕ) → i ≤ 1000 → (xs : List A) (s : Float) (p m : ℕ)
      → All (λ x. Signed b p (g x)) xs → Signed b p s × AtLeast 0 i s → p + length xs ≤ m → m ≤ 1000
      → Signed b m (fold (λ s x. s ⊕ g x) s xs) × AtLeast 0 i (fold (λ s x. s ⊕ g x) s xs)
  sum_least b i k =
      sum_keeps (λ p x. Signed b p x × AtLeast 0 i x) (Signed b) (λ p m x h a. (signed_wider b p m x h a.0, a.1))
      (λ p x a. signed_wider b p (suc p) x (omega arith) a)
      (λ p x y h a c. (add_signed h a.0 c, least_left h a.0 c k a.1)) g

-- ---- squares
same : (s : Bool) → unlike s s ≡ false
same true = refl
same false = refl

pub square_signed : {p : ℕ} {x : Float} → p ≤ 500 → Small p 0 x → Signed false (p + p) (x ⊗ x)
square_signed {p} {x} h a = record {
  size = mul_small {p = p} {q = 0} {r = p} {t = 0} (below p h) (above p h) a a;
  side = ap sign (mul-units x x (sign x) (sign x) n n (units_small a) (units_small a))
      ∙ rounded_sign (unlike (sign x) (sign x)) (n * n) (2 ^ 1074 * 2 ^ 1074) (mul-pos (pow_pos 1074) (pow_pos 1074)) fits_in
      ∙ same (sign x);
}
  where
    n : ℕ
    n = units_of x

    below : (p : ℕ) → p ≤ 500 → 0 + 0 ≤ p + p + 1074
    below p h = omega arith

    above : (p : ℕ) → p ≤ 500 → p + p < 0 + 0 + 1024
    above p h = omega arith

    top : (p : ℕ) → p ≤ 500 → p + p ≤ 1023
    top p h = omega arith

    fits_in : n * n ≤ 2 ^ 1074 * 2 ^ 1074 * 2 ^ 1023
    fits_in = go n (2 ^ p) (2 ^ 1074) (2 ^ 1023) (mul-le-mul a.most a.most) (subst (λ k. k ≤ 2 ^ 1023) (pow-add 2 p p) (pow_mono (top p h)))
      where
        go : (n P L Q : ℕ) → n * 1 * (n * 1) ≤ P * L * (P * L) → P * P ≤ Q → n * n ≤ L * L * Q
        go n P L Q h k = omega (arith, h, mul-le-mul_right (L * L) k)

-- ---- quotients by what is at least 1
module _ {p r : ℕ} {x y : Float} (h : p ≤ 1000) (a : Small p 0 x) (size : Small r 0 y) (one : AtLeast 0 0 y) where
  unit : (v L : ℕ) → 1 * L ≤ v * 1 → L ≤ v
  unit v L h = omega (arith, h)

  some : 0 < units_of y
  some = lt_of_lt_of_le (pow_pos 1074) (unit (units_of y) (2 ^ 1074) one.least)

  quotient_is : x ⊘ y ≡ round binary64 (unlike (sign x) (sign y)) (units_of x) (units_of y)
  quotient_is = div-units x y (sign x) (sign y) (units_of x) (units_of y) some (units_small a) (units_small size)

  quotient_range : units_of x ≤ units_of y * 2 ^ 1023
  quotient_range = go (units_of x) (units_of y) (2 ^ p) (2 ^ 1074) (2 ^ 1023) a.most (unit (units_of y) (2 ^ 1074) one.least) (pow_mono (bound p h))
    where
      bound : (p : ℕ) → p ≤ 1000 → p ≤ 1023
      bound p h = omega arith

      go : (u v P L Q : ℕ) → u * 1 ≤ P * L → L ≤ v → P ≤ Q → u ≤ v * Q
      go u v P L Q k l m = omega (arith, k, mul-le-mul l m)

  pub div_least : {i : ℕ} → i + r ≤ 1000 → AtLeast 0 i x → AtLeast 0 (i + r) (x ⊘ y)
  div_least {i} k l =
      subst (AtLeast 0 (i + r)) (sym quotient_is)
      (round-least (unlike (sign x) (sign y)) (units_of x) (units_of y) 0 (i + r) some (below (i + r) k) (above (i + r)) quotient_range
      (rw (pow-add 2 i r) (go (units_of x) (units_of y) (2 ^ i) (2 ^ r) (2 ^ 1074) l.least size.most)))
    where
      below : (j : ℕ) → j ≤ 1000 → j ≤ 0 + 1074
      below j k = omega arith

      above : (j : ℕ) → 0 < j + 1024
      above j = omega arith

      go : (u v I R L : ℕ) → 1 * L ≤ u * I → v * 1 ≤ R * L → 1 * v ≤ u * (I * R)
      go u v I R L a b = omega (arith, mul-le-mul_right R a, b)

  pub div_signed : {s : Bool} → sign x ≡ s → sign y ≡ false → Signed s p (x ⊘ y)
  div_signed {s} e f = record {
    size = weaken p 0 (even p) (div-small {p = p} {q = 0} {r = 0} {t = 0} (omega arith) (above p h) a one);
    side = ap sign quotient_is
        ∙ rounded_sign (unlike (sign x) (sign y)) (units_of x) (units_of y) some quotient_range
        ∙ (λ i. unlike (e i) (f i)) ∙ unlike_false s;
  }
    where
      above : (p : ℕ) → p ≤ 1000 → p + 0 < 0 + 0 + 1024
      above p h = omega arith

      even : (p : ℕ) → p + 0 + 0 ≤ p + (0 + 0)
      even p = omega arith

-- ---- between a float and its opposite
module _ (x y : Float) (n b : ℕ) (v : Units y false b) where
  from_above : Units x false n → T (le x y) → n ≤ b
  from_above u l = le_of_test n b (subst T (le-units x y n b u v) l)

  from_below : Units x true n → T (le (neg y) x) → n ≤ b
  from_below u k =
      le_of_mul-le-mul_right {k = 2 ^ 1074}
      (or_elim (ltb (n * 2 ^ 1074) (b * 2 ^ 1074)) (eqb (b * 2 ^ 1074) (n * 2 ^ 1074) && true)
      (λ h. le_of_lt (ltb→lt (n * 2 ^ 1074) (b * 2 ^ 1074) h))
      (λ h. le_of_eq (sym (eqb→eq (b * 2 ^ 1074) (n * 2 ^ 1074) (and_l (eqb (b * 2 ^ 1074) (n * 2 ^ 1074)) true h))))
      (subst T (le-values (neg y) x true true b (2 ^ 1074) n (2 ^ 1074) (pow_pos 1074) (pow_pos 1074) (neg-units y false b v) u) k))
      (pow_pos 1074)

pub small_of_range : (x y : Float) (b p : ℕ) → T (fits binary64 x) → Units y false b → b ≤ 2 ^ p * 2 ^ 1074 → T (le (neg y) x) → T (le x y) → Small p 0 x
small_of_range nan y b p t v h k l = absurd (unfold le in unfold lt in unfold eq in l)
small_of_range (inf false) nan b p t v h k l = absurd v
small_of_range (inf false) (inf r) b p t v h k l = absurd v
small_of_range (inf false) (fin r n d) b p t v h k l = absurd (unfold le in unfold lt in unfold eq in l)
small_of_range (inf true) nan b p t v h k l = absurd v
small_of_range (inf true) (inf r) b p t v h k l = absurd v
small_of_range (inf true) (fin r n d) b p t v h k l = absurd (unfold le in unfold lt in unfold eq in unfold neg in k)
small_of_range (fin s m e) y b p t v h k l = record {
  held = t;
  number = tt;
  most = le_trans (le_of_eq (mul-one (units_of (fin s m e)))) (le_trans (go s (own_units (fin s m e) t tt)) h);
}
  where
    go : (r : Bool) → Units (fin s m e) r (units_of (fin s m e)) → units_of (fin s m e) ≤ b
    go false u = from_above (fin s m e) y (units_of (fin s m e)) b v u l
    go true u = from_below (fin s m e) y (units_of (fin s m e)) b v u k
