-- Comparisons of finite floats by any fractions that they equal: `HasValue x s a c` says that x has the sign s and is a / c in size.
use mathlib.Core.Path.{◌≡◌, refl, sym, ap, ◌∙◌, subst}
use mathlib.Core.Bool.{Bool, true, false, ◌&&◌, ◌||◌, beq}
use Prim.Native.Nat.{ℕ, ◌+◌, ◌*◌, ◌^◌, ◌<◌}
use native.Mathlib.Nat.{mul-one, mul-pos, lt_of_mul-lt-mul_right, mul-lt-mul_of_pos_right, eq_of_mul-eq-mul_right}
use native.Mathlib.Omega.{arith}
use lib.Dec.{ltb, eqb, ltb→lt, lt→ltb, eqb→eq}
use lib.Pow.{pow_pos}
use lib.Ieee.{Float, nan, inf, fin, up, down, lt, eq, le, below, level}
use lib.Ieee.Exact.{HasValue}
use lib.Ieee.Fits.{down_pos, eq→eqb}
use Rattle.laws.specs.Units.{Units}
use Rattle.laws.proofs.Bools.{same_test, and-true}

-- ---- numbers: p and q in the ratio of u and v compare as they do
module _ (p q u v k l : ℕ) (K : 0 < k) (L : 0 < l) (e : p * k ≡ u * l) (f : q * k ≡ v * l) where
  ltb_ratio : ltb p q ≡ ltb u v
  ltb_ratio =
      same_test (ltb p q) (ltb u v)
      (λ t. lt→ltb u v (lt_of_mul-lt-mul_right l (subst (λ n. n < v * l) e (subst (λ n. p * k < n) f (mul-lt-mul_of_pos_right (ltb→lt p q t) K)))))
      (λ t. lt→ltb p q (lt_of_mul-lt-mul_right k (subst (λ n. n < q * k) (sym e) (subst (λ n. u * l < n) (sym f) (mul-lt-mul_of_pos_right (ltb→lt u v t) L)))))

  eqb_ratio : eqb p q ≡ eqb u v
  eqb_ratio =
      same_test (eqb p q) (eqb u v)
      (λ t. eq→eqb (eq_of_mul-eq-mul_right l L u v (sym e ∙ ap (λ n. n * k) (eqb→eq p q t) ∙ f)))
      (λ t. eq→eqb (eq_of_mul-eq-mul_right k K p q (e ∙ ap (λ n. n * l) (eqb→eq u v t) ∙ sym f)))

below_ratio : (s t : Bool) (p q u v k l : ℕ) → 0 < k → 0 < l → p * k ≡ u * l → q * k ≡ v * l → below s p t q ≡ below s u t v
below_ratio false false p q u v k l K L e f = ltb_ratio p q u v k l K L e f
below_ratio false true p q u v k l K L e f = refl
below_ratio true false p q u v k l K L e f = ltb_ratio 0 (p + q) 0 (u + v) k l K L (omega arith) (omega arith)
below_ratio true true p q u v k l K L e f = ltb_ratio q p v u k l K L f e

level_ratio : (s t : Bool) (p q u v k l : ℕ) → 0 < k → 0 < l → p * k ≡ u * l → q * k ≡ v * l → level s p t q ≡ level s u t v
level_ratio s t p q u v k l K L e f =
    ap (λ b. b && (beq s t || eqb p 0)) (eqb_ratio p q u v k l K L e f)
    ∙ ap (λ b. eqb u v && (beq s t || b)) (eqb_ratio p 0 u 0 k l K L e (omega arith))

-- x / d is a / c and y / g is b / h: both sides of the comparison, times c * h
cross : (x d y g a c b h : ℕ) → x * c ≡ a * d → y * h ≡ b * g → (x * g * (c * h) ≡ a * h * (d * g)) × (y * d * (c * h) ≡ b * c * (d * g))
cross x d y g a c b h p q = (omega (arith, ap (λ t. t * (g * h)) p), omega (arith, ap (λ t. t * (d * c)) q))

-- ---- floats
pub lt-values : (x y : Float) (s t : Bool) (a c b d : ℕ) → 0 < c → 0 < d → HasValue x s a c → HasValue y t b d → lt x y ≡ below s (a * d) t (b * c)
unfolding lt
lt-values nan y s t a c b d C D v w = absurd v
lt-values (inf r) y s t a c b d C D v w = absurd v
lt-values (fin r m e) nan s t a c b d C D v w = absurd w
lt-values (fin r m e) (inf q) s t a c b d C D v w = absurd w
lt-values (fin r m e) (fin q n g) s t a c b d C D v w =
    let z = cross (m * up e) (down e) (n * up g) (down g) a c b d v.1 w.1 in
    ap (λ k. below k (m * up e * down g) q (n * up g * down e)) v.0 ∙ ap (λ k. below s (m * up e * down g) k (n * up g * down e)) w.0
    ∙ below_ratio s t (m * up e * down g) (n * up g * down e) (a * d) (b * c) (c * d) (down e * down g) (mul-pos C D) (mul-pos (down_pos e) (down_pos g)) z.0 z.1

pub eq-values : (x y : Float) (s t : Bool) (a c b d : ℕ) → 0 < c → 0 < d → HasValue x s a c → HasValue y t b d → eq x y ≡ level s (a * d) t (b * c)
unfolding eq
eq-values nan y s t a c b d C D v w = absurd v
eq-values (inf r) y s t a c b d C D v w = absurd v
eq-values (fin r m e) nan s t a c b d C D v w = absurd w
eq-values (fin r m e) (inf q) s t a c b d C D v w = absurd w
eq-values (fin r m e) (fin q n g) s t a c b d C D v w =
    let z = cross (m * up e) (down e) (n * up g) (down g) a c b d v.1 w.1 in
    ap (λ k. level k (m * up e * down g) q (n * up g * down e)) v.0 ∙ ap (λ k. level s (m * up e * down g) k (n * up g * down e)) w.0
    ∙ level_ratio s t (m * up e * down g) (n * up g * down e) (a * d) (b * c) (c * d) (down e * down g) (mul-pos C D) (mul-pos (down_pos e) (down_pos g)) z.0 z.1

pub le-values : (x y : Float) (s t : Bool) (a c b d : ℕ) → 0 < c → 0 < d → HasValue x s a c → HasValue y t b d → le x y ≡ below s (a * d) t (b * c) || level s (a * d) t (b * c)
unfolding le
le-values x y s t a c b d C D v w = ap (λ z. z || eq x y) (lt-values x y s t a c b d C D v w) ∙ ap (λ z. below s (a * d) t (b * c) || z) (eq-values x y s t a c b d C D v w)

-- ---- in units, with the sign clear: as the numbers of units do
pub lt-units-signed : (x y : Float) (s t : Bool) (a b : ℕ) → Units x s a → Units y t b → lt x y ≡ below s a t b
lt-units-signed x y s t a b v w = lt-values x y s t a (2 ^ 1074) b (2 ^ 1074) (pow_pos 1074) (pow_pos 1074) v w ∙ below_ratio s t (a * 2 ^ 1074) (b * 2 ^ 1074) a b 1 (2 ^ 1074) (pow_pos 0) (pow_pos 1074) (mul-one (a * 2 ^ 1074)) (mul-one (b * 2 ^ 1074))

pub lt-units : (x y : Float) (a b : ℕ) → Units x false a → Units y false b → lt x y ≡ ltb a b
lt-units x y a b v w = lt-units-signed x y false false a b v w

pub eq-units : (x y : Float) (a b : ℕ) → Units x false a → Units y false b → eq x y ≡ eqb a b
eq-units x y a b v w =
    eq-values x y false false a (2 ^ 1074) b (2 ^ 1074) (pow_pos 1074) (pow_pos 1074) v w
    ∙ level_ratio false false (a * 2 ^ 1074) (b * 2 ^ 1074) a b 1 (2 ^ 1074) (pow_pos 0) (pow_pos 1074) (mul-one (a * 2 ^ 1074)) (mul-one (b * 2 ^ 1074)) ∙ and-true (eqb a b)

pub le-units : (x y : Float) (a b : ℕ) → Units x false a → Units y false b → le x y ≡ ltb a b || eqb a b
unfolding le
le-units x y a b v w = ap (λ t. t || eq x y) (lt-units x y a b v w) ∙ ap (λ t. ltb a b || t) (eq-units x y a b v w)
