-- The hypotenuse: the square of the root of the rounded sum of the rounded squares is within one part in 2 ^ 50 of the sum of the squares. In parts of 2 ^ 56: 9 for the squares, 9 for the sum, 17 for the root's square, 37 together.
use mathlib.Core.Path.{◌≡◌, refl, sym, ap, ◌∙◌, subst}
use mathlib.Core.Bool.{Bool, true, false, not, ◌&&◌, ◌||◌, cond}
use mathlib.Core.Logic.{◌⊎◌, inl, inr}
use Prim.Native.Nat.{ℕ, ◌+◌, ◌*◌, ◌^◌, ◌≤◌, ◌<◌}
use native.Mathlib.Nat.{le_trans, le_of_lt, mul-le-mul, mul-le-mul_right, le_of_mul-le-mul_right, le_of_eq, add-mul, add_comm, mul_assoc, one-mul}
use native.Mathlib.Omega.{arith}
use lib.Arith.{le→nltb}
use lib.Dec.{T, ltb, eqb, ltb→lt, nltb→le, lt→ltb, eqb→eq, lit≤}
use lib.Pow.{pow_pos}
use lib.Ieee.{Float, nan, binary64, fits, add, mul, lt, of_bits}
use lib.Ieee.Bits.{is_true, cond_no}
use lib.Ieee.Fits.{add-fits, eq→eqb, and_l, and_r}
use lib.Ieee.Scale.{finite}
use Rattle.laws.specs.Rounding.{Near, Close}
use Rattle.laws.specs.Units.{Units, sign, units_of}
use Rattle.laws.proofs.Compare.{lt-units, eq-units}
use Rattle.laws.proofs.Error.{product, sum_of}
use Rattle.laws.proofs.Units.{own_units, units_are, finite_of_units}
use Rattle.math.specs.Sign.{abs}
use Rattle.math.proofs.Sign.{abs-fits, abs-units, at_most_size}
use Rattle.roots.specs.Root.{NearestRoot}
use Rattle.roots.specs.Sqrt.{sqrt}
use Rattle.roots.specs.Hypot.{largest, small, in_domain, hypot_ordered, hypot, larger, Hypotenuse, IsHypot}
use Rattle.roots.proofs.NearestSqrt.{parts_ge, root_digits}

-- ---- a and b differ by e parts in 2 ^ 56 at most
pub record Rel (e a b : ℕ) : Type 0 where
  pub over : 2 ^ 56 * a ≤ (2 ^ 56 + e) * b
  pub under : 2 ^ 56 * b ≤ (2 ^ 56 + e) * a

rel_9_9 : (a b c : ℕ) → Rel 9 a b → Rel 9 b c → Rel 19 a c
rel_9_9 a b c x y = record { over = go a b c x.over y.over; under = go c b a y.under x.under }
  where
    go : (a b c : ℕ) → 2 ^ 56 * a ≤ (2 ^ 56 + 9) * b → 2 ^ 56 * b ≤ (2 ^ 56 + 9) * c → 2 ^ 56 * a ≤ (2 ^ 56 + 19) * c
    go a b c p q = omega arith

rel_17_19 : (a b c : ℕ) → Rel 17 a b → Rel 19 b c → Rel 37 a c
rel_17_19 a b c x y = record { over = go a b c x.over y.over; under = go' c b a y.under x.under }
  where
    go : (a b c : ℕ) → 2 ^ 56 * a ≤ (2 ^ 56 + 17) * b → 2 ^ 56 * b ≤ (2 ^ 56 + 19) * c → 2 ^ 56 * a ≤ (2 ^ 56 + 37) * c
    go a b c p q = omega arith

    go' : (a b c : ℕ) → 2 ^ 56 * a ≤ (2 ^ 56 + 19) * b → 2 ^ 56 * b ≤ (2 ^ 56 + 17) * c → 2 ^ 56 * a ≤ (2 ^ 56 + 37) * c
    go' a b c p q = omega arith

-- the root
root_rel : (M R : ℕ) → NearestRoot M R → 2 ^ 52 ≤ R → Rel 17 (R * R) M
root_rel M R x h = go (R * R) (mul-le-mul_right R h) x.low x.high
  where
    go : (s : ℕ) → 2 ^ 52 * R ≤ s → s < M + R → M ≤ s + R → Rel 17 s M
    go s p q r = record { over = omega arith; under = omega arith }

rel_times : (e a b t : ℕ) → Rel e a b → Rel e (a * t) (b * t)
rel_times e a b t x = record { over = go a b x.over; under = go b a x.under }
  where
    go : (a b : ℕ) → 2 ^ 56 * a ≤ (2 ^ 56 + e) * b → 2 ^ 56 * (a * t) ≤ (2 ^ 56 + e) * (b * t)
    go a b h = omega (arith, mul-le-mul_right t h)

-- the sum
sum_rel : (n g : ℕ) → Near (2 ^ 53) n 1 g → Rel 9 g n
sum_rel n g x = record { over = omega (arith, x.over); under = omega (arith, x.under) }

-- the squares: a * a is in the normal range, and b * b may not be
squares_over : (A B L u v : ℕ) → 2 ^ 56 * L ≤ A → 2 ^ 53 * u ≤ (2 ^ 53 + 1) * A → 2 * (2 ^ 53 * v) ≤ 2 * (2 ^ 53 + 1) * B + 2 ^ 53 * L → 2 ^ 56 * (u + v) ≤ (2 ^ 56 + 9) * (A + B)
squares_over A B L u v h p q = omega arith

squares_under : (A B L u v : ℕ) → 2 ^ 58 * L ≤ A → 2 ^ 53 * A ≤ 2 ^ 53 * u + A → 2 * (2 ^ 53 * B) ≤ 2 * (2 ^ 53 * v) + 2 * B + 2 ^ 53 * L → 2 ^ 56 * (A + B) ≤ (2 ^ 56 + 9) * (u + v)
squares_under A B L u v h p q = add (one A u L h p) (two B v L q)
  where
    -- A is at most u and 8.5 parts, with a part of A to spare for L
    one : (A u L : ℕ) → 2 ^ 58 * L ≤ A → 2 ^ 53 * A ≤ 2 ^ 53 * u + A → 2 ^ 56 * A + 2 ^ 56 * L ≤ (2 ^ 56 + 9) * u
    one A u L h p = omega arith

    two : (B v L : ℕ) → 2 * (2 ^ 53 * B) ≤ 2 * (2 ^ 53 * v) + 2 * B + 2 ^ 53 * L → 2 ^ 56 * B ≤ (2 ^ 56 + 9) * v + 2 ^ 56 * L
    two B v L q = last (eight q) q
      where
        eight : 2 * (2 ^ 53 * B) ≤ 2 * (2 ^ 53 * v) + 2 * B + 2 ^ 53 * L → 8 * B ≤ 9 * v + 8 * L
        eight q = omega arith

        last : 8 * B ≤ 9 * v + 8 * L → 2 * (2 ^ 53 * B) ≤ 2 * (2 ^ 53 * v) + 2 * B + 2 ^ 53 * L → 2 ^ 56 * B ≤ (2 ^ 56 + 9) * v + 2 ^ 56 * L
        last e q = omega arith

    add : 2 ^ 56 * A + 2 ^ 56 * L ≤ (2 ^ 56 + 9) * u → 2 ^ 56 * B ≤ (2 ^ 56 + 9) * v + 2 ^ 56 * L → 2 ^ 56 * (A + B) ≤ (2 ^ 56 + 9) * (u + v)
    add p q = omega arith

squares_rel : (A B L f g : ℕ) → 2 ^ 74 * L ≤ A → Near (2 ^ 53) A L f → Close (2 ^ 53) B L g → Rel 9 ((f + g) * L) (A + B)
squares_rel A B L f g h x y = subst (λ t. Rel 9 t (A + B)) (sym (add-mul f g L))
    (record { over = squares_over A B L (f * L) (g * L) (less (lit≤ tt)) x.over y.over; under = squares_under A B L (f * L) (g * L) (less (lit≤ tt)) x.under y.under })
  where
    less : {e : ℕ} → e ≤ 2 ^ 74 → e * L ≤ A
    less k = le_trans (mul-le-mul_right L k) h

-- ---- the root of the sum of the squares of u, of a units, and of v, of b
pub record Root (a b : ℕ) (r : Float) : Type 0 where
  pub size : ℕ
  pub value : Units r false size
  pub held : T (fits binary64 r)
  pub rel : Rel 37 (size * size) (a * a + b * b)

-- the squares are not too large, and their sum not too small
sizes_hi : (A B L u v D : ℕ) → B ≤ A → A ≤ D → L ≤ A → 2 ^ 53 * u ≤ (2 ^ 53 + 1) * A → 2 * (2 ^ 53 * v) ≤ 2 * (2 ^ 53 + 1) * B + 2 ^ 53 * L → u + v ≤ 8 * D
sizes_hi A B L u v D h k l p q = omega arith

sizes_lo : (A L u v : ℕ) → 2 ^ 54 * L ≤ A → 2 ^ 53 * A ≤ 2 ^ 53 * u + A → 2 ^ 52 * L ≤ u + v
sizes_lo A L u v h p = last (twice p)
  where
    twice : 2 ^ 53 * A ≤ 2 ^ 53 * u + A → A ≤ 2 * u
    twice p = omega arith

    last : A ≤ 2 * u → 2 ^ 52 * L ≤ u + v
    last p = omega (arith, h)

sizes : (A B L f g C : ℕ) → 0 < L → B ≤ A → A ≤ C * L → 2 ^ 74 * L ≤ A → Near (2 ^ 53) A L f → Close (2 ^ 53) B L g → (f + g ≤ 8 * C) × (2 ^ 52 ≤ f + g)
sizes A B L f g C P h k l x y = (
  le_of_mul-le-mul_right {k = L} (subst (λ t. t ≤ 8 * C * L) (sym (add-mul f g L)) (subst (λ t. f * L + g * L ≤ t) (sym (mul_assoc 8 C L)) (sizes_hi A B L (f * L) (g * L) (C * L) h k (le_trans (le_of_eq (sym (one-mul L))) (less (lit≤ tt))) x.over y.over))) P,
  le_of_mul-le-mul_right {k = L} (subst (λ t. 2 ^ 52 * L ≤ t) (sym (add-mul f g L)) (sizes_lo A L (f * L) (g * L) (less (lit≤ tt)) x.under)) P,
)
  where
    less : {e : ℕ} → e ≤ 2 ^ 74 → e * L ≤ A
    less k = le_trans (mul-le-mul_right L k) l

not-zero : (n g : ℕ) → 2 ^ 52 ≤ n → Near (2 ^ 53) n 1 g → 0 < g
not-zero n g h x = omega (arith, x.under)

squared : (R P M S L : ℕ) → S * L ≡ M * (P * P) → Rel 17 (R * R * (P * P)) (M * (P * P)) → Rel 17 (R * P * (R * P)) (S * L)
squared R P M S L e x = subst (λ t. Rel 17 (R * P * (R * P)) t) (sym e) (subst (λ t. Rel 17 t (M * (P * P))) (move R P) x)
  where
    move : (R P : ℕ) → R * R * (P * P) ≡ R * P * (R * P)
    move R P = omega arith

pub root_of_squares : (u v : Float) (a b : ℕ) → Units u false a → Units v false b → b ≤ a → 2 ^ 574 ≤ a → a ≤ 2 ^ 1574 → Root a b (sqrt (add binary64 (mul binary64 u u) (mul binary64 v v)))
root_of_squares u v a b p q h lo hi =
    let A : a * a ≤ 2 ^ 2074 * 2 ^ 1074 = le_trans (mul-le-mul hi hi) (lit≤ tt) in
    let A' : 2 ^ 74 * 2 ^ 1074 ≤ a * a = le_trans (lit≤ tt) (mul-le-mul lo lo) in
    let B : b * b ≤ a * a = mul-le-mul h h in
    let f = product u u false false a a p p (le_trans A (lit≤ tt)) in
    let g = product v v false false b b q q (le_trans B (le_trans A (lit≤ tt))) in
    let n = f.near (le_trans (lit≤ tt) A') in
    let z = sizes (a * a) (b * b) (2 ^ 1074) f.size g.size (2 ^ 2074) (pow_pos 1074) B A A' n g.close in
    let s = sum_of (mul binary64 u u) (mul binary64 v v) false f.size g.size f.value g.value (le_trans z.0 (lit≤ tt)) in
    let k = s.near z.1 in
    let w = add binary64 (mul binary64 u u) (mul binary64 v v) in
    let o = finite_of_units w false s.size s.value in
    let e = units_are w false s.size s.value in
    let d = root_digits w (add-fits binary64 (mul binary64 u u) (mul binary64 v v)) o.0 o.1 (subst (λ t. 0 < t) (sym e) (not-zero (f.size + g.size) s.size z.1 k)) in
    let same : d.n ≡ s.size = sym (units_are w false d.n d.from) ∙ e in
    record {
      size = d.R * 2 ^ d.k;
      value = d.value;
      held = d.held;
      rel = rel_17_19 (d.R * 2 ^ d.k * (d.R * 2 ^ d.k)) (s.size * 2 ^ 1074) (a * a + b * b)
          (squared d.R (2 ^ d.k) d.M s.size (2 ^ 1074) (subst (λ t. t * 2 ^ 1074 ≡ d.M * (2 ^ d.k * 2 ^ d.k)) same d.parts.is)
          (rel_times 17 (d.R * d.R) d.M (2 ^ d.k * 2 ^ d.k) (root_rel d.M d.R d.parts.root (parts_ge d.n d.M d.R d.k d.parts))))
          (rel_9_9 (s.size * 2 ^ 1074) ((f.size + g.size) * 2 ^ 1074) (a * a + b * b)
          (rel_times 9 s.size (f.size + g.size) (2 ^ 1074) (sum_rel (f.size + g.size) s.size k))
          (squares_rel (a * a) (b * b) (2 ^ 1074) f.size g.size A' n g.close));
    }

-- ---- in parts of 2 ^ 50
fifty : (q w : ℕ) → Rel 37 q w → (2 ^ 50 * q ≤ (2 ^ 50 + 1) * w) × (2 ^ 50 * w ≤ 2 ^ 50 * q + w)
fifty q w x = (over x.over, under x.over x.under)
  where
    over : 2 ^ 56 * q ≤ (2 ^ 56 + 37) * w → 2 ^ 50 * q ≤ (2 ^ 50 + 1) * w
    over p = omega arith

    under : 2 ^ 56 * q ≤ (2 ^ 56 + 37) * w → 2 ^ 56 * w ≤ (2 ^ 56 + 37) * q → 2 ^ 50 * w ≤ 2 ^ 50 * q + w
    under p r = last (most p)
      where
        most : 2 ^ 56 * q ≤ (2 ^ 56 + 37) * w → 37 * q ≤ 64 * w
        most p = omega arith

        last : 37 * q ≤ 64 * w → 2 ^ 50 * w ≤ 2 ^ 50 * q + w
        last k = omega (arith, r)

-- ---- the hypotenuse over sides of a and b units, b ≤ a
record Ordered (a b : ℕ) (r : Float) : Type 0 where
  held : T (fits binary64 r)
  number : T (finite r)
  positive : sign r ≡ false
  plain : (b ≡ 0) ⊎ (a < 2 ^ 574) → units_of r ≡ a
  near : 0 < b → 2 ^ 574 ≤ a → Rel 37 (units_of r * units_of r) (a * a + b * b)

no_pos : (b : ℕ) → b ≡ 0 → 0 < b → ⊥
no_pos b e h = omega arith

no_both : (a c : ℕ) → a < c → c ≤ a → ⊥
no_both a c h k = omega arith

small_is : Units small false (2 ^ 574)
unfolding of_bits
small_is = (refl, refl)

zero_is : Units (of_bits binary64 0) false 0
unfolding of_bits
zero_is = (refl, refl)

ordered : (u v : Float) (a b : ℕ) → T (fits binary64 u) → Units u false a → Units v false b → b ≤ a → a ≤ 2 ^ 1574 → Ordered a b (hypot_ordered u v)
unfolding hypot_ordered
ordered u v a b t p q h hi =
    subst (λ c. Ordered a b (cond (c || lt u small) u r)) (sym (eq-units v (of_bits binary64 0) b 0 q zero_is))
    (subst (λ c. Ordered a b (cond (eqb b 0 || c) u r)) (sym (lt-units u small a (2 ^ 574) p small_is)) (go (eqb b 0) (ltb a (2 ^ 574)) (eqb→eq b 0) (λ e. eq→eqb e) (ltb→lt a (2 ^ 574)) (nltb→le a (2 ^ 574))))
  where
    r : Float
    r = sqrt (add binary64 (mul binary64 u u) (mul binary64 v v))

    the_larger : (b ≡ 0) ⊎ (a < 2 ^ 574) → Ordered a b u
    the_larger c = let f = finite_of_units u false a p in
        record { held = t; number = f.0; positive = f.1; plain = λ d. units_are u false a p; near = λ d e. absurd (elim c [ inl z ↦ no_pos b z d | inr l ↦ no_both a (2 ^ 574) l e ]) }

    go : (c d : Bool) → (T c → b ≡ 0) → (b ≡ 0 → T c) → (T d → a < 2 ^ 574) → (T (not d) → 2 ^ 574 ≤ a) → Ordered a b (cond (c || d) u r)
    go true d z c-of l g = the_larger (inl (z tt))
    go false true z c-of l g = the_larger (inr (l tt))
    go false false z c-of l g =
        let w = root_of_squares u v a b p q h (g tt) hi in
        let f = finite_of_units r false w.size w.value in
        record {
          held = w.held;
          number = f.0;
          positive = f.1;
          plain = λ c. absurd (elim c [ inl e ↦ c-of e | inr k ↦ no_both a (2 ^ 574) k (g tt) ]);
          near = λ c d. subst (λ n. Rel 37 (n * n) (a * a + b * b)) (sym (units_are r false w.size w.value)) w.rel;
        }

-- ---- the theorem
-- inside the domain a side is finite and at most 2 ^ 1574 units
pub in-domain : (x : Float) → T (fits binary64 x) → T (in_domain x) → T (finite x) × (units_of x ≤ 2 ^ 1574)
unfolding in_domain
in-domain x t d = at_most_size x largest (2 ^ 1574) t (unfold of_bits in (refl, refl)) d

larger-first : (a b : ℕ) → b ≤ a → larger a b ≡ a
larger-first a b h = cond_no (ltb a b) b a (le→nltb a b h)

larger_second : (a b : ℕ) → a < b → larger a b ≡ b
larger_second a b h = ap (λ c. cond c b a) (is_true (ltb a b) (lt→ltb a b h))

sides : (x y : Float) → T (fits binary64 x) → T (fits binary64 y) → T (finite x) × (units_of x ≤ 2 ^ 1574) → T (finite y) × (units_of y ≤ 2 ^ 1574)
    → Hypotenuse x y (cond (lt (abs x) (abs y)) (hypot_ordered (abs y) (abs x)) (hypot_ordered (abs x) (abs y)))
sides x y tx ty fx fy =
    subst (λ c. Hypotenuse x y (cond c (hypot_ordered (abs y) (abs x)) (hypot_ordered (abs x) (abs y)))) (sym (lt-units (abs x) (abs y) a b px py))
    (go (ltb a b) (ltb→lt a b) (nltb→le a b))
  where
    a : ℕ
    a = units_of x

    b : ℕ
    b = units_of y

    px : Units (abs x) false a
    px = abs-units x (sign x) a (own_units x tx fx.0)

    py : Units (abs y) false b
    py = abs-units y (sign y) b (own_units y ty fy.0)

    swap : (q : ℕ) → Rel 37 q (b * b + a * a) → Rel 37 q (a * a + b * b)
    swap q w = subst (λ k. Rel 37 q k) (add_comm (b * b) (a * a)) w

    none : (u v : ℕ) → v < u → u ≡ 0 → ⊥
    none u v h e = omega arith

    only : (u v : ℕ) → u ≤ v → v ≡ 0 → u ≡ 0
    only u v h e = omega arith

    go : (c : Bool) → (T c → a < b) → (T (not c) → b ≤ a) → Hypotenuse x y (cond c (hypot_ordered (abs y) (abs x)) (hypot_ordered (abs x) (abs y)))
    go true l g =
        let w = ordered (abs y) (abs x) b a (abs-fits y ty) py px (le_of_lt (l tt)) fy.1 in
        let e = larger_second a b (l tt) in
        let n = units_of (hypot_ordered (abs y) (abs x)) in
        record {
          held = w.held;
          number = w.number;
          positive = w.positive;
          plain = λ c. w.plain (elim c [ inl z ↦ inl z | inr d ↦ elim d [ inl z ↦ absurd (none b a (l tt) z) | inr k ↦ inr (subst (λ m. m < 2 ^ 574) e k) ] ]) ∙ sym e;
          over = λ i j k. (fifty (n * n) (a * a + b * b) (swap (n * n) (w.near i (subst (λ m. 2 ^ 574 ≤ m) e k)))).0;
          under = λ i j k. (fifty (n * n) (a * a + b * b) (swap (n * n) (w.near i (subst (λ m. 2 ^ 574 ≤ m) e k)))).1;
        }
    go false l g =
        let w = ordered (abs x) (abs y) a b (abs-fits x tx) px py (g tt) fx.1 in
        let e = larger-first a b (g tt) in
        let n = units_of (hypot_ordered (abs x) (abs y)) in
        record {
          held = w.held;
          number = w.number;
          positive = w.positive;
          plain = λ c. w.plain (elim c [ inl z ↦ inl (only b a (g tt) z) | inr d ↦ elim d [ inl z ↦ inl z | inr k ↦ inr (subst (λ m. m < 2 ^ 574) e k) ] ]) ∙ sym e;
          over = λ i j k. (fifty (n * n) (a * a + b * b) (w.near j (subst (λ m. 2 ^ 574 ≤ m) e k))).0;
          under = λ i j k. (fifty (n * n) (a * a + b * b) (w.near j (subst (λ m. 2 ^ 574 ≤ m) e k))).1;
        }

pub hypot_is : (x y : Float) → T (fits binary64 x) → T (fits binary64 y) → IsHypot x y (hypot x y)
unfolding hypot
hypot_is x y tx ty = record {
  inside = λ t. subst (Hypotenuse x y) (sym (ap (λ c. cond c whole nan) (is_true both t))) (sides x y tx ty (in-domain x tx (and_l (in_domain x) (in_domain y) t)) (in-domain y ty (and_r (in_domain x) (in_domain y) t)));
  outside = λ t. cond_no both whole nan t;
}
  where
    both : Bool
    both = in_domain x && in_domain y

    whole : Float
    whole = cond (lt (abs x) (abs y)) (hypot_ordered (abs y) (abs x)) (hypot_ordered (abs x) (abs y))
