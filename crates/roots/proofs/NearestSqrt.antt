-- The whole-number method gives the nearest f64 to the root. A float q * 2 ^ j against multiples of the root's last place 2 ^ k is one of them, or lies below 2 ^ 52 of them, where the root is not.
use mathlib.Core.Path.{◌≡◌, refl, sym, ap, ◌∙◌, subst}
use mathlib.Core.Bool.{Bool, true, false, not, cond, true≢false}
use mathlib.Core.Logic.{◌⊎◌, inl, inr}
use Prim.Native.Nat.{ℕ, zero, suc, ◌+◌, ◌*◌, ◌-◌, ◌^◌, ◌/◌, ◌≤◌, ◌<◌}
use native.Mathlib.Nat.{le_trans, le_of_lt, lt_of_lt_of_le, lt_of_le_of_lt, lt_of_not-le, mul-le-mul, mul-le-mul_right, mul-lt-mul_of_pos_right, lt_of_mul-lt-mul_right, le_of_mul-le-mul_right, mul-pos, mul_assoc, mul-div_cancel, eq-or-lt_of_le, lt_irrefl}
use native.Mathlib.Omega.{arith}
use lib.Dec.{T, ltb, leb, leb→le, nleb→lt, nltb→le, lit<, lit≤}
use lib.Pow.{pow-add, pow_pos, pow_mono}
use lib.Ieee.{Float, nan, inf, fin, binary64, fits, up, down, size, units, odd}
use lib.Ieee.Digits.{size-lt, size-le, size_reaches}
use lib.Ieee.Exact.{units_val}
use lib.Ieee.Fits.{odd-fits}
use lib.Ieee.Scale.{finite}
use Rattle.laws.specs.Units.{Units, sign, units_of}
use Rattle.laws.proofs.Numbers.{sub-add}
use Rattle.laws.proofs.Units.{Form, form, units_are, units-pos, same_float, finite_of_units}
use Rattle.roots.specs.Root.{NearestRoot, isqrt}
use Rattle.roots.specs.Sqrt.{places, digits, sqrt, Nearest, IsSqrt}
use Rattle.roots.proofs.WholeRoots.{isqrt_is, nearest_root}

-- there is one at most
pub nearest_unique : (x r s : Float) → Nearest x r → Nearest x s → r ≡ s
nearest_unique x r s p q = same_float r s p.held q.held p.number q.number (p.positive ∙ sym q.positive)
    (go (units_of r) (units_of s) (4 * (units_of x * 2 ^ 1074)) (p.above s q.held q.number) (q.below r p.held p.number) (q.above r p.held p.number) (p.below s q.held q.number))
  where
    go : (a b N : ℕ) → (a < b → N < (a + b) * (a + b)) → (a < b → (b + a) * (b + a) < N) → (b < a → N < (b + a) * (b + a)) → (b < a → (a + b) * (a + b) < N) → a ≡ b
    go a b N f g h k = join (λ l. clash (f l) (g l)) (λ l. clash' (h l) (k l))
      where
        clash : N < (a + b) * (a + b) → (b + a) * (b + a) < N → ⊥
        clash p q = omega arith

        clash' : N < (b + a) * (b + a) → (a + b) * (a + b) < N → ⊥
        clash' p q = omega arith

        join : ¬ (a < b) → ¬ (b < a) → a ≡ b
        join p q = omega arith

-- ---- from whole numbers. x is n units, n * 2 ^ 1074 is M * 4 ^ k, and r is R * 2 ^ k units
pub record Parts (n M R k : ℕ) : Type 0 where
  pub is : n * 2 ^ 1074 ≡ M * (2 ^ k * 2 ^ k)
  pub root : NearestRoot M R
  pub most : M < 2 ^ 106
  pub least : 2 ^ 104 ≤ M

digits_ge : (M R : ℕ) → 2 ^ 104 ≤ M → M ≤ R * R + R → 2 ^ 52 ≤ R
digits_ge M R h k = le_of (λ g. never g (mul-le-mul g g))
  where
    le_of : (R < 2 ^ 52 → ⊥) → 2 ^ 52 ≤ R
    le_of f = omega (arith, f)

    never : suc R ≤ 2 ^ 52 → suc R * suc R ≤ 2 ^ 52 * 2 ^ 52 → ⊥
    never g p = omega arith

digits_le : (M R : ℕ) → M < 2 ^ 106 → R * R < M + R → R ≤ 2 ^ 53
digits_le M R h k = le_of (λ g. never R g k)
  where
    le_of : (2 ^ 53 < R → ⊥) → R ≤ 2 ^ 53
    le_of f = omega (arith, f)

    never : (R : ℕ) → 2 ^ 53 < R → R * R < M + R → ⊥
    never (suc w) g k = let g' : 2 ^ 53 ≤ w = omega arith in omega (arith, mul-le-mul g' g')
    never zero g k = omega arith

pub parts_ge : (n M R k : ℕ) → Parts n M R k → 2 ^ 52 ≤ R
parts_ge n M R k x = digits_ge M R x.least x.root.high

pub parts-le : (n M R k : ℕ) → Parts n M R k → R ≤ 2 ^ 53
parts-le n M R k x = digits_le M R x.most x.root.low

-- a float q * 2 ^ j against multiples of 2 ^ k: it is one, or it is below 2 ^ 52 * 2 ^ k
multiple : (q j k : ℕ) → q < 2 ^ 53 → ((c : ℕ) × (q * 2 ^ j ≡ c * 2 ^ k)) ⊎ (q * 2 ^ j < 2 ^ 52 * 2 ^ k)
multiple q j k h = go (leb k j) (leb→le k j) (nleb→lt k j)
  where
    go : (b : Bool) → (T b → k ≤ j) → (T (not b) → j < k) → ((c : ℕ) × (q * 2 ^ j ≡ c * 2 ^ k)) ⊎ (q * 2 ^ j < 2 ^ 52 * 2 ^ k)
    go true f g = inl (q * 2 ^ (j - k), ap (λ i. q * 2 ^ i) (sub-add j k (f tt)) ∙ ap (λ t. q * t) (pow-add 2 (j - k) k) ∙ sym (mul_assoc q (2 ^ (j - k)) (2 ^ k)))
    go false f g = inr (lt_of_lt_of_le (mul-lt-mul_of_pos_right h (pow_pos j)) (twice (2 ^ j) (2 ^ k) (rw (pow-add 2 1 j) at (pow_mono {i = 1 + j} {j = k} (one j k (g tt))))))
      where
        one : (j k : ℕ) → j < k → 1 + j ≤ k
        one j k h = omega arith

        twice : (a b : ℕ) → 2 ^ 1 * a ≤ b → 2 ^ 53 * a ≤ 2 ^ 52 * b
        twice a b h = omega arith

module _ (N M R P : ℕ) (pos : 0 < P) (is : N ≡ M * (P * P)) (root : NearestRoot M R) (ge : 2 ^ 52 ≤ R) (least : 2 ^ 104 ≤ M) where
  -- the next multiple above
  over : (c : ℕ) → R * P < c * P → 4 * N < (R * P + c * P) * (R * P + c * P)
  over c h = go (lt_of_mul-lt-mul_right P h)
    where
      go : R < c → 4 * N < (R * P + c * P) * (R * P + c * P)
      go l = join (R + c) (sq (R + c) (omega arith))
        where
          sq : (t : ℕ) → 2 * R + 1 ≤ t → 4 * M < t * t
          sq t g = omega (arith, mul-le-mul g g, root.high)

          join : (t : ℕ) → 4 * M < (R + c) * (R + c) → 4 * N < (R * P + c * P) * (R * P + c * P)
          join t g = omega (arith, mul-lt-mul_of_pos_right g (mul-pos pos pos), is)

  -- a multiple below
  under : (y : ℕ) → y + P ≤ R * P → (R * P + y) * (R * P + y) < 4 * N
  under y h = go R root.low ge h
    where
      go : (R : ℕ) → R * R < M + R → 2 ^ 52 ≤ R → y + P ≤ R * P → (R * P + y) * (R * P + y) < 4 * N
      go zero a b c = omega arith
      go (suc w) a b c = lt_of_le_of_lt (mul-le-mul step step) (last (sq a))
        where
          step : suc w * P + y ≤ (2 * w + 1) * P
          step = omega arith

          sq : suc w * suc w < M + suc w → (2 * w + 1) * (2 * w + 1) < 4 * M
          sq a = omega arith

          last : (2 * w + 1) * (2 * w + 1) < 4 * M → (2 * w + 1) * P * ((2 * w + 1) * P) < 4 * N
          last g = omega (arith, mul-lt-mul_of_pos_right g (mul-pos pos pos), is)

  -- a smaller float between two multiples
  beneath : (y : ℕ) → y < 2 ^ 52 * P → y < R * P → (R * P + y) * (R * P + y) < 4 * N
  beneath y h k = elim (eq-or-lt_of_le ge) [
    | inl e ↦ at_least e
    | inr l ↦ under y (next (mul-le-mul_right P l))
  ]
    where
      next : suc (2 ^ 52) * P ≤ R * P → y + P ≤ R * P
      next g = omega arith

      at_least : 2 ^ 52 ≡ R → (R * P + y) * (R * P + y) < 4 * N
      at_least e = lt_of_lt_of_le (square (R * P + y) (2 * (R * P)) (omega arith)) (last (rr R e) (mul-le-mul_right (P * P) (rr R e)))
        where
          square : (a b : ℕ) → a < b → a * a < b * b
          square a b h = omega (arith, mul-le-mul h h)

          rr : (R : ℕ) → 2 ^ 52 ≡ R → R * R ≤ M
          rr R e = subst (λ t. t * t ≤ M) e (omega (arith, least))

          last : R * R ≤ M → R * R * (P * P) ≤ M * (P * P) → 2 * (R * P) * (2 * (R * P)) ≤ 4 * N
          last g h = omega (arith, is)

  above_all : (q j k : ℕ) → 2 ^ k ≡ P → q < 2 ^ 53 → R * P < q * 2 ^ j → 4 * N < (R * P + q * 2 ^ j) * (R * P + q * 2 ^ j)
  above_all q j k e f h = go (multiple q j k f)
    where
      go : ((c : ℕ) × (q * 2 ^ j ≡ c * 2 ^ k)) ⊎ (q * 2 ^ j < 2 ^ 52 * 2 ^ k) → 4 * N < (R * P + q * 2 ^ j) * (R * P + q * 2 ^ j)
      go (inl c) =
          let v : q * 2 ^ j ≡ c.0 * P = c.1 ∙ ap (λ t. c.0 * t) e in
          subst (λ t. 4 * N < (R * P + t) * (R * P + t)) (sym v) (over c.0 (subst (λ t. R * P < t) v h))
      go (inr l) = absurd (never (subst (λ t. q * 2 ^ j < 2 ^ 52 * t) e l) (mul-le-mul_right P ge))
        where
          never : q * 2 ^ j < 2 ^ 52 * P → 2 ^ 52 * P ≤ R * P → ⊥
          never a b = absurd (lt_irrefl (R * P) (lt_of_lt_of_le h (le_trans (le_of_lt a) b)))

  below_all : (q j k : ℕ) → 2 ^ k ≡ P → q < 2 ^ 53 → q * 2 ^ j < R * P → (R * P + q * 2 ^ j) * (R * P + q * 2 ^ j) < 4 * N
  below_all q j k e f h = go (multiple q j k f)
    where
      go : ((c : ℕ) × (q * 2 ^ j ≡ c * 2 ^ k)) ⊎ (q * 2 ^ j < 2 ^ 52 * 2 ^ k) → (R * P + q * 2 ^ j) * (R * P + q * 2 ^ j) < 4 * N
      go (inl c) =
          let v : q * 2 ^ j ≡ c.0 * P = c.1 ∙ ap (λ t. c.0 * t) e in
          subst (λ t. (R * P + t) * (R * P + t) < 4 * N) (sym v) (under (c.0 * P) (step c.0 (lt_of_mul-lt-mul_right P (subst (λ t. t < R * P) v h))))
        where
          step : (c : ℕ) → c < R → c * P + P ≤ R * P
          step c l = omega (arith, mul-le-mul_right P l)
      go (inr l) = beneath (q * 2 ^ j) (subst (λ t. q * 2 ^ j < 2 ^ 52 * t) e l) h

-- r, of R * 2 ^ k units, is the float nearest to x's root
pub nearest_of_parts : (x r : Float) (n M R k : ℕ) → T (fits binary64 r) → T (finite r) → Units x false n → Units r false (R * 2 ^ k) → sign r ≡ false → Parts n M R k → Nearest x r
nearest_of_parts x r n M R k t f v w s p = record {
  held = t;
  number = f;
  positive = s;
  above = λ y a b h. let o = form y a b in
      subst (λ u. 4 * (u * 2 ^ 1074) < (units_of r + units_of y) * (units_of r + units_of y)) (sym (units_are x false n v))
      (subst (λ u. 4 * (n * 2 ^ 1074) < (u + units_of y) * (u + units_of y)) (sym (units_are r false (R * 2 ^ k) w))
      (subst (λ u. 4 * (n * 2 ^ 1074) < (R * 2 ^ k + u) * (R * 2 ^ k + u)) (sym o.is)
      (above_all (n * 2 ^ 1074) M R (2 ^ k) (pow_pos k) p.is p.root (parts_ge n M R k p) p.least o.q o.j k refl o.few
      (subst (λ u. u < o.q * 2 ^ o.j) (units_are r false (R * 2 ^ k) w) (subst (λ u. units_of r < u) o.is h)))));
  below = λ y a b h. let o = form y a b in
      subst (λ u. (units_of r + units_of y) * (units_of r + units_of y) < 4 * (u * 2 ^ 1074)) (sym (units_are x false n v))
      (subst (λ u. (u + units_of y) * (u + units_of y) < 4 * (n * 2 ^ 1074)) (sym (units_are r false (R * 2 ^ k) w))
      (subst (λ u. (R * 2 ^ k + u) * (R * 2 ^ k + u) < 4 * (n * 2 ^ 1074)) (sym o.is)
      (below_all (n * 2 ^ 1074) M R (2 ^ k) (pow_pos k) p.is p.root (parts_ge n M R k p) p.least o.q o.j k refl o.few
      (subst (λ u. o.q * 2 ^ o.j < u) (units_are r false (R * 2 ^ k) w) (subst (λ u. u < units_of r) o.is h)))));
}

-- ---- the method has such parts
shape : (N k z : ℕ) → N < 2 ^ z → 2 ^ (z - 1) ≤ N → 105 + (k + k) ≤ z → z ≤ 106 + (k + k) → (2 ^ 104 * (2 ^ k * 2 ^ k) ≤ N) × (N < 2 ^ 106 * (2 ^ k * 2 ^ k))
shape N k z a b c d = (
  le_trans (subst (λ t. t ≤ 2 ^ (z - 1)) (pow-add 2 104 (k + k) ∙ ap (λ t. 2 ^ 104 * t) (pow-add 2 k k)) (pow_mono (less z (k + k) c))) b,
  lt_of_lt_of_le a (subst (λ t. 2 ^ z ≤ t) (pow-add 2 106 (k + k) ∙ ap (λ t. 2 ^ 106 * t) (pow-add 2 k k)) (pow_mono d)),
)
  where
    less : (z w : ℕ) → 105 + w ≤ z → 104 + w ≤ z - 1
    less z w h = omega arith

-- n = q * 2 ^ j, with 0 < q < 2 ^ 53
record Found (n k : ℕ) : Type 0 where
  M : ℕ
  is : n * 2 ^ 1074 ≡ M * (2 ^ k * 2 ^ k)
  most : M < 2 ^ 106
  least : 2 ^ 104 ≤ M

found : (q j n : ℕ) → 0 < q → q < 2 ^ 53 → n ≡ q * 2 ^ j → Found n (places n)
unfolding places
found q j n p f e = go (size (n * 2 ^ 1074)) (size-lt (n * 2 ^ 1074)) (size_reaches (n * 2 ^ 1074)) (size-le (n * 2 ^ 1074))
  where
    is : n * 2 ^ 1074 ≡ q * 2 ^ (j + 1074)
    is = ap (λ t. t * 2 ^ 1074) e ∙ mul_assoc q (2 ^ j) (2 ^ 1074) ∙ ap (λ t. q * t) (sym (pow-add 2 j 1074))

    go : (z : ℕ) → n * 2 ^ 1074 < 2 ^ z → ((i : ℕ) → i < z → 2 ^ i ≤ n * 2 ^ 1074) → ((i : ℕ) → n * 2 ^ 1074 < 2 ^ i → z ≤ i) → Found n ((z - 105) / 2)
    go z lt ge le =
        let few : z ≤ 53 + (j + 1074) = le (53 + (j + 1074)) (subst (λ t. t < 2 ^ (53 + (j + 1074))) (sym is) (subst (λ t. q * 2 ^ (j + 1074) < t) (sym (pow-add 2 53 (j + 1074))) (mul-lt-mul_of_pos_right f (pow_pos (j + 1074))))) in
        let big : j + 1074 < z = lt_of_not-le (λ g. lt_irrefl (n * 2 ^ 1074) (lt_of_lt_of_le lt (le_trans (pow_mono g) (subst (λ t. 2 ^ (j + 1074) ≤ t) (sym is) (one (2 ^ (j + 1074))))))) in
        let k : ℕ = (z - 105) / 2 in
        let a : 105 + (k + k) ≤ z = omega arith in
        let b : z ≤ 106 + (k + k) = omega arith in
        let c : k + k ≤ j + 1074 = omega arith in
        let s = shape (n * 2 ^ 1074) k z lt (ge (z - 1) (omega arith)) a b in
        let v : n * 2 ^ 1074 ≡ q * 2 ^ (j + 1074 - (k + k)) * (2 ^ k * 2 ^ k) = is ∙ ap (λ t. q * 2 ^ t) (sub-add (j + 1074) (k + k) c) ∙ ap (λ t. q * t) (pow-add 2 (j + 1074 - (k + k)) (k + k)) ∙ sym (mul_assoc q (2 ^ (j + 1074 - (k + k))) (2 ^ (k + k))) ∙ ap (λ t. q * 2 ^ (j + 1074 - (k + k)) * t) (pow-add 2 k k) in
        record {
          M = q * 2 ^ (j + 1074 - (k + k));
          is = v;
          most = lt_of_mul-lt-mul_right (2 ^ k * 2 ^ k) (subst (λ t. t < 2 ^ 106 * (2 ^ k * 2 ^ k)) v s.1);
          least = le_of_mul-le-mul_right {k = 2 ^ k * 2 ^ k} (subst (λ t. 2 ^ 104 * (2 ^ k * 2 ^ k) ≤ t) v s.0) (mul-pos (pow_pos k) (pow_pos k));
        }
      where
        one : (t : ℕ) → t ≤ q * t
        one t = omega (arith, mul-le-mul_right t p)

pub parts : (q j n : ℕ) → 0 < q → q < 2 ^ 53 → n ≡ q * 2 ^ j → (M : ℕ) × Parts n M (digits n) (places n)
unfolding digits
parts q j n p f e =
    let w = found q j n p f e in
    let k = places n in
    let d : n * 2 ^ 1074 / (2 ^ k * 2 ^ k) ≡ w.M = ap (λ t. t / (2 ^ k * 2 ^ k)) w.is ∙ mul-div_cancel w.M (mul-pos (pow_pos k) (pow_pos k)) in (
      w.M,
      record {
        is = w.is;
        root = subst (λ t. NearestRoot w.M ((isqrt (4 * t) + 1) / 2)) (sym d) (nearest_root w.M (isqrt (4 * w.M)) (le_trans (lit≤ tt) w.least) (isqrt_is (4 * w.M) (four w.M w.most)));
        most = w.most;
        least = w.least;
      },
    )
  where
    four : (M : ℕ) → M < 2 ^ 106 → 4 * M < 2 ^ 108
    four M h = omega arith

-- R * 2 ^ k units do not overflow
shift_le : (n : ℕ) → n < 2 ^ 1024 * 2 ^ 1074 → places n ≤ 1533
unfolding places
shift_le n h = go (size (n * 2 ^ 1074)) (size-le (n * 2 ^ 1074) 3172 (lt_of_lt_of_le (mul-lt-mul_of_pos_right h (pow_pos 1074)) (lit≤ tt)))
  where
    go : (z : ℕ) → z ≤ 3172 → (z - 105) / 2 ≤ 1533
    go z h = omega arith

root_top : (R k : ℕ) → R ≤ 2 ^ 53 → k ≤ 1533 → R * 2 ^ k < 2 ^ 2098
root_top R k h l = lt_of_le_of_lt (mul-le-mul h (pow_mono l)) (lit< tt)

made : (R k : ℕ) → R ≤ 2 ^ 53 → R * 2 ^ k < 2 ^ 2098 → T (fits binary64 (units binary64 false R k))
unfolding units
made R k h l = go (ltb (R * 2 ^ k) (2 ^ 2098)) (nltb→le (R * 2 ^ k) (2 ^ 2098))
  where
    go : (b : Bool) → (T (not b) → 2 ^ 2098 ≤ R * 2 ^ k) → T (fits binary64 (cond b (odd 54 false R k 1074) (inf false)))
    go true n = odd-fits binary64 54 false R k (lt_of_le_of_lt h (lit< tt)) h l
    go false n = absurd (lt_irrefl (R * 2 ^ k) (lt_of_lt_of_le l (n tt)))

-- the digits of the root of a positive float: what `hypot` needs of it
pub record RootDigits (x : Float) : Type 0 where
  pub n : ℕ
  pub M : ℕ
  pub R : ℕ
  pub k : ℕ
  pub from : Units x false n
  pub value : Units (sqrt x) false (R * 2 ^ k)
  pub held : T (fits binary64 (sqrt x))
  pub parts : Parts n M R k

pub root_digits : (x : Float) → T (fits binary64 x) → T (finite x) → sign x ≡ false → 0 < units_of x → RootDigits x
unfolding sqrt units_of
root_digits nan t f s p = absurd f
root_digits (inf u) t f s p = absurd f
root_digits (fin true m e) t f s p = absurd (true≢false s)
root_digits (fin false zero e) t f s p = absurd (lt_irrefl 0 (subst (λ k. 0 < k) (units_are (fin false zero e) false 0 (refl, zeros (up e) (down e) (2 ^ 1074))) p))
  where
    zeros : (u d L : ℕ) → 0 * u * L ≡ 0 * d
    zeros u d L = omega arith
root_digits (fin false (suc m) e) t f s p = go (form (fin false (suc m) e) t f)
  where
    x : Float
    x = fin false (suc m) e

    pos_q : (q b n : ℕ) → 0 < n → n ≡ q * b → 0 < q
    pos_q zero b n h e = omega arith
    pos_q (suc q) b n h e = omega arith

    go : Form (fin false (suc m) e) → RootDigits (fin false (suc m) e)
    go o =
        let n = units_of x in
        let w = parts o.q o.j n (pos_q o.q (2 ^ o.j) n p o.is) o.few o.is in
        let R = digits n in
        let k = places n in
        let l = parts-le n w.0 R k w.1 in
        let top = root_top R k l (shift_le n (subst (λ u. u < 2 ^ 1024 * 2 ^ 1074) (sym o.is) o.top)) in
        record {
          n = n;
          M = w.0;
          R = R;
          k = k;
          from = subst (λ u. Units x false u) (sym o.is) o.value;
          value = units_val binary64 false R k top;
          held = made R k l top;
          parts = w.1;
        }

-- the theorem
pub sqrt_is : (x : Float) → T (fits binary64 x) → IsSqrt x (sqrt x)
unfolding sqrt
sqrt_is nan t = refl
sqrt_is (inf true) t = refl
sqrt_is (inf false) t = refl
sqrt_is (fin s zero e) t = refl
sqrt_is (fin true (suc m) e) t = refl
sqrt_is (fin false (suc m) e) t = go (root_digits (fin false (suc m) e) t tt refl some)
  where
    some : 0 < units_of (fin false (suc m) e)
    some = units-pos false m e t

    go : RootDigits (fin false (suc m) e) → Nearest (fin false (suc m) e) (sqrt (fin false (suc m) e))
    go d = let f = finite_of_units (sqrt (fin false (suc m) e)) false (d.R * 2 ^ d.k) d.value in
        nearest_of_parts (fin false (suc m) e) (sqrt (fin false (suc m) e)) d.n d.M d.R d.k d.held f.0 d.from d.value f.1 d.parts
