-- What the code of the square root owes, function by function.
use mathlib.Core.Path.{◌≡◌, refl, sym, ap, ◌∙◌, subst, subst₂}
use mathlib.Core.Bool.{Bool, true, false, ◌&&◌, ◌||◌, beq, true≢false}
use mathlib.Core.Logic.{◌⊎◌, inl, inr}
use Prim.Native.Nat.{ℕ, zero, suc, ◌+◌, ◌*◌, ◌-◌, ◌^◌, ◌/◌, ◌%◌, ◌≤◌, ◌<◌}
use native.Mathlib.Nat.{pow-succ', lt_of_lt_of_le, mod-eq_of_lt, mul-le-mul, mul-le-mul_left, mul-le-mul_right, mul_assoc, mul-one, zero-mul, lt_irrefl, mul-pos, zero-lt-suc}
use native.Mathlib.Omega.{arith}
use lib.IntN.{pos}
use lib.Dec.{T, eqb, lt→ltb, eqb→eq, lit<, lit≤}
use lib.Pow.{pow-add, pow_mono, pow_pos}
use lib.Ieee.{Float, nan, inf, fin, binary64, fits, up, down, lt, eq, to_bits, of_bits}
use lib.Ieee.Bits.{is_true, of_bits-fits}
use lib.Ieee.Fits.{down_pos, up_pos, and_l, and_i, eq→eqb}
use lib.Ieee.Scale.{finite}
use Rattle.std.specs.Int.Count.{count_leading_zeros}
use Rattle.std.proofs.lemmas.Nat.{leading_top}
use Rattle.laws.specs.Units.{Units, sign, units_of}
use Rattle.laws.proofs.Bools.{holds, fails}
use Rattle.laws.proofs.Numbers.{le_by, lt_by}
use Rattle.laws.proofs.Pattern.{pattern_of_digits, units_above_zero}
use Rattle.laws.proofs.Units.{finite_of_units, form, own_units}
use Rattle.math.specs.declared.Parts.{Parts as Taken}
use Rattle.math.proofs.Apart.{place_below}
use Rattle.roots.specs.Root.{IsRoot, NearestRoot, isqrt}
use Rattle.roots.specs.Sqrt.{sqrt, Nearest, root_digits, root_pattern}
use Rattle.roots.proofs.NearestSqrt.{Parts, parts_ge, parts-le, nearest_of_parts, nearest_unique, sqrt_is}
use Rattle.roots.proofs.WholeRoots.{isqrt_is, nearest_root, nearest_root_unique}

-- ---- exact_root
fourfold : (d : ℕ) → 4 * (d * 2 ^ 52) ≡ d * 2 ^ 54
fourfold d = omega arith

pub long_root_few : (d r : ℕ) → d < 2 ^ 54 → IsRoot (d * 2 ^ 54) r → r ≤ 2 ^ 54
long_root_few d r h x = le_by (λ k. never (mul-le-mul k k) x.at_most)
  where
    never : suc (2 ^ 54) * suc (2 ^ 54) ≤ r * r → r * r ≤ d * 2 ^ 54 → ⊥
    never k p = omega arith

pub nearest_of_long : (d r : ℕ) → 0 < d → IsRoot (d * 2 ^ 54) r → NearestRoot (d * 2 ^ 52) ((r + 1) / 2)
nearest_of_long d r h x = nearest_root (d * 2 ^ 52) r (omega arith) (subst (λ n. IsRoot n r) (sym (fourfold d)) x)

-- ---- Scaled::of: t of j + 1 digits, fewer than 53, is moved up by 52 - j places
pub record Moved (t p : ℕ) : Type 0 where
  pub places : p ≤ 52
  pub leading : 2 ^ 52 ≤ t * 2 ^ p
  pub digits : t * 2 ^ p < 2 ^ 53
  pub held : t * 2 ^ p % 2 ^ 64 ≡ t * 2 ^ p

pub moved_up : (t : ℕ) → 0 < t → t < 2 ^ 52 → (11 ≤ count_leading_zeros 64 t) × Moved t (count_leading_zeros 64 t - 11)
moved_up t h k = go (leading_top 64 t h (lt_of_lt_of_le k (lit≤ tt)))
  where
    go : {z : ℕ} → ((j : ℕ) × (z + suc j ≡ 64) × (2 ^ j ≤ t) × (t < 2 ^ suc j)) → (11 ≤ z) × Moved t (z - 11)
    go {z} (j, s, a, b) = let few : j < 52 = lt_by (λ g. never (pow_mono g) a) in (omega arith, at (z - 11) (omega arith))
      where
        never : 2 ^ 52 ≤ 2 ^ j → 2 ^ j ≤ t → ⊥
        never g a = omega arith

        at : (p : ℕ) → j + p ≡ 52 → Moved t p
        at p f = let e : 2 ^ j * 2 ^ p ≡ 2 ^ 52 = sym (pow-add 2 j p) ∙ ap (λ i. 2 ^ i) f in
            let d : t * 2 ^ p < 2 ^ 53 = below (2 ^ j) (2 ^ p) (omega (arith, b, pow-succ' 2 j)) (pow_pos p) e in
            record { places = omega arith; leading = above (2 ^ j) (2 ^ p) a e; digits = d; held = mod-eq_of_lt (lt_of_lt_of_le d (lit≤ tt)) }
          where
            above : (a b : ℕ) → a ≤ t → a * b ≡ 2 ^ 52 → 2 ^ 52 ≤ t * b
            above a b h e = omega (arith, mul-le-mul_right b h)

            below : (a b : ℕ) → t + 1 ≤ 2 * a → 0 < b → a * b ≡ 2 ^ 52 → t * b < 2 ^ 53
            below a b h k e = omega (arith, mul-le-mul_right b h)

-- such a number has no place
module _ (d p : ℕ) (l : 0 < p → 2 ^ 52 ≤ d) (h : d < 2 ^ 52) where
  no_place : p ≡ 0
  no_place = go p l
    where
      go : (p : ℕ) → (0 < p → 2 ^ 52 ≤ d) → p ≡ 0
      go zero l = refl
      go (suc p) l = absurd (lt_irrefl d (lt_of_lt_of_le h (l (zero-lt-suc p))))

  pub moved_back : (k : ℕ) → k ≤ 52 → d * 2 ^ p * 2 ^ 1074 ≡ d * 2 ^ k * 2 ^ (1074 - k)
  moved_back k i = ap (λ q. d * 2 ^ q * 2 ^ 1074) no_place ∙ ap (λ n. n * 2 ^ 1074) (mul-one d) ∙ ap (λ q. d * 2 ^ q) (both k i) ∙ ap (λ n. d * n) (pow-add 2 k (1074 - k)) ∙ sym (mul_assoc d (2 ^ k) (2 ^ (1074 - k)))
    where
      both : (k : ℕ) → k ≤ 52 → 1074 ≡ k + (1074 - k)
      both k h = omega arith

pub placed : (d p : ℕ) → d * 2 ^ p * 2 ^ 1074 ≡ d * 2 ^ (p + 1074)
placed d p = mul_assoc d (2 ^ p) (2 ^ 1074) ∙ ap (λ n. d * n) (sym (pow-add 2 p 1074))

-- ---- which number is nearest, by the excess x of r
module _ (n r x : ℕ) (e : x + n ≡ r * r + 2 ^ 54) where
  pub before : 0 < r → 2 ^ 54 + r ≤ x → x + 2 < 2 ^ 54 + 3 * r → NearestRoot n (r - 1)
  before p h k = go r p e h k
    where
      go : (r : ℕ) → 0 < r → x + n ≡ r * r + 2 ^ 54 → 2 ^ 54 + r ≤ x → x + 2 < 2 ^ 54 + 3 * r → NearestRoot n (r - 1)
      go zero p e h k = absurd (lt_irrefl 0 p)
      go (suc s) p e h k = subst (NearestRoot n) (sym (less s)) (record { low = omega arith; high = omega arith })
        where
          less : (s : ℕ) → suc s - 1 ≡ s
          less s = omega arith

-- ---- nearest_root
pub doubled : (m o : ℕ) → 2 ^ 52 ≤ m → m < 2 ^ 53 → o ≤ 1 → (0 < m * (1 + o)) × (m * (1 + o) < 2 ^ 54)
doubled m o ge lt h = go (1 + o) (omega arith) (omega arith)
  where
    go : (y : ℕ) → 1 ≤ y → y ≤ 2 → (0 < m * y) × (m * y < 2 ^ 54)
    go y k l = (omega (arith, mul-le-mul_left m k), omega (arith, mul-le-mul lt l, mul-le-mul_left m l))

-- ---- root_pattern
module _ (m j : ℕ) (ge : 2 ^ 52 ≤ m) (lt : m < 2 ^ 53) where
  digit_count : (0 < m * (1 + j % 2)) × (m * (1 + j % 2) < 2 ^ 54)
  digit_count = doubled m (j % 2) ge lt (omega arith)

  long_root : IsRoot (m * (1 + j % 2) * 2 ^ 54) (isqrt (m * (1 + j % 2) * 2 ^ 54))
  long_root = isqrt_is (m * (1 + j % 2) * 2 ^ 54) (small (m * (1 + j % 2)) digit_count.1)
    where
      small : (d : ℕ) → d < 2 ^ 54 → d * 2 ^ 54 < 2 ^ 108
      small d h = omega arith

  nearest-digits : NearestRoot (m * (1 + j % 2) * 2 ^ 52) (root_digits m j)
  unfolding root_digits
  nearest-digits = nearest_of_long (m * (1 + j % 2)) (isqrt (m * (1 + j % 2) * 2 ^ 54)) digit_count.0 long_root

  digits-few : root_digits m j ≤ 2 ^ 53
  unfolding root_digits
  digits-few = half (isqrt (m * (1 + j % 2) * 2 ^ 54)) (long_root_few (m * (1 + j % 2)) (isqrt (m * (1 + j % 2) * 2 ^ 54)) digit_count.1 long_root)
    where
      half : (s : ℕ) → s ≤ 2 ^ 54 → (s + 1) / 2 ≤ 2 ^ 53
      half s h = omega arith

  pub pattern_is : (r : ℕ) → 52 ≤ j → j ≤ 3119 → NearestRoot (m * (1 + j % 2) * 2 ^ 52) r → ((j - 52) / 2 * 2 ^ 52 + r ≡ root_pattern m j) × ((j - 52) / 2 * 2 ^ 52 + r < 2047 * 2 ^ 52)
  unfolding root_pattern
  pattern_is r h k x =
      let e = nearest_root_unique (m * (1 + j % 2) * 2 ^ 52) r (root_digits m j) x nearest-digits in
      (ap (λ t. (j - 52) / 2 * 2 ^ 52 + t) e, small r ((j - 52) / 2) (subst (λ t. t ≤ 2 ^ 53) (sym e) digits-few) (few j k))
    where
      few : (j : ℕ) → j ≤ 3119 → (j - 52) / 2 ≤ 1533
      few j h = omega arith

      small : (R k : ℕ) → R ≤ 2 ^ 53 → k ≤ 1533 → k * 2 ^ 52 + R < 2047 * 2 ^ 52
      small R k h l = omega arith

  -- x is n units, and n * 2 ^ 1074 is m * 2 ^ j
  parts_of : (n : ℕ) → 52 ≤ j → n * 2 ^ 1074 ≡ m * 2 ^ j → Parts n (m * (1 + j % 2) * 2 ^ 52) (root_digits m j) ((j - 52) / 2)
  parts_of n h e =
      let k = (j - 52) / 2 in
      record {
        is = e ∙ ap (λ t. m * t) (power (j % 2) k (omega arith) (omega arith)) ∙ regroup m (1 + j % 2) (2 ^ 52) (2 ^ k * 2 ^ k);
        root = nearest-digits;
        most = most (m * (1 + j % 2)) digit_count.1;
        least = least m (1 + j % 2) ge (omega arith);
      }
    where
      power : (r k : ℕ) → r ≤ 1 → j ≡ r + (52 + (k + k)) → 2 ^ j ≡ (1 + r) * (2 ^ 52 * (2 ^ k * 2 ^ k))
      power r k h f = ap (λ t. 2 ^ t) f ∙ pow-add 2 r (52 + (k + k)) ∙ ap (λ t. t * 2 ^ (52 + (k + k))) (bit r h) ∙ ap (λ t. (1 + r) * t) (pow-add 2 52 (k + k) ∙ ap (λ t. 2 ^ 52 * t) (pow-add 2 k k))
        where
          bit : (r : ℕ) → r ≤ 1 → 2 ^ r ≡ 1 + r
          bit zero h = refl
          bit (suc zero) h = refl
          bit (suc (suc r)) h = absurd (never r h)
            where
              never : (r : ℕ) → suc (suc r) ≤ 1 → ⊥
              never r h = omega arith

      regroup : (m y a b : ℕ) → m * (y * (a * b)) ≡ m * y * a * b
      regroup m y a b = omega arith

      most : (d : ℕ) → d < 2 ^ 54 → d * 2 ^ 52 < 2 ^ 106
      most d h = omega arith

      least : (m y : ℕ) → 2 ^ 52 ≤ m → 1 ≤ y → 2 ^ 104 ≤ m * y * 2 ^ 52
      least m y h k = omega (arith, mul-le-mul h k)

  root_is : (x : Float) (n : ℕ) → T (fits binary64 x) → Units x false n → 0 < n → n * 2 ^ 1074 ≡ m * 2 ^ j → 52 ≤ j → j ≤ 3119 → of_bits binary64 (root_pattern m j) ≡ sqrt x
  unfolding root_pattern
  root_is x n t v p e h k = nearest_unique x r (sqrt x) near (the_root x n t v p)
    where
      r : Float
      r = of_bits binary64 (root_pattern m j)

      w : Parts n (m * (1 + j % 2) * 2 ^ 52) (root_digits m j) ((j - 52) / 2)
      w = parts_of n h e

      value : Units r false (root_digits m j * 2 ^ ((j - 52) / 2))
      value = pattern_of_digits ((j - 52) / 2) (root_digits m j) (parts_ge n (m * (1 + j % 2) * 2 ^ 52) (root_digits m j) ((j - 52) / 2) w) (parts-le n (m * (1 + j % 2) * 2 ^ 52) (root_digits m j) ((j - 52) / 2) w) (omega arith)

      near : Nearest x r
      near = let f = finite_of_units r false (root_digits m j * 2 ^ ((j - 52) / 2)) value in
          nearest_of_parts x r n (m * (1 + j % 2) * 2 ^ 52) (root_digits m j) ((j - 52) / 2) (of_bits-fits binary64 (root_pattern m j)) f.0 v value f.1 w

      the_root : (x : Float) (n : ℕ) → T (fits binary64 x) → Units x false n → 0 < n → Nearest x (sqrt x)
      the_root nan n t v p = absurd v
      the_root (inf s) n t v p = absurd v
      the_root (fin true m e) n t v p = absurd (true≢false v.0)
      the_root (fin false zero e) n t v p = absurd (never n (up e) (2 ^ 1074) p v.1)
        where
          never : (n u L : ℕ) → 0 < n → 0 * u * L ≡ n * down e → ⊥
          never n u L h k = lt_irrefl 0 (subst (λ z. 0 < z) (sym k ∙ ap (λ z. z * L) (zero-mul u) ∙ zero-mul L) (mul-pos h (down_pos e)))
      the_root (fin false (suc m) e) n t v p = sqrt_is (fin false (suc m) e) t

-- ---- sqrt, branch by branch. A float above 0 is finite, or plus infinity
above : (x : Float) → lt (fin false 0 (pos 0)) x ≡ true → (x ≡ inf false) ⊎ (T (finite x) × (sign x ≡ false))
unfolding lt
above nan p = absurd (holds p)
above (inf true) p = absurd (holds p)
above (inf false) p = inl refl
above (fin true m e) p = absurd (holds p)
above (fin false m e) p = inr (tt, refl)

pub infinite_root : (x : Float) → eq x (inf false) ≡ true → x ≡ sqrt x
unfolding eq sqrt
infinite_root nan h = absurd (holds h)
infinite_root (inf true) h = absurd (holds h)
infinite_root (inf false) h = refl
infinite_root (fin s m e) h = absurd (holds h)

module _ (x : Float) (t : T (fits binary64 x)) (p : lt (fin false 0 (pos 0)) x ≡ true) (h : eq x (inf false) ≡ false) (n : Taken)
    (g : (y : Float) → fits binary64 y ≡ true → finite y ≡ true → sign y ≡ false → to_bits binary64 x ≡ to_bits binary64 y → units_of y ≡ n.digits * 2 ^ n.place) where
  clear : T (finite x) × (sign x ≡ false)
  clear = elim (above x p) [
    | inl i ↦ absurd (fails (ap (λ y. eq y (inf false)) (sym i) ∙ h) (unfold eq in tt))
    | inr f ↦ f
  ]

  e : units_of x ≡ n.digits * 2 ^ n.place
  e = g x (is_true (fits binary64 x) t) (is_true (finite x) clear.0) clear.1 refl

  value : Units x false (n.digits * 2 ^ n.place)
  value = subst₂ (λ s u. Units x s u) clear.1 e (own_units x t clear.0)

  some : 0 < n.digits * 2 ^ n.place
  some = units_above_zero x (n.digits * 2 ^ n.place) p value

  pub taken_fits : (0 < n.digits) × (n.place ≤ 2045)
  taken_fits = (lt_by (λ k. lt_irrefl 0 (subst (λ z. 0 < z) (ap (λ d. d * 2 ^ n.place) (none k) ∙ zero-mul (2 ^ n.place)) some)), le (place_below n.digits n.place 2046 n.leading (let o = form x t clear.0 in subst (λ u. u < 2 ^ 2098) (sym o.is ∙ e) (lt_of_lt_of_le o.top (lit≤ tt))) (lit< tt)))
    where
      none : {d : ℕ} → d ≤ 0 → d ≡ 0
      none k = omega arith

      le : {k : ℕ} → k < 2046 → k ≤ 2045
      le k = omega arith

  pub taken_root : (m j q : ℕ) → n.digits * 2 ^ n.place * 2 ^ 1074 ≡ m * 2 ^ j → 2 ^ 52 ≤ m → m < 2 ^ 53 → 52 ≤ j → j ≤ 3119 → q ≡ root_pattern m j → of_bits binary64 q ≡ sqrt x
  taken_root m j q f ge l i k r = ap (λ z. of_bits binary64 z) r ∙ root_is m j ge l x (n.digits * 2 ^ n.place) t value some f i k

-- a zero, and what is neither above 0 nor equal to it
pub zero_root : (x : Float) → eq x (fin false 0 (pos 0)) ≡ true → x ≡ sqrt x
unfolding eq sqrt
zero_root nan p = refl
zero_root (inf s) p = absurd (holds p)
zero_root (fin s zero e) p = refl
zero_root (fin s (suc m) e) p = absurd (never (suc m * up e) (mul-pos (zero-lt-suc m) (up_pos e)) (eqb→eq (suc m * up e * 1) (0 * 1 * down e) (and_l (eqb (suc m * up e * 1) (0 * 1 * down e)) (beq s false || eqb (suc m * up e * 1) 0) (holds p))))
  where
    never : (u : ℕ) → 0 < u → u * 1 ≡ 0 * 1 * down e → ⊥
    never u h k = omega arith

zero_level : (s : Bool) (u d : ℕ) → T (eqb (0 * u * 1) (0 * 1 * d) && (beq s false || eqb (0 * u * 1) 0))
zero_level s u d = and_i (eqb (0 * u * 1) (0 * 1 * d)) (beq s false || eqb (0 * u * 1) 0) (eq→eqb (zeros u d).0) (go s (eq→eqb (zeros u d).1))
  where
    zeros : (u d : ℕ) → (0 * u * 1 ≡ 0 * 1 * d) × (0 * u * 1 ≡ 0)
    zeros u d = (omega arith, omega arith)

    go : (s : Bool) → T (eqb (0 * u * 1) 0) → T (beq s false || eqb (0 * u * 1) 0)
    go true h = h
    go false h = tt

pub no_root : (x : Float) → lt (fin false 0 (pos 0)) x ≡ false → eq x (fin false 0 (pos 0)) ≡ false → nan ≡ sqrt x
unfolding lt eq sqrt
no_root nan p q = refl
no_root (inf true) p q = refl
no_root (inf false) p q = absurd (fails p tt)
no_root (fin s zero e) p q = absurd (fails q (zero_level s (up e) (down e)))
no_root (fin false (suc m) e) p q = absurd (fails p (lt→ltb (0 * 1 * down e) (suc m * up e * 1) (some (suc m * up e) (down e) (mul-pos (zero-lt-suc m) (up_pos e)))))
  where
    some : (u d : ℕ) → 0 < u → 0 * 1 * d < u * 1
    some u d h = omega arith
no_root (fin true (suc m) e) p q = refl
