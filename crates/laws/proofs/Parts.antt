-- Parts of a float: x ⊗ y, for an x that is not negative and a y from 0 to 1. Such a product is a number from 0 to x, and a larger y gives no smaller one.
use mathlib.Core.Path.{◌≡◌, refl, sym, ap, ◌∙◌, subst}
use mathlib.Core.Bool.{Bool, true, false, ◌||◌, beq}
use Prim.Native.Nat.{ℕ, ◌*◌, ◌^◌, ◌≤◌, ◌<◌}
use native.Mathlib.Nat.{le_trans, le_of_eq, le_of_lt, lt_of_le_of_lt, lt_of_lt_of_le, mul_assoc, mul-le-mul_left, mul-le-mul_right, eq_of_mul-eq-mul_right}
use native.Mathlib.Omega.{arith}
use lib.IntN.{pos}
use lib.Dec.{T, eqb, eqb→eq, lit≤, lit<}
use lib.Ieee.{Float, binary64, fits, of_bits, of_int, round, le, eq, div}
use lib.Ieee.Exact.{round_exact}
use lib.Ieee.Fits.{round-fits, mul-fits, and_l}
use lib.Ieee.Order.{round_mono}
use lib.Ieee.Scale.{grid, overflow, finite, round_under, round_same}
use Rattle.laws.specs.Eighths.{eighth}
use Rattle.laws.specs.Ops.{◌⊗◌}
use Rattle.laws.specs.Units.{Units, units_of}
use Rattle.laws.proofs.Amount.{Amount, amount_of, amount_of_units, at_most_amounts, whole-units}
use Rattle.laws.proofs.Compare.{eq-values}
use Rattle.laws.proofs.Error.{round-value}
use Rattle.laws.proofs.Exact.{round_power}
use Rattle.laws.proofs.One.{mul_one}
use Rattle.laws.proofs.Size.{at_most-units}
use Rattle.laws.proofs.Units.{form, units_are, finite_of_units, same_float, rescale, mul-units, div-units}

-- ---- k / 8
-- `eighth-is.k`: the bit pattern of k / 8, up to 8 / 8
pub eighth-is : (of_bits binary64 0 ≡ eighth 0)
    × (of_bits binary64 0x3fc0_0000_0000_0000 ≡ eighth 1)
    × (of_bits binary64 0x3fd0_0000_0000_0000 ≡ eighth 2)
    × (of_bits binary64 0x3fd8_0000_0000_0000 ≡ eighth 3)
    × (of_bits binary64 0x3fe0_0000_0000_0000 ≡ eighth 4)
    × (of_bits binary64 0x3fe4_0000_0000_0000 ≡ eighth 5)
    × (of_bits binary64 0x3fe8_0000_0000_0000 ≡ eighth 6)
    × (of_bits binary64 0x3fec_0000_0000_0000 ≡ eighth 7)
    × (of_bits binary64 0x3ff0_0000_0000_0000 ≡ eighth 8)
unfolding of_bits of_int div
eighth-is = (refl, refl, refl, refl, refl, refl, refl, refl, refl)

pub eighth-units : (k : ℕ) → k < 2 ^ 53 → Units (eighth k) false (k * 2 ^ 1071)
eighth-units k h =
    let u = 2 ^ 1074 in
    let w = whole-units k (le_of_lt h) in
    subst (λ z. Units z false (k * 2 ^ 1071))
    (sym (div-units (of_int binary64 (pos k)) (of_int binary64 (pos 8)) false false (k * u) (8 * u) (lit< tt) w (whole-units 8 (lit≤ tt))
    ∙ round_same binary64 false (k * u) (8 * u) k 8 (lit< tt) (lit< tt) (mul_assoc k u 8)))
    (rescale (round binary64 false k 8) false k 8 (k * 2 ^ 1071) u (lit< tt) (mul_assoc k (2 ^ 1071) 8) (round_power false k 3 h (lit≤ tt)))

-- of k up to 8: at most 1
up_to_one : (k : ℕ) → k ≤ 8 → Units (eighth k) false (k * 2 ^ 1071) × (k * 2 ^ 1071 ≤ 2 ^ 1074)
up_to_one k h = (eighth-units k (lt_of_le_of_lt h (lit< tt)), le_trans (mul-le-mul_right (2 ^ 1071) h) (lit≤ tt))

-- ---- one product, one rounding
-- the second factor has its sign clear
product : (x y : Float) (s : Bool) (a b : ℕ) → Units x s a → Units y false b → x ⊗ y ≡ round binary64 s (a * b) (2 ^ 1074 * 2 ^ 1074)
product x y true a b v w = mul-units x y true false a b v w
product x y false a b v w = mul-units x y false false a b v w

-- a fraction that rounds to at most n units is in range
rounds_under : (a c n : ℕ) (y : Float) → 0 < c → Units y false n → T (le (round binary64 false a c) y)
    → (grid binary64 a c < overflow binary64) × (grid binary64 a c ≤ n)
unfolding round
rounds_under a c n y C v h =
    let r = round binary64 false a c in
    let k = at_most-units r y n (round-fits binary64 false a c) v (round_mono binary64 0 1 a c (lit< tt) C (omega arith)) h in
    let g = round_under binary64 a c k.0 in
    (g, subst (λ m. m ≤ n) (units_are r false (grid binary64 a c) (round-value false a c g)) k.1)

-- floats of one sign that are equal are the same
same_of_equal : (x y : Float) (s : Bool) (a b : ℕ) → T (fits binary64 x) → T (fits binary64 y) → Units x s a → Units y s b → T (eq x y) → x ≡ y
same_of_equal x y s a b t r v w e =
    let u = 2 ^ 1074 in
    let f = finite_of_units x s a v in
    let g = finite_of_units y s b w in
    let l = and_l (eqb (a * u) (b * u)) (beq s s || eqb (a * u) 0) (subst T (eq-values x y s s a u b u (lit< tt) (lit< tt) v w) e) in
    let m = eq_of_mul-eq-mul_right u (lit< tt) a b (eqb→eq (a * u) (b * u) l) in
    same_float x y t r f.0 g.0 (f.1 ∙ sym g.1) (units_are x s a v ∙ m ∙ sym (units_are y s b w))

-- ---- the parts of x
module _ (x : Float) (fit : T (fits binary64 x)) (number : T (finite x)) (not_negative : T (le (of_bits binary64 0) x)) where
  own : Amount x (units_of x)
  own = amount_of x fit number not_negative

  -- of x ⊗ y, for a y of b units
  abbrev size : ℕ → ℕ
  size b = grid binary64 (units_of x * b) (2 ^ 1074 * 2 ^ 1074)

  module _ (y : Float) (b : ℕ) (v : Units y false b) (few : b ≤ 2 ^ 1074) where
    in_range : (size b < overflow binary64) × (size b ≤ units_of x)
    in_range =
        let u = 2 ^ 1074 in
        let n = units_of x in
        let o = form x fit number in
        rounds_under (n * b) (u * u) n (round binary64 false n u) (lit< tt)
        (round_exact binary64 false n u o.q o.j (lit< tt) o.few (lt_of_lt_of_le o.top (lit≤ tt)) (ap (λ k. k * u) o.is))
        (round_mono binary64 (n * b) (u * u) n u (lit< tt) (lit< tt) (le_trans (mul-le-mul_right u (mul-le-mul_left n few)) (le_of_eq (mul_assoc n u u))))

    value : Units (x ⊗ y) own.s (size b)
    value =
        subst (λ z. Units z own.s (size b)) (sym (product x y own.s (units_of x) b own.value v))
        (round-value own.s (units_of x * b) (2 ^ 1074 * 2 ^ 1074) in_range.0)

    amount : Amount (x ⊗ y) (size b)
    amount = record { s = own.s; value = value; clear = λ e. none in_range.1 (own.clear e) }
      where
        none : {a c : ℕ} → a ≤ c → c ≡ 0 → a ≡ 0
        none k e = omega arith

    pub part_held : T (fits binary64 (x ⊗ y)) × T (finite (x ⊗ y)) × T (le (of_bits binary64 0) (x ⊗ y)) × T (le (x ⊗ y) x)
    part_held = (
      mul-fits binary64 x y,
      (finite_of_units (x ⊗ y) own.s (size b) value).0,
      at_most_amounts {a = 0} (amount_of_units (unfold of_bits in (refl, refl))) amount (omega arith),
      at_most_amounts amount own in_range.1,
    )

  module _ (y z : Float) (a b : ℕ) (v : Units y false a) (w : Units z false b) (few : b ≤ 2 ^ 1074) where
    pub parts_in_order : a ≤ b → T (le (x ⊗ y) (x ⊗ z))
    parts_in_order h =
        let c = 2 ^ 1074 * 2 ^ 1074 in
        let n = units_of x in
        at_most_amounts (amount y a v (le_trans h few)) (amount z b w few)
        (rounds_under (n * a) c (size b) (round binary64 false (n * b) c) (lit< tt) (round-value false (n * b) c (in_range z b w few).0)
        (round_mono binary64 (n * a) c (n * b) c (lit< tt) (lit< tt) (mul-le-mul_right c (mul-le-mul_left n h)))).1

    pub same_part : a ≤ 2 ^ 1074 → T (eq (x ⊗ y) (x ⊗ z)) → x ⊗ y ≡ x ⊗ z
    same_part h = same_of_equal (x ⊗ y) (x ⊗ z) own.s (size a) (size b) (mul-fits binary64 x y) (mul-fits binary64 x z) (value y a v h) (value z b w few)

  -- ---- by eighths
  pub at_eight : x ⊗ eighth 8 ≡ x
  at_eight = ap (λ y. x ⊗ y) (sym eighth-is.8) ∙ mul_one x fit

  pub in_order : (j k : ℕ) → j ≤ k → k ≤ 8 → T (le (x ⊗ eighth j) (x ⊗ eighth k))
  in_order j k h m =
      let w = up_to_one k m in
      parts_in_order (eighth j) (eighth k) (j * 2 ^ 1071) (k * 2 ^ 1071) (up_to_one j (le_trans h m)).0 w.0 w.1 (mul-le-mul_right (2 ^ 1071) h)

  pub same : (j k : ℕ) → j ≤ 8 → k ≤ 8 → T (eq (x ⊗ eighth j) (x ⊗ eighth k)) → x ⊗ eighth j ≡ x ⊗ eighth k
  same j k h m =
      let v = up_to_one j h in
      let w = up_to_one k m in
      same_part (eighth j) (eighth k) (j * 2 ^ 1071) (k * 2 ^ 1071) v.0 w.0 w.1 v.1

  pub held : (k : ℕ) → k ≤ 8
      → T (fits binary64 (x ⊗ eighth k)) × T (finite (x ⊗ eighth k)) × T (le (of_bits binary64 0) (x ⊗ eighth k)) × T (le (x ⊗ eighth k) x)
  held k h = let v = up_to_one k h in part_held (eighth k) (k * 2 ^ 1071) v.0 v.1
