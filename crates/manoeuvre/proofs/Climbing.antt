-- The trial list begins at least, climbs and stays within the limits, by units: a and m are those of least and most, and each trial is the rounded sum of a and k whole degrees, or m.
use mathlib.Core.Path.{◌≡◌, refl, sym, ap, ◌∙◌, subst}
use mathlib.Core.Bool.{Bool, true, false, cond, not, ◌&&◌}
use Prim.Native.Nat.{ℕ, suc, ◌+◌, ◌*◌, ◌-◌, ◌^◌, ◌≤◌, ◌<◌, min}
use native.Mathlib.Nat.{le_of_eq, le_trans, lt_of_le_of_lt, zero-mul, mul-le-mul_right, lt_of_mul-lt-mul_right}
use native.Mathlib.Omega.{arith}
use lib.IntN.{pos}
use lib.Dec.{T, ltb, ltb→lt, nltb→le, lit≤}
use lib.Pow.{pow_pos}
use lib.Ieee.{Float, binary64, lt, le, of_bits, of_int, to_unsigned}
use lib.Ieee.Scale.{grid, finite}
use Rattle.laws.specs.Ops.{◌⊕◌, ◌⊖◌}
use Rattle.laws.specs.Units.{Units, units_of}
use Rattle.laws.proofs.Amount.{Amount, amount_of, lt_amounts, below_amounts, amounts_at_most, at_most_amounts, eq_amounts, add-whole, rounded_amount, sub_amounts, whole_part}
use Rattle.laws.proofs.Error.{in-range, round-at_most, round-at_least, grid_close}
use Rattle.laws.proofs.Order.{le_trans_float}
use Rattle.laws.proofs.Size.{at_most-units}
use Rattle.laws.proofs.Units.{form}
use Rattle.math.specs.Cast.{to_usize, billion}
use Rattle.manoeuvre.specs.Trials.{last, trial, half_turn, Limits, IsTrialList}

half_is : Units half_turn false (180 * 2 ^ 1074)
unfolding of_bits
half_is = (refl, refl)

-- the whole part of an amount of n units has at most n units
steps_under : (d : Float) (n : ℕ) → Amount d n → to_usize d * 2 ^ 1074 ≤ n
unfolding to_usize
steps_under d n v = go (le (of_bits binary64 0) d && le d billion)
  where
    none : (u U : ℕ) → u ≡ 0 → u * U ≤ n
    none u U e = le_trans (le_of_eq (ap (λ u. u * U) e ∙ zero-mul U)) (omega arith)

    go : (b : Bool) → cond b (to_unsigned 64 d) 0 * 2 ^ 1074 ≤ n
    go true = whole_part 64 d n v
    go false = none 0 (2 ^ 1074) refl

-- ---- numbers: U is a degree, g is n rounded
module _ (U : ℕ) (many : 3 ≤ U) (n g : ℕ) (over : 2 * (9007199254740992 * (g * 1)) ≤ 2 * (9007199254740992 + 1) * n + 9007199254740992 * 1) where
  -- a degree more is more after rounding
  climb : (n' g' : ℕ) → 2 * (9007199254740992 * n') ≤ 2 * (9007199254740992 * (g' * 1)) + 2 * n' + 9007199254740992 * 1 → n + U ≤ n' → n' ≤ 360 * U → g < g'
  climb n' g' under h top = omega arith

  -- rounding adds less than a quarter of a degree
  slack : n ≤ 360 * U → 4 * g ≤ 4 * n + U
  slack h = omega arith

  -- at most 180 degrees stay below 181
  short : n ≤ 180 * U → g < 181 * U
  short h = omega arith

-- a degree less than what is left up to m, rounded, is below m
reach : (U a m j d g : ℕ) → 0 < U → a ≤ m → j + U ≤ d → 4 * d ≤ 4 * (m - a) + U → 4 * g ≤ 4 * (a + j) + U → g < m
reach U a m j d g some h l p q = omega arith

module _ (least most : Float) (L : Limits least most) where
  low : T (finite least) × (units_of least ≤ 180 * 2 ^ 1074)
  unfolding of_bits
  low = at_most-units least half_turn (180 * 2 ^ 1074) L.least_fits half_is L.not_negative (le_trans_float least most half_turn L.ordered L.at_most)

  high : T (finite most) × (units_of most ≤ 180 * 2 ^ 1074)
  unfolding of_bits
  high = at_most-units most half_turn (180 * 2 ^ 1074) L.most_fits half_is (le_trans_float (of_bits binary64 0) least most L.not_negative L.ordered) L.at_most

  abbrev a : ℕ
  a = units_of least

  abbrev m : ℕ
  m = units_of most

  -- trial k before it is cut
  abbrev g : ℕ → ℕ
  g k = grid binary64 (a + k * 2 ^ 1074) (2 ^ 1074)

  abbrev d : ℕ
  d = grid binary64 (m - a) (2 ^ 1074)

  la : Amount least a
  la = amount_of least L.least_fits low.0 L.not_negative

  ma : Amount most m
  ma = amount_of most L.most_fits high.0 (le_trans_float (of_bits binary64 0) least most L.not_negative L.ordered)

  ordered : a ≤ m
  ordered = amounts_at_most la ma L.ordered

  steps : last least most * 2 ^ 1074 ≤ d
  unfolding last
  steps = steps_under (most ⊖ least) d (sub_amounts ma la ordered (le_trans high.1 (lit≤ tt)))

  few : last least most ≤ 180
  few = within (last least most) (2 ^ 1074) (lt_of_le_of_lt steps (short (2 ^ 1074) (lit≤ tt) (m - a) d (grid_close (m - a)).over (less m a (180 * 2 ^ 1074) high.1)))
    where
      less : (m a t : ℕ) → m ≤ t → m - a ≤ t
      less m a t h = omega arith

      within : (l U : ℕ) → l * U < 181 * U → l ≤ 180
      within l U h = le_of_lt_succ (lt_of_mul-lt-mul_right U h)
        where
          le_of_lt_succ : l < 181 → l ≤ 180
          le_of_lt_succ k = omega arith

  -- the sum of least and k degrees, k at most 180
  module _ (k : ℕ) (K : k ≤ 180) where
    size : a + k * 2 ^ 1074 ≤ 360 * 2 ^ 1074
    size = both a (k * 2 ^ 1074) (2 ^ 1074) low.1 (mul-le-mul_right (2 ^ 1074) K)
      where
        both : (a x U : ℕ) → a ≤ 180 * U → x ≤ 180 * U → a + x ≤ 360 * U
        both a x U p q = omega arith

    room : a + k * 2 ^ 1074 ≤ 2 ^ 1074 * 2 ^ 1023
    room = le_trans size (lit≤ tt)

    sum_is : Amount (least ⊕ of_int binary64 (pos k)) (g k)
    sum_is = subst (λ z. Amount z (g k)) (sym (add-whole k (le_trans K (lit≤ tt)) la)) (rounded_amount (a + k * 2 ^ 1074) room)

    trial_is : Amount (trial least most k) (min m (g k))
    unfolding trial
    trial_is = go (ltb m (g k)) refl
      where
        cut : (m g : ℕ) → m < g → m ≡ min m g
        cut m g h = omega arith

        kept : (m g : ℕ) → g ≤ m → g ≡ min m g
        kept m g h = omega arith

        go : (b : Bool) → ltb m (g k) ≡ b → Amount (cond (lt most (least ⊕ of_int binary64 (pos k))) most (least ⊕ of_int binary64 (pos k))) (min m (g k))
        go true e = rw (lt_amounts ma sum_is ∙ e) (subst (λ n. Amount most n) (cut m (g k) (ltb→lt m (g k) (subst T (sym e) tt))) ma)
        go false e = rw (lt_amounts ma sum_is ∙ e) (subst (λ n. Amount (least ⊕ of_int binary64 (pos k)) n) (kept m (g k) (nltb→le m (g k) (subst (λ t. T (not t)) (sym e) tt))) sum_is)

    -- rounding does not go below least
    not_below : a ≤ g k
    not_below =
        let o = form least L.least_fits low.0 in
        subst (λ n. n ≤ g k) (sym o.is) (round-at_least (a + k * 2 ^ 1074) (2 ^ 1074) (pow_pos 1074) o.q o.j o.few o.top (in-range (a + k * 2 ^ 1074) (2 ^ 1074) (pow_pos 1074) room) (subst (λ n. n * 2 ^ 1074 ≤ (a + k * 2 ^ 1074) * 2 ^ 1074) o.is (mul-le-mul_right (2 ^ 1074) (more a (k * 2 ^ 1074)))))
      where
        more : (x y : ℕ) → x ≤ x + y
        more x y = omega arith

  -- with k = 0 it is least
  starts : g 0 ≤ a
  starts =
      let o = form least L.least_fits low.0 in
      subst (λ n. g 0 ≤ n) (sym o.is) (round-at_most (a + 0 * 2 ^ 1074) (2 ^ 1074) (pow_pos 1074) o.q o.j o.few o.top (in-range (a + 0 * 2 ^ 1074) (2 ^ 1074) (pow_pos 1074) (room 0 (lit≤ tt))) (le_of_eq (ap (λ n. n * 2 ^ 1074) (same a (2 ^ 1074) ∙ o.is))))
    where
      same : (a U : ℕ) → a + 0 * U ≡ a
      same a U = ap (λ z. a + z) (zero-mul U) ∙ go
        where
          go : a + 0 ≡ a
          go = omega arith

  pub is_trial_list : IsTrialList least most
  is_trial_list = record {
    few = few;
    first = eq_amounts (subst (λ n. Amount (trial least most 0) n) (at_start m a (g 0) ordered starts (not_below 0 (lit≤ tt))) (trial_is 0 (lit≤ tt))) la;
    not_under = λ k h. at_most_amounts la (trial_is k (le_trans h few)) (both_over m a (g k) ordered (not_below k (le_trans h few)));
    not_over = λ k h. at_most_amounts (trial_is k (le_trans h few)) ma (one_of m (g k));
    increasing = λ j k l h. below_amounts (trial_is j (before j k 180 l (le_trans h few))) (trial_is k (le_trans h few))
        (smaller m (g j) (g k)
        (climb (2 ^ 1074) (lit≤ tt) (a + j * 2 ^ 1074) (g j) (grid_close (a + j * 2 ^ 1074)).over (a + k * 2 ^ 1074) (g k) (grid_close (a + k * 2 ^ 1074)).under (degree a (j * 2 ^ 1074) (k * 2 ^ 1074) (2 ^ 1074) (apart j k l)) (size k (le_trans h few)))
        (reach (2 ^ 1074) a m (j * 2 ^ 1074) d (g j) (pow_pos 1074) ordered (le_trans (apart j k l) (le_trans (mul-le-mul_right (2 ^ 1074) h) steps))
        (slack (2 ^ 1074) (lit≤ tt) (m - a) d (grid_close (m - a)).over (less m a (2 ^ 1074) high.1))
        (slack (2 ^ 1074) (lit≤ tt) (a + j * 2 ^ 1074) (g j) (grid_close (a + j * 2 ^ 1074)).over (size j (before j k 180 l (le_trans h few))))));
  }
    where
      at_start : (m a g : ℕ) → a ≤ m → g ≤ a → a ≤ g → min m g ≡ a
      at_start m a g p q r = omega arith

      both_over : (m a g : ℕ) → a ≤ m → a ≤ g → a ≤ min m g
      both_over m a g p q = omega arith

      one_of : (m g : ℕ) → min m g ≤ m
      one_of m g = omega arith

      before : (j k t : ℕ) → j < k → k ≤ t → j ≤ t
      before j k t p q = omega arith

      less : (m a U : ℕ) → m ≤ 180 * U → m - a ≤ 360 * U
      less m a U h = omega arith

      smaller : (m g g' : ℕ) → g < g' → g < m → min m g < min m g'
      smaller m g g' p q = omega arith

      apart : (j k : ℕ) → j < k → j * 2 ^ 1074 + 2 ^ 1074 ≤ k * 2 ^ 1074
      apart j k h = le_trans (le_of_eq (next j (2 ^ 1074))) (mul-le-mul_right (2 ^ 1074) h)
        where
          next : (j U : ℕ) → j * U + U ≡ suc j * U
          next j U = omega arith

      degree : (a x y U : ℕ) → x + U ≤ y → a + x + U ≤ a + y
      degree a x y U h = omega arith
