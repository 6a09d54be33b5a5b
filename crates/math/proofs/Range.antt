-- The folds of a finite number lie where document 01 says. A remainder by 360 is at most 360 in size, since what is below a float rounds to at most that float; 360 itself is read as 0.
-- Above 180 a float is a multiple of 2 ^ -45, so that 360 less it is exact.
use mathlib.Core.Path.{◌≡◌, refl, sym, ap, ◌∙◌, subst}
use mathlib.Core.Bool.{Bool, true, false, not, cond}
use mathlib.Core.Logic.{inl, inr}
use Prim.Native.Nat.{ℕ, zero-le, ◌+◌, ◌*◌, ◌-◌, ◌^◌, ◌%◌, ◌≤◌, ◌<◌}
use native.Mathlib.Nat.{le_trans, le_of_lt, lt_of_lt_of_le, lt_of_le_of_lt, mod-lt, mul-pos, mul_assoc, mul-le-mul_left, mul-le-mul_right, mul-lt-mul_of_pos_right, lt_of_mul-lt-mul_right, eq-or-lt_of_le, sub-le, not-le_of_lt}
use native.Mathlib.Omega.{arith}
use lib.Dec.{T, lt→ltb, ltb→lt, lit<, lit≤}
use lib.Pow.{pow_pos, pow-add, pow_mono}
use lib.Ieee.{Float, nan, inf, fin, binary64, fits, up, down, add, sub, neg, rem, round, lt, le, eq, is_nan, of_bits}
use lib.Ieee.Exact.{round_exact}
use lib.Ieee.Fits.{down_pos, add-fits, rem-fits, cond-fits}
use lib.Ieee.Scale.{finite, grid}
use Rattle.laws.specs.Units.{Units, sign, units_of}
use Rattle.laws.proofs.Bools.{holds, fails, or_elim, test_of_le}
use Rattle.laws.proofs.Numbers.{le_by, sub-add, sub-mul}
use Rattle.laws.proofs.Compare.{lt-units, lt-units-signed, le-units}
use Rattle.laws.proofs.Error.{in-range, round-value, round-at_most, under_float}
use Rattle.laws.proofs.Order.{le-or-lt, lt_le_trans, le_of_lt_float}
use Rattle.laws.proofs.Units.{form, own_units, finite_of_units, neg-units, add-larger, add_equal}
use Rattle.math.specs.Fold.{zero, half_turn, minus_half_turn, full_turn, turned, whole_fold, half_fold, IsDirection, IsDifference}

-- a full turn is 45 * 2 ^ 1077 units
abbrev full : ℕ
full = 45 * 2 ^ 1077

full_is : Units full_turn false full
unfolding of_bits
full_is = (refl, refl)

half_is : Units half_turn false (45 * 2 ^ 1076)
unfolding of_bits
half_is = (refl, refl)

minus_half_is : Units minus_half_turn true (45 * 2 ^ 1076)
unfolding of_bits
minus_half_is = (refl, refl)

zero_is : Units zero false 0
unfolding of_bits
zero_is = (refl, refl)

-- a number of units, at most a full turn
record Within (x : Float) : Type 0 where
  s : Bool
  n : ℕ
  value : Units x s n
  few : n ≤ full

not-nan : (x : Float) → T (finite x) → T (not (is_nan x))
not-nan nan f = absurd f
not-nan (inf s) f = absurd f
not-nan (fin s m e) f = unfold is_nan in tt

-- what rounds a fraction of at most a full turn
within : (s : Bool) (a c : ℕ) → 0 < c → a * 2 ^ 1074 ≤ full * c → Units (round binary64 s a c) s (grid binary64 a c) × (grid binary64 a c ≤ full)
within s a c C h =
    let r = in-range a c C (under_float a c full (lit≤ tt) h) in
    (round-value s a c r, round-at_most a c C 45 1077 (lit< tt) (lit< tt) r h)

remainder : (x : Float) → T (finite x) → Within (rem binary64 x full_turn)
unfolding rem of_bits
remainder nan f = absurd f
remainder (inf s) f = absurd f
remainder (fin s m e) f =
    let a = m * up e * 1 % (360 * down e) in
    let w = within s a (down e * 1) (mul-pos (down_pos e) (pow_pos 0)) (scaled a (down e) (2 ^ 1074) (mod-lt (m * up e * 1) (mul-pos (lit< tt) (down_pos e)))) in
    record { s = s; n = grid binary64 a (down e * 1); value = w.0; few = w.1 }
  where
    scaled : (a d L : ℕ) → a < 360 * d → a * L ≤ 45 * (8 * L) * (d * 1)
    scaled a d L h = omega (arith, mul-le-mul_right L (le_of_lt h))

-- at most a full turn, by the test
at_most-full : (x : Float) → Within x → T (le x full_turn)
at_most-full x w = go w.s w.value
  where
    go : (s : Bool) → Units x s w.n → T (le x full_turn)
    go false v = subst T (sym (le-units x full_turn w.n full v full_is)) (test_of_le w.n full w.few)
    go true v = le_of_lt_float x full_turn (subst T (sym (lt-units-signed x full_turn true false w.n full v full_is)) (lt→ltb 0 (w.n + full) (lt_of_lt_of_le (lit< tt) (more w.n full))))
      where
        more : (n f : ℕ) → f ≤ n + f
        more n f = omega arith

at_least-zero : (x : Float) (n : ℕ) → Units x false n → T (le zero x)
at_least-zero x n v = subst T (sym (le-units zero x 0 n zero_is v)) (test_of_le 0 n zero-le)

-- ---- the whole fold
-- 360 more than a negative remainder
more : (r : Float) (w : Within r) → T (lt r zero) → T (le zero (add binary64 r full_turn)) × T (le (add binary64 r full_turn) full_turn)
more r w l = (at_least-zero (add binary64 r full_turn) sum.0 sum.1, at_most-full (add binary64 r full_turn) (record { s = false; n = sum.0; value = sum.1; few = sum.2 }))
  where
    negative : (s : Bool) → Units r s w.n → s ≡ true
    negative true v = refl
    negative false v = absurd (never w.n (ltb→lt w.n 0 (subst T (lt-units r zero w.n 0 v zero_is) l)))
      where
        never : (n : ℕ) → n < 0 → ⊥
        never n h = omega arith

    value : Units r true w.n
    value = subst (λ s. Units r s w.n) (negative w.s w.value) w.value

    at : (n : ℕ) → n ≤ full → add binary64 r full_turn ≡ round binary64 false n (2 ^ 1074) → (n : ℕ) × Units (add binary64 r full_turn) false n × (n ≤ full)
    at n h e = let k = within false n (2 ^ 1074) (pow_pos 1074) (mul-le-mul_right (2 ^ 1074) h) in (grid binary64 n (2 ^ 1074), subst (λ y. Units y false (grid binary64 n (2 ^ 1074))) (sym e) k.0, k.1)

    sum : (n : ℕ) × Units (add binary64 r full_turn) false n × (n ≤ full)
    sum = elim (eq-or-lt_of_le w.few) [
      | inl e ↦ at 0 zero-le (add_equal r full_turn true w.n full value full_is e)
      | inr h ↦ at (full - w.n) (sub-le full w.n) (add-larger r full_turn true w.n full value full_is h)
    ]

between : (r : Float) → Within r → T (le zero (turned r)) × T (le (turned r) full_turn)
unfolding turned
between r w = go (lt r zero) refl
  where
    go : (b : Bool) → lt r zero ≡ b → T (le zero (cond b (add binary64 r full_turn) r)) × T (le (cond b (add binary64 r full_turn) r) full_turn)
    go true e = more r w (holds e)
    go false e = (elim (le-or-lt zero r (unfold is_nan of_bits in tt) (not-nan r (finite_of_units r w.s w.n w.value).0)) [ inl h ↦ h | inr h ↦ absurd (fails e h) ], at_most-full r w)

pub whole_fold_range : (x : Float) → T (finite x) → IsDirection (whole_fold x)
unfolding whole_fold
whole_fold_range x f = go (turned (rem binary64 x full_turn)) (between (rem binary64 x full_turn) (remainder x f))
  where
    go : (r : Float) → T (le zero r) × T (le r full_turn) → IsDirection (cond (eq r full_turn) zero r)
    go r h = at (eq r full_turn) refl
      where
        at : (b : Bool) → eq r full_turn ≡ b → IsDirection (cond b zero r)
        at true e = record { at_least = unfold le lt eq of_bits in tt; below = unfold lt of_bits in tt }
        at false e = record { at_least = h.0; below = or_elim (lt r full_turn) (eq r full_turn) (λ t. t) (λ t. absurd (fails e t)) (unfold le in h.1) }

pub turned-fits : (x : Float) → T (fits binary64 x) → T (fits binary64 (turned x))
unfolding turned
turned-fits x t = cond-fits binary64 (lt x zero) (add binary64 x full_turn) x (add-fits binary64 x full_turn) t

pub whole_fold-fits : (x : Float) → T (fits binary64 x) → T (fits binary64 (whole_fold x))
unfolding whole_fold
whole_fold-fits x t = cond-fits binary64 (eq (turned (rem binary64 x full_turn)) full_turn) zero (turned (rem binary64 x full_turn)) (unfold fits of_bits in tt) (turned-fits (rem binary64 x full_turn) (rem-fits binary64 x full_turn t))

-- ---- the half fold, from a direction r of g units
module _ (r : Float) (t : T (fits binary64 r)) (d : IsDirection r) where
  number : T (finite r)
  number = go r d.at_least d.below
    where
      go : (r : Float) → T (le zero r) → T (lt r full_turn) → T (finite r)
      go nan l h = absurd (unfold lt in h)
      go (inf true) l h = absurd (unfold le lt eq of_bits in l)
      go (inf false) l h = absurd (unfold lt of_bits in h)
      go (fin s m e) l h = tt

  -- above 180 its sign is clear, and it is a multiple of 2 ^ 1029 units
  module _ (p : T (lt half_turn r)) where
    clear : sign r ≡ false
    clear = go (sign r) refl
      where
        go : (s : Bool) → sign r ≡ s → s ≡ false
        go false e = refl
        go true e = absurd (subst T (lt-units-signed half_turn r false true (45 * 2 ^ 1076) (units_of r) half_is (subst (λ s. Units r s (units_of r)) e (own_units r t number))) p)

    value : Units r false (units_of r)
    value = subst (λ s. Units r s (units_of r)) clear (own_units r t number)

    over : 45 * 2 ^ 1076 < units_of r
    over = ltb→lt (45 * 2 ^ 1076) (units_of r) (subst T (lt-units half_turn r (45 * 2 ^ 1076) (units_of r) half_is value) p)

    under : units_of r < full
    under = ltb→lt (units_of r) full (subst T (lt-units r full_turn (units_of r) full value full_is) d.below)

    multiple : (k : ℕ) × (units_of r ≡ k * 2 ^ 1029)
    multiple = let o = form r t number in
        go o.q o.j o.few o.is
      where
        go : (q j : ℕ) → q < 2 ^ 53 → units_of r ≡ q * 2 ^ j → (k : ℕ) × (units_of r ≡ k * 2 ^ 1029)
        go q j f e = (q * 2 ^ (j - 1029), e ∙ ap (λ i. q * 2 ^ i) (sub-add j 1029 large) ∙ ap (λ z. q * z) (pow-add 2 (j - 1029) 1029) ∙ sym (mul_assoc q (2 ^ (j - 1029)) (2 ^ 1029)))
          where
            large : 1029 ≤ j
            large = le_by (λ h. not-le_of_lt (lt_of_lt_of_le (subst (λ n. 45 * 2 ^ 1076 < n) e over) (le_trans (le_of_lt (mul-lt-mul_of_pos_right f (pow_pos j))) (mul-le-mul_left (2 ^ 53) (pow_mono {i = j} {j = 1028} (less j h))))) (lit≤ tt))
              where
                less : (j : ℕ) → j < 1029 → j ≤ 1028
                less j h = omega arith

    exact : (k : ℕ) → units_of r ≡ k * 2 ^ 1029 → Units (round binary64 true (full - units_of r) (2 ^ 1074)) true (full - units_of r)
    exact k e = round_exact binary64 true (full - units_of r) (2 ^ 1074) (45 * 2 ^ 48 - k) 1029 (pow_pos 1074) small (lt_of_le_of_lt (mul-le-mul_right (2 ^ 1029) (le_of_lt small)) (lit< tt)) (ap (λ n. n * 2 ^ 1074) whole)
      where
        whole : full - units_of r ≡ (45 * 2 ^ 48 - k) * 2 ^ 1029
        whole = ap (λ n. full - n) e ∙ sym (sub-mul (45 * 2 ^ 48) k (2 ^ 1029))

        small : 45 * 2 ^ 48 - k < 2 ^ 53
        small = go k (lt_of_mul-lt-mul_right (2 ^ 1029) (subst (λ n. 45 * 2 ^ 47 * 2 ^ 1029 < n) e over))
          where
            go : (k : ℕ) → 45 * 2 ^ 47 < k → 45 * 2 ^ 48 - k < 2 ^ 53
            go k h = omega arith

    rest : Units (sub binary64 r full_turn) true (full - units_of r)
    rest = unfold sub in subst (λ y. Units y true (full - units_of r)) (sym (add-larger r (neg full_turn) false (units_of r) full value (neg-units full_turn false full full_is) under)) (exact multiple.0 multiple.1)

    folded : IsDifference (sub binary64 r full_turn)
    folded = record {
      above = subst T (sym (lt-units-signed minus_half_turn (sub binary64 r full_turn) true true (45 * 2 ^ 1076) (full - units_of r) minus_half_is rest)) (lt→ltb (full - units_of r) (45 * 2 ^ 1076) (less (units_of r) (45 * 2 ^ 1076) full (lit< tt) (lit≤ tt) over));
      at_most = le_of_lt_float (sub binary64 r full_turn) half_turn (subst T (sym (lt-units-signed (sub binary64 r full_turn) half_turn true false (full - units_of r) (45 * 2 ^ 1076) rest half_is)) (lt→ltb 0 (full - units_of r + 45 * 2 ^ 1076) (lt_of_lt_of_le (lit< tt) (more_than (full - units_of r) (45 * 2 ^ 1076)))));
    }
      where
        less : (n h f : ℕ) → 0 < h → f ≤ h + h → h < n → f - n < h
        less n h f z p q = omega arith

        more_than : (n f : ℕ) → f ≤ n + f
        more_than n f = omega arith

  half_fold_of : IsDifference (cond (lt half_turn r) (sub binary64 r full_turn) r)
  half_fold_of = go (lt half_turn r) refl
    where
      go : (b : Bool) → lt half_turn r ≡ b → IsDifference (cond b (sub binary64 r full_turn) r)
      go true e = folded (holds e)
      go false e = record {
        above = lt_le_trans minus_half_turn zero r (unfold lt of_bits in tt) d.at_least;
        at_most = elim (le-or-lt r half_turn (not-nan r number) (unfold is_nan of_bits in tt)) [ inl h ↦ h | inr h ↦ absurd (fails e h) ];
      }

pub half_fold_range : (x : Float) → T (fits binary64 x) → T (finite x) → IsDifference (half_fold x)
unfolding half_fold
half_fold_range x t f = half_fold_of (whole_fold x) (whole_fold-fits x t) (whole_fold_range x f)
