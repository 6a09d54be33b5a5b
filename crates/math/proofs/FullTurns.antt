-- The remainder by 360 without a division: 360 * 2 ^ k is taken away, for each k from the highest, where it is not more than what is left. Each difference is exact, since it is smaller than what is taken away and a multiple of
-- the last place of either; and 360 * 2 ^ k is a number of full turns, so that what is left in the end, below 360, is the remainder.
use mathlib.Core.Path.{◌≡◌, refl, sym, ap, ◌∙◌, subst}
use mathlib.Core.Bool.{Bool, true, false, not, ◌||◌, cond, true≢false}
use mathlib.Core.Logic.{⊎_elim}
use Prim.Native.Nat.{ℕ, suc, ◌+◌, ◌*◌, ◌-◌, ◌^◌, ◌/◌, ◌%◌, ◌≤◌, ◌<◌}
use native.Mathlib.Nat.{le_of_lt, le_of_eq, le-add_left, eq-or-lt_of_le, lt_of_le_of_lt, lt_of_lt_of_le, mul-pos, mul_assoc, mul-lt-mul_of_pos_right, mul-le-mul_left, lt_of_mul-lt-mul_right, pow-succ', add-suc, mod-lt, mod-eq_of_lt, add-mul-mod_self_left, div-add-mod', sub-le}
use native.Mathlib.Omega.{arith}
use lib.Dec.{T, ltb, eqb, ltb→lt, lt→ltb, nltb→le, eqb→eq, lit<, lit≤}
use borrow.Author.Tests.{eqb-false}
use lib.Ieee.Bits.{is_true}
use lib.Pow.{pow_pos, pow-add, pow_mono}
use lib.Ieee.{Float, nan, inf, fin, binary64, fits, up, down, sub, mul, neg, rem, round, lt, le, of_bits}
use lib.Ieee.Exact.{round_exact}
use lib.Ieee.Fits.{down_pos, sub-fits}
use Rattle.laws.specs.Units.{Units, sign, units_of}
use Rattle.laws.proofs.Numbers.{sub-mul}
use lib.Ieee.Scale.{finite}
use Rattle.laws.proofs.Compare.{lt-units, lt-units-signed, le-units}
use Rattle.laws.proofs.Bools.{holds, refuted}
use Rattle.laws.proofs.Order.{lt_trans, lt-neg}
use Rattle.laws.proofs.Exact.{round_own}
use Rattle.laws.proofs.Units.{form, own_units, units_are, finite_of_units, rescale, sub-units, mul-units}
use Rattle.math.proofs.Sign.{neg-round}
use Rattle.math.specs.Remainder.{zero, full_turn, full, Left, Rest}

-- ---- remainders of multiples
mod_times : (a b k : ℕ) → 0 < b → 0 < k → a * k % (b * k) ≡ a % b * k
mod_times a b k B K = ap (λ n. n % (b * k)) (split (a / b) (a % b) (sym (div-add-mod' a b))) ∙ add-mul-mod_self_left (a % b * k) (b * k) (a / b) ∙ mod-eq_of_lt (mul-lt-mul_of_pos_right (mod-lt a B) K)
  where
    split : (q r : ℕ) → a ≡ q * b + r → a * k ≡ r * k + b * k * q
    split q r e = omega (arith, ap (λ n. n * k) e)

-- a float that has the remainder's units and x's sign is the remainder
pub remainder_is : (x r : Float) (s : Bool) (n : ℕ) → Units x s n → T (fits binary64 r) → Units r s (n % full) → rem binary64 x full_turn ≡ r
unfolding rem of_bits
remainder_is nan r s n v t w = absurd v
remainder_is (inf z) r s n v t w = absurd v
remainder_is (fin z m e) r s n v t w =
    ap (λ z. round binary64 z (m * up e * 1 % (360 * down e)) (down e * 1)) v.0
    ∙ round_own r s (m * up e * 1 % (360 * down e)) (down e * 1) t (mul-pos (down_pos e) (lit< tt)) (rescale r s (n % full) (2 ^ 1074) (m * up e * 1 % (360 * down e)) (down e * 1) (pow_pos 1074) (same (m * up e) (down e) (2 ^ 1074) (down_pos e) (pow_pos 1074) v.1) w)
  where
    same : (u d L : ℕ) → 0 < d → 0 < L → u * L ≡ n * d → u * 1 % (360 * d) * L ≡ n % (360 * L) * (d * 1)
    same u d L D P h =
        sym (mod_times (u * 1) (360 * d) L (mul-pos (lit< tt) D) P) ∙ ap (λ k. k % (360 * d * L)) (one u h) ∙ ap (λ k. n * d % k) (swap d L) ∙ mod_times n (360 * L) d (mul-pos (lit< tt) P) D ∙ ap (λ k. n % (360 * L) * k) (times_one d)
      where
        one : (u : ℕ) → u * L ≡ n * d → u * 1 * L ≡ n * d
        one u h = omega (arith, h)

        swap : (d L : ℕ) → 360 * d * L ≡ 360 * L * d
        swap d L = omega arith

        times_one : (d : ℕ) → d ≡ d * 1
        times_one d = omega arith

-- ---- one difference
-- 45 * 2 ^ t units, which are not more than u and more than half of it, taken from u: a number of few digits
few-digits : (q j t : ℕ) → q < 2 ^ 53 → 45 * 2 ^ t ≤ q * 2 ^ j → q * 2 ^ j < 90 * 2 ^ t → (p : ℕ) × (i : ℕ) × (p < 2 ^ 53) × (q * 2 ^ j - 45 * 2 ^ t ≡ p * 2 ^ i)
few-digits q j t few over under = go (ltb j t) refl
  where
    -- a multiple of 2 ^ j
    fine : (c : ℕ) → t ≡ c + j → (p : ℕ) × (i : ℕ) × (p < 2 ^ 53) × (q * 2 ^ j - 45 * 2 ^ t ≡ p * 2 ^ i)
    fine c e = (q - 45 * 2 ^ c, j, lt_of_le_of_lt (sub-le q (45 * 2 ^ c)) few, ap (λ k. q * 2 ^ j - 45 * k) (ap (λ k. 2 ^ k) e ∙ pow-add 2 c j) ∙ join q (2 ^ c) (2 ^ j))
      where
        join : (q C J : ℕ) → q * J - 45 * (C * J) ≡ (q - 45 * C) * J
        join q C J = ap (λ k. q * J - k) (sym (mul_assoc 45 C J)) ∙ sym (sub-mul q (45 * C) J)

    -- a multiple of 2 ^ t, fewer than 45 of them
    coarse : (c : ℕ) → j ≡ c + t → (p : ℕ) × (i : ℕ) × (p < 2 ^ 53) × (q * 2 ^ j - 45 * 2 ^ t ≡ p * 2 ^ i)
    coarse c e = (q * 2 ^ c - 45, t, small (q * 2 ^ c) (lt_of_mul-lt-mul_right (2 ^ t) (subst (λ k. k < 90 * 2 ^ t) (grown c e) under)), ap (λ k. k - 45 * 2 ^ t) (grown c e) ∙ sym (sub-mul (q * 2 ^ c) 45 (2 ^ t)))
      where
        grown : (c : ℕ) → j ≡ c + t → q * 2 ^ j ≡ q * 2 ^ c * 2 ^ t
        grown c e = ap (λ k. q * 2 ^ k) e ∙ ap (λ k. q * k) (pow-add 2 c t) ∙ sym (mul_assoc q (2 ^ c) (2 ^ t))

        small : (k : ℕ) → k < 90 → k - 45 < 2 ^ 53
        small k h = lt_of_lt_of_le (less k h) (lit≤ tt)
          where
            less : (k : ℕ) → k < 90 → k - 45 < 90
            less k h = omega arith

    go : (b : Bool) → ltb j t ≡ b → (p : ℕ) × (i : ℕ) × (p < 2 ^ 53) × (q * 2 ^ j - 45 * 2 ^ t ≡ p * 2 ^ i)
    go true e = fine (t - j) (back t j (le_of_lt (ltb→lt j t (subst T (sym e) tt))))
      where
        back : (t j : ℕ) → j ≤ t → t ≡ t - j + j
        back t j h = omega arith
    go false e = coarse (j - t) (back j t (nltb→le j t (subst (λ b. T (not b)) (sym e) tt)))
      where
        back : (j t : ℕ) → t ≤ j → j ≡ j - t + t
        back j t h = omega arith

pub taken : (r y : Float) (u t : ℕ) → T (fits binary64 r) → Units r false u → Units y false (45 * 2 ^ t) → 45 * 2 ^ t ≤ u → u < 90 * 2 ^ t → Units (sub binary64 r y) false (u - 45 * 2 ^ t)
taken r y u t held v w over under =
    let f = finite_of_units r false u v in
    let o = form r held f.0 in
    let e : u ≡ o.q * 2 ^ o.j = sym (units_are r false u v) ∙ o.is in
    let d = few-digits o.q o.j t o.few (subst (λ k. 45 * 2 ^ t ≤ k) e over) (subst (λ k. k < 90 * 2 ^ t) e under) in
    let same : u - 45 * 2 ^ t ≡ d.0 * 2 ^ d.1 = ap (λ k. k - 45 * 2 ^ t) e ∙ d.3 in
    subst (λ z. Units z false (u - 45 * 2 ^ t)) (sym (sub-units r y u (45 * 2 ^ t) v w over))
    (round_exact binary64 false (u - 45 * 2 ^ t) (2 ^ 1074) d.0 d.1 (pow_pos 1074) d.2 (subst (λ k. k < 2 ^ 2098) same (lt_of_le_of_lt (sub-le u (45 * 2 ^ t)) (subst (λ k. k < 2 ^ 2098) (sym e) o.top))) (ap (λ k. k * 2 ^ 1074) same))

-- ---- half of what is taken away
pub halved : (y : Float) (t : ℕ) → t ≤ 2092 → Units y false (45 * 2 ^ suc t) → Units (mul binary64 y (of_bits binary64 0x3fe0_0000_0000_0000)) false (45 * 2 ^ t)
halved y t small w =
    subst (λ z. Units z false (45 * 2 ^ t)) (sym (mul-units y (of_bits binary64 0x3fe0_0000_0000_0000) false false (45 * 2 ^ suc t) (2 ^ 1073) w (unfold of_bits in (refl, refl))))
    (rescale (round binary64 false (45 * 2 ^ suc t * 2 ^ 1073) (2 ^ 1074 * 2 ^ 1074)) false (45 * 2 ^ suc t * 2 ^ 1073) (2 ^ 1074 * 2 ^ 1074) (45 * 2 ^ t) (2 ^ 1074) (mul-pos (pow_pos 1074) (pow_pos 1074)) (regroup (2 ^ t) (2 ^ suc t) (2 ^ 1073) (2 ^ 1074) (pow-suc t) (pow-suc 1073))
    (round_exact binary64 false (45 * 2 ^ suc t * 2 ^ 1073) (2 ^ 1074 * 2 ^ 1074) 45 t (mul-pos (pow_pos 1074) (pow_pos 1074)) (lit< tt) (lt_of_le_of_lt (mul-le-mul_left 45 (pow_mono small)) (lit< tt)) (sym (regroup (2 ^ t) (2 ^ suc t) (2 ^ 1073) (2 ^ 1074) (pow-suc t) (pow-suc 1073)))))
  where
    pow-suc : (k : ℕ) → 2 ^ suc k ≡ 2 * 2 ^ k
    pow-suc k = pow-succ' 2 k

    regroup : (a b c d : ℕ) → b ≡ 2 * a → d ≡ 2 * c → 45 * a * (d * d) ≡ 45 * b * c * d
    regroup a b c d eb ed = rw (eb, ed) (plain a c)
      where
        plain : (a c : ℕ) → 45 * a * (2 * c * (2 * c)) ≡ 45 * (2 * a) * c * (2 * c)
        plain a c = omega arith

-- ---- one turn of the loop
double : (k : ℕ) → 90 * 2 ^ k ≡ 45 * 2 ^ suc k
double k = plain (2 ^ k) ∙ ap (λ z. 45 * z) (sym (pow-succ' 2 k))
  where
    plain : (p : ℕ) → 90 * p ≡ 45 * (2 * p)
    plain p = omega arith

-- 45 * 2 ^ (1077 + k) units are 2 ^ k full turns
turns : (k : ℕ) → 45 * 2 ^ (1077 + k) ≡ full * 2 ^ k
turns k = ap (λ z. 45 * z) (pow-add 2 1077 k) ∙ plain (2 ^ k)
  where
    plain : (p : ℕ) → 45 * (2 ^ 1077 * p) ≡ full * p
    plain p = sym (mul_assoc 45 (2 ^ 1077) p)

module _ {n : ℕ} {rest turn : Float} (k : ℕ) (v : Left n rest turn (suc k)) (small : k ≤ 1015) where
  abbrev here : ℕ
  here = 45 * 2 ^ (1076 + suc k)

  lower : Units (mul binary64 turn (of_bits binary64 0x3fe0_0000_0000_0000)) false (45 * 2 ^ (1076 + k))
  lower = halved turn (1076 + k) (bound k small) (subst (λ z. Units turn false (45 * 2 ^ z)) (add-suc 1076 k) v.next)
    where
      bound : (k : ℕ) → k ≤ 1015 → 1076 + k ≤ 2092
      bound k h = omega arith

  half : 90 * 2 ^ (1076 + k) ≡ here
  half = double (1076 + k) ∙ ap (λ z. 45 * 2 ^ z) (sym (add-suc 1076 k))

  below_half : (w : ℕ) → w < here → w < 90 * 2 ^ (1076 + k)
  below_half w h = subst (λ z. w < z) (sym half) h

  twice : (w : ℕ) → w < 90 * 2 ^ (1076 + suc k) → w < 2 * here
  twice w h = omega (arith, h)

  pub keep : v.u < here → Left n rest (mul binary64 turn (of_bits binary64 0x3fe0_0000_0000_0000)) k
  keep h = record { u = v.u; held = v.held; value = v.value; same = v.same; next = lower; under = below_half v.u h }

  pub take : here ≤ v.u → Left n (sub binary64 rest turn) (mul binary64 turn (of_bits binary64 0x3fe0_0000_0000_0000)) k
  take h = record {
    u = v.u - here;
    held = sub-fits binary64 rest turn;
    value = taken rest turn v.u (1076 + suc k) v.held v.value v.next h v.under;
    same = less v.u here (2 ^ k) (ap (λ z. 45 * 2 ^ z) (over k) ∙ turns k) h ∙ v.same;
    next = lower;
    under = below_half (v.u - here) (rest_below v.u here h (twice v.u v.under));
  }
    where
      over : (k : ℕ) → 1076 + suc k ≡ 1077 + k
      over k = omega arith

      less : (u y c : ℕ) → y ≡ full * c → y ≤ u → (u - y) % full ≡ u % full
      less u y c e h = sym (add-mul-mod_self_left (u - y) full c) ∙ ap (λ z. z % full) (ap (λ z. u - y + z) (sym e) ∙ back u y h)
        where
          back : (u y : ℕ) → y ≤ u → u - y + y ≡ u
          back u y h = omega arith

      rest_below : (u y : ℕ) → y ≤ u → u < 2 * y → u - y < y
      rest_below u y h k = omega arith

-- at the end less than a full turn is left
pub finished : (n : ℕ) (rest turn : Float) → Left n rest turn 0 → Rest n rest
finished n rest turn v = record { held = v.held; value = subst (λ z. Units rest false z) (sym (mod-eq_of_lt (subst (λ z. v.u < z) whole v.under)) ∙ v.same) v.value }
  where
    whole : 90 * 2 ^ 1076 ≡ full
    whole = refl

pub ended : (n : ℕ) (rest turn : Float) (k : ℕ) → k ≤ 0 → Left n rest turn k → Rest n rest
ended n rest turn k h v = finished n rest turn (subst (λ k. Left n rest turn k) (none k h) v)
  where
    none : (k : ℕ) → k ≤ 0 → k ≡ 0
    none k h = omega arith

-- one more: what is not more than the rest is taken from it
pub one_more : (n : ℕ) (rest turn next : Float) (left k : ℕ) → left ≡ suc k → k ≤ 1015 → Left n rest turn left → next ≡ cond (le turn rest) (sub binary64 rest turn) rest → Left n next (mul binary64 turn (of_bits binary64 0x3fe0_0000_0000_0000)) k
one_more n rest turn next left k e small v0 is = subst (λ r. Left n r (mul binary64 turn (of_bits binary64 0x3fe0_0000_0000_0000)) k) (sym is) (go (ltb y v.u) (eqb y v.u) refl refl)
  where
    v : Left n rest turn (suc k)
    v = subst (λ l. Left n rest turn l) e v0

    y : ℕ
    y = 45 * 2 ^ (1076 + suc k)

    test : le turn rest ≡ ltb y v.u || eqb y v.u
    test = le-units turn rest y v.u v.next v.value

    go : (a b : Bool) → ltb y v.u ≡ a → eqb y v.u ≡ b → Left n (cond (le turn rest) (sub binary64 rest turn) rest) (mul binary64 turn (of_bits binary64 0x3fe0_0000_0000_0000)) k
    go true b ea eb = subst (λ t. Left n (cond t (sub binary64 rest turn) rest) (mul binary64 turn (of_bits binary64 0x3fe0_0000_0000_0000)) k) (sym (test ∙ ap (λ a. a || eqb y v.u) ea)) (take k v small (le_of_lt (ltb→lt y v.u (subst T (sym ea) tt))))
    go false true ea eb = subst (λ t. Left n (cond t (sub binary64 rest turn) rest) (mul binary64 turn (of_bits binary64 0x3fe0_0000_0000_0000)) k) (sym (test ∙ ap (λ a. a || eqb y v.u) ea ∙ eb)) (take k v small (le_of_eq (eqb→eq y v.u (subst T (sym eb) tt))))
    go false false ea eb = subst (λ t. Left n (cond t (sub binary64 rest turn) rest) (mul binary64 turn (of_bits binary64 0x3fe0_0000_0000_0000)) k) (sym (test ∙ ap (λ a. a || eqb y v.u) ea ∙ eb)) (keep k v small (less y v.u (nltb→le y v.u (subst (λ b. T (not b)) (sym ea) tt)) (eqb-false y v.u eb)))
      where
        less : (y u : ℕ) → u ≤ y → (y ≡ u → ⊥) → u < y
        less y u h d = ⊎_elim (λ e. absurd (d (sym e))) (λ l. l) (eq-or-lt_of_le h)

-- ---- the first turn
module _ (a : Float) (t : T (fits binary64 a)) (f : T (finite a)) (s : sign a ≡ false) where
  own : Units a false (units_of a)
  own = subst (λ z. Units a z (units_of a)) s (own_units a t f)

  -- below 720 one full turn is enough
  pub from_one : T (lt a (of_bits binary64 0x4086_8000_0000_0000)) → Left (units_of a) a full_turn 1
  from_one h = record {
    u = units_of a;
    held = t;
    value = own;
    same = refl;
    next = unfold of_bits in (refl, refl);
    under = ltb→lt (units_of a) (90 * 2 ^ 1077) (subst T (lt-units a (of_bits binary64 0x4086_8000_0000_0000) (units_of a) (90 * 2 ^ 1077) own (unfold of_bits in (refl, refl))) h);
  }

  pub from_highest : Left (units_of a) a (of_bits binary64 0x7fe6_8000_0000_0000) 1016
  from_highest =
      let o = form a t f in
      record {
        u = units_of a;
        held = t;
        value = own;
        same = refl;
        next = unfold of_bits in (refl, refl);
        under = lt_of_lt_of_le (subst (λ z. z < 2 ^ 2098) (sym o.is) o.top) (lit≤ tt);
      }

  pub is_remainder : (r : Float) → Rest (units_of a) r → r ≡ rem binary64 a full_turn
  is_remainder r v = sym (remainder_is a r false (units_of a) own v.held v.value)

-- ---- what the tests tell of a number that is not below 0
pub 720_is : Units (of_bits binary64 0x4086_8000_0000_0000) false (90 * 2 ^ 1077)
720_is = unfold of_bits in (refl, refl)

pub full_is : Units full_turn false full
full_is = unfold of_bits in (refl, refl)

zero_is : Units zero false 0
zero_is = unfold of_bits in (refl, refl)

under : (a b : Float) (n : ℕ) → Units b false n → lt a zero ≡ false → lt a b ≡ true → T (finite a)
unfolding lt of_bits
under nan b n w l h = absurd (true≢false (sym h))
under (inf true) b n w l h = absurd (true≢false l)
under (inf false) nan n w l h = absurd w
under (inf false) (inf s) n w l h = absurd w
under (inf false) (fin s m e) n w l h = absurd (true≢false (sym h))
under (fin s m e) b n w l h = tt

no_rest : (a : Float) → finite a ≡ false → nan ≡ rem binary64 a full_turn
unfolding rem of_bits
no_rest nan f = refl
no_rest (inf s) f = refl
no_rest (fin s m e) f = absurd (true≢false f)

module _ (a : Float) (low : lt a zero ≡ false) where
  pub finite_under : (b : Float) (n : ℕ) → Units b false n → lt a b ≡ true → T (finite a)
  finite_under b n w h = under a b n w low h

  module _ (t : T (fits binary64 a)) (f : T (finite a)) where
    -- the only one with its sign set is -0
    none_below : sign a ≡ true → units_of a ≡ 0
    none_below s = zero_of (units_of a) (sym (lt-units-signed a zero true false (units_of a) 0 (subst (λ z. Units a z (units_of a)) s (own_units a t f)) zero_is) ∙ low)
      where
        zero_of : (n : ℕ) → ltb 0 (n + 0) ≡ false → n ≡ 0
        zero_of n e = omega (arith, nltb→le 0 (n + 0) (subst (λ b. T (not b)) (sym e) tt))

    few : lt a full_turn ≡ true → units_of a < full
    few h = go (sign a) refl
      where
        go : (s : Bool) → sign a ≡ s → units_of a < full
        go true s = subst (λ n. n < full) (sym (none_below s)) (lit< tt)
        go false s = ltb→lt (units_of a) full (subst T (sym (sym (lt-units a full_turn (units_of a) full (subst (λ z. Units a z (units_of a)) s (own_units a t f)) full_is) ∙ h)) tt)

    -- below a full turn there is nothing to take
    pub itself : lt a full_turn ≡ true → a ≡ rem binary64 a full_turn
    itself h = sym (remainder_is a a (sign a) (units_of a) (own_units a t f) t (subst (λ z. Units a (sign a) z) (sym (mod-eq_of_lt (few h))) (own_units a t f)))

    -- and from a full turn on the sign is clear
    pub not_negative : lt a full_turn ≡ false → sign a ≡ false
    not_negative h = go (sign a) refl
      where
        go : (s : Bool) → sign a ≡ s → s ≡ false
        go false s = refl
        go true s = absurd (true≢false (sym (is_true (ltb 0 (units_of a + full)) (lt→ltb 0 (units_of a + full) (more (units_of a)))) ∙ sym (lt-units-signed a full_turn true false (units_of a) full (subst (λ z. Units a z (units_of a)) s (own_units a t f)) full_is) ∙ h))
          where
            more : (n : ℕ) → 0 < n + full
            more n = lt_of_lt_of_le (lit< tt) (le-add_left full n)

  -- what is not finite has no remainder
  pub no_remainder : finite a ≡ false → nan ≡ rem binary64 a full_turn
  no_remainder f = no_rest a f

-- ---- negative numbers
pub turned_round : (x : Float) → lt x zero ≡ true → lt (neg x) zero ≡ false
turned_round x h = refuted (lt (neg x) zero) (λ t. level (lt_trans (neg zero) x zero (subst T (ap (lt (neg x)) (sym twice) ∙ lt-neg x (neg zero)) t) (holds h)))
  where
    twice : neg (neg zero) ≡ zero
    twice = unfold neg of_bits in refl

    level : T (lt (neg zero) zero) → ⊥
    level t = unfold neg lt of_bits in t

pub opposite : (x : Float) → neg (rem binary64 (neg x) full_turn) ≡ rem binary64 x full_turn
unfolding rem neg of_bits
opposite nan = refl
opposite (inf s) = refl
opposite (fin s m e) = neg-round (not s) (m * up e * 1 % (360 * down e)) (down e * 1) ∙ ap (λ z. round binary64 z (m * up e * 1 % (360 * down e)) (down e * 1)) (twice_not s)
  where
    twice_not : (s : Bool) → not (not s) ≡ s
    twice_not true = refl
    twice_not false = refl
