-- The times of a window that calls returned are spread: the newest is at 0 hours, all others before it, so their mean is off it by
-- 2 ^ -15 hours at least, and the sum of squares is at least 2 ^ -30. With the bounds on offsets and times nothing on the way to the
-- answer is infinite.
use Rattle.std.specs.Prelude.{None, Some, Ok, Err}
use mathlib.Core.Path.{◌≡◌, refl, sym, ap, ◌∙◌, subst}
use mathlib.Core.Bool.{true, false, not, ◌||◌, cond}
use mathlib.Core.List.{List, [], ◌∷◌, ◌++◌}
use Prim.Native.Nat.{ℕ, suc, ◌+◌, ◌*◌, ◌-◌, ◌^◌, ◌≤◌, ◌<◌}
use native.Mathlib.Nat.{le_trans, le_of_eq, lt_of_lt_of_le, lt_irrefl, mul-one, mul-pos, sub-zero, mul-le-mul_right, sub-le, sub_self}
use native.Mathlib.Omega.{arith}
use lib.IntN.{pos}
use lib.Dec.{ltb, lt→ltb, ltb→lt, lit<, lit≤}
use lib.ListN.{length, length-append, get_or}
use lib.Pow.{pow_pos}
use lib.Ieee.{Float, binary64, fits, sub, div, round, neg, lt, le, of_int, of_bits}
use lib.Ieee.Fits.{of_int-fits}
use lib.Ieee.Bits.{is_true}
use lib.Ieee.Positive.{first_pos}
use lib.Ieee.Scale.{finite}
use Rattle.std.specs.List.{All}
use Rattle.std.proofs.lemmas.List.Elements.{All-nil, All-cons, All-head, All-weaker, All-append}
use Rattle.laws.specs.Fold.{fold}
use Rattle.laws.specs.Ops.{◌⊕◌, ◌⊖◌, ◌⊗◌, ◌⊘◌}
use Rattle.laws.specs.Size.{Small, AtLeast}
use Rattle.laws.specs.Units.{Units, sign, units_of}
use Rattle.laws.proofs.Amount.{whole-units}
use Rattle.laws.proofs.Bools.{holds, refuted, le_of_test}
use Rattle.laws.proofs.Compare.{le-units, lt-units}
use Rattle.laws.proofs.Fold.{fold-append}
use Rattle.laws.proofs.Size.{weaken, round-small, round-least, sub_small, mul_small, mul-least, div-small, small_of_value, least_of_value}
use Rattle.laws.proofs.Units.{add-larger, div-units, neg-units, finite_of_units}
use Rattle.math.specs.Clock.{seconds_per_hour}
use Rattle.roots.proofs.HypotSize.{hypot-small}
use Rattle.std.specs.declared.option.Option.{Option}
use Rattle.std.specs.declared.result.Result.{Result}
use Rattle.elementary.specs.declared.error.Refusal.{Refusal}
use Rattle.elementary.specs.declared.error.Refusal.TheVariants as Why
use Rattle.motion.specs.declared.vessel.Components.{Components}
use Rattle.motion.specs.declared.vessel.Vessel.{Vessel}
use Rattle.motion.specs.Vessel.{size, from_velocity}
use Rattle.motion.specs.Check as Check
use Rattle.track.specs.declared.window.Fix.{Fix}
use Rattle.track.specs.Fit.{hours, north, east, sum, mean, products, spread, knots, fitted, at_speed, motion, fit_to, fit_answer}
use Rattle.track.specs.Spread.{plain, Spread}
use Rattle.track.proofs.Latest.{last_of_more}
use Rattle.laws.proofs.Signed.{Signed, signed_units, rounded_sign, add_signed, least_right, zero_plus, sum_small, sum_signed, sum_least, square_signed, signed_wider, div_signed, div_least}

-- a fix with its offset in bounds, taken before a second
pub record Early (s : ℕ) (f : Fix) : Type 0 where
  pub north : Small 14 0 f.offset.north
  pub east : Small 14 0 f.offset.east
  pub before : f.seconds < s

-- ---- the hours
module _ (k : ℕ) (few : k ≤ 2 ^ 31) where
  abbrev ago : Float
  ago = neg (of_int binary64 (pos k)) ⊘ seconds_per_hour

  ago_is : ago ≡ round binary64 true (k * 2 ^ 1074) (3600 * 2 ^ 1074)
  ago_is =
      div-units (neg (of_int binary64 (pos k))) seconds_per_hour true false (k * 2 ^ 1074) (3600 * 2 ^ 1074) (lit< tt)
      (neg-units (of_int binary64 (pos k)) false (k * 2 ^ 1074) (whole-units k (le_trans few (lit≤ tt)))) (unfold of_bits in (refl, refl))

  in_hours : k * 2 ^ 1074 ≤ 3600 * 2 ^ 1074 * 2 ^ 1023
  in_hours = le_trans (mul-le-mul_right (2 ^ 1074) few) (lit≤ tt)

  ago_signed : Signed true 20 ago
  ago_signed = record {
    size = subst (Small 20 0) (sym ago_is)
        (round-small true (k * 2 ^ 1074) (3600 * 2 ^ 1074) 20 0 (lit< tt) (lit≤ tt) (lit< tt)
        (le_trans (mul-le-mul_right (2 ^ 0) (mul-le-mul_right (2 ^ 1074) few)) (lit≤ tt)));
    side = ap sign ago_is ∙ rounded_sign true (k * 2 ^ 1074) (3600 * 2 ^ 1074) (lit< tt) in_hours;
  }

  ago_least : 1 ≤ k → AtLeast 0 12 ago
  ago_least h =
      subst (AtLeast 0 12) (sym ago_is)
      (round-least true (k * 2 ^ 1074) (3600 * 2 ^ 1074) 0 12 (lit< tt) (lit≤ tt) (lit< tt) in_hours
      (le_trans (lit≤ tt) (mul-le-mul_right (2 ^ 12) (mul-le-mul_right (2 ^ 1074) h))))

module _ (f last : Fix) (range : last.seconds ≤ 2 ^ 31) where
  hours_signed : Signed true 20 (hours last f)
  unfolding hours
  hours_signed = ago_signed (last.seconds - f.seconds) (le_trans (sub-le last.seconds f.seconds) range)

  hours_least : f.seconds < last.seconds → AtLeast 0 12 (hours last f)
  unfolding hours
  hours_least h = ago_least (last.seconds - f.seconds) (le_trans (sub-le last.seconds f.seconds) range) (some f.seconds last.seconds h)
    where
      some : (a b : ℕ) → a < b → 1 ≤ b - a
      some a b h = omega arith

-- the last one is at 0 hours
at_zero : Units (neg (of_int binary64 (pos 0)) ⊘ seconds_per_hour) true 0
at_zero = unfold of_int of_bits neg div round in (refl, refl)

hours_zero : (last : Fix) → Units (hours last last) true 0
unfolding hours
hours_zero last = subst (λ k. Units (neg (of_int binary64 (pos k)) ⊘ seconds_per_hour) true 0) (sym (sub_self last.seconds)) at_zero

-- ---- how many there are
module _ (n : ℕ) (one : 1 ≤ n) (few : n ≤ 8) where
  count_units : Units (of_int binary64 (pos n)) false (n * 2 ^ 1074)
  count_units = whole-units n (le_trans few (lit≤ tt))

  count_small : Small 3 0 (of_int binary64 (pos n))
  count_small =
      small_of_value (of_int binary64 (pos n)) false (n * 2 ^ 1074) (2 ^ 1074) 3 0 (of_int-fits binary64 (pos n)) (pow_pos 1074) count_units (go n (2 ^ 1074) few)
    where
      go : (n L : ℕ) → n ≤ 8 → n * L * 1 ≤ 8 * L
      go n L h = omega (arith, mul-le-mul_right L h)

  count_least : AtLeast 0 0 (of_int binary64 (pos n))
  count_least =
      least_of_value (of_int binary64 (pos n)) false (n * 2 ^ 1074) (2 ^ 1074) 0 0 (of_int-fits binary64 (pos n)) (pow_pos 1074) count_units (go n (2 ^ 1074) one)
    where
      go : (n L : ℕ) → 1 ≤ n → 1 * L ≤ n * L * 1
      go n L h = omega (arith, mul-le-mul_right L h)

  count_side : sign (of_int binary64 (pos n)) ≡ false
  count_side = (finite_of_units _ false _ count_units).1

-- what is at least a power of two is not 0
above : {x : Float} (i : ℕ) → AtLeast 0 i x → 0 < units_of x
above {x} i h = first_pos (units_of x) (2 ^ i) (lt_of_lt_of_le (mul-pos (pow_pos 0) (pow_pos 1074)) h.least)

-- ---- sums, means and products of figures with a bound
zero_small : Small 0 0 Check.zero
zero_small = small_of_value Check.zero false 0 1 0 0 (unfold of_bits fits in tt) (lit< tt) (unfold of_bits in (refl, refl)) (lit≤ tt)

zero_signed : Signed false 0 Check.zero
zero_signed = record { size = zero_small; side = unfold of_bits in refl }

module _ (fs : List Fix) (one : 1 ≤ length fs) (few : length fs ≤ 8) where
  module _ (g : Fix → Float) (p : ℕ) (bound : p ≤ 100) (all : All (λ f. Small p 0 (g f)) fs) where
    room : (p n : ℕ) → n ≤ 8 → p + n ≤ p + 8
    room p n h = omega arith

    top : (p : ℕ) → p ≤ 100 → p + 8 ≤ 1000
    top p h = omega arith

    from_zero : (p : ℕ) → 0 + 0 ≤ p + 0
    from_zero p = omega arith

    total_small : Small (p + 8) 0 (sum g fs)
    unfolding sum
    total_small = sum_small g fs Check.zero p (p + 8) all (weaken p 0 (from_zero p) zero_small) (room p (length fs) few) (top p bound)

    mean_small : Small (p + 8) 0 (mean g fs)
    unfolding mean
    mean_small =
        (div_signed (top p bound) total_small (count_small (length fs) one few) (count_least (length fs) one few) refl (count_side (length fs) one few)).size

    -- what a figure is off the mean
    off_small : (f : Fix) → Small p 0 (g f) → Small (suc (p + 8)) 0 (g f ⊖ mean g fs)
    off_small f a = sub_small {p = p + 8} {q = 0} (omega arith) (above p bound) (weaken (p + 8) 0 (omega arith) a) mean_small
      where
        above : (p : ℕ) → p ≤ 100 → suc (p + 8) < 0 + 1024
        above p h = omega arith

  products_small : (g h : Fix → Float) (p r : ℕ) → p ≤ 100 → r ≤ 100
      → All (λ f. Small p 0 (g f)) fs → All (λ f. Small r 0 (h f)) fs → Small (p + r + 26) 0 (products g h fs)
  unfolding products sum
  products_small g h p r bp br ag ah =
      sum_small product fs Check.zero (p + r + 18) (p + r + 26) (λ k d lt. product_small (get_or fs k d) (ag k d lt) (ah k d lt))
      (weaken (p + r + 18) 0 (omega arith) zero_small) (room2 (length fs) few) (top2 p r bp br)
    where
      product : Fix → Float
      product f = (g f ⊖ mean g fs) ⊗ (h f ⊖ mean h fs)

      room2 : (n : ℕ) → n ≤ 8 → p + r + 18 + n ≤ p + r + 26
      room2 n h = omega arith

      top2 : (p r : ℕ) → p ≤ 100 → r ≤ 100 → p + r + 26 ≤ 1000
      top2 p r h k = omega arith

      below2 : (p r : ℕ) → 0 + 0 ≤ suc (p + 8) + suc (r + 8) + 1074
      below2 p r = omega arith

      above2 : (p r : ℕ) → p ≤ 100 → r ≤ 100 → suc (p + 8) + suc (r + 8) < 0 + 0 + 1024
      above2 p r h k = omega arith

      even : (p r : ℕ) → suc (p + 8) + suc (r + 8) + 0 ≤ p + r + 18 + (0 + 0)
      even p r = omega arith

      product_small : (f : Fix) → Small p 0 (g f) → Small r 0 (h f) → Small (p + r + 18) 0 (product f)
      product_small f a b =
          weaken (p + r + 18) 0 (even p r)
          (mul_small {p = suc (p + 8)} {q = 0} {r = suc (r + 8)} {t = 0} (below2 p r) (above2 p r bp br) (off_small g p bp ag f a) (off_small h r br ah f b))

-- ---- a window that calls returned: some fixes, and a last one after them
module _ (first : Fix) (rest : List Fix) (last : Fix) (early : All (Early last.seconds) (first ∷ rest)) (own : Early (2 ^ 31) last)
    (few : length ((first ∷ rest) ++ last ∷ []) ≤ 8) where
  abbrev fs : List Fix
  fs = (first ∷ rest) ++ last ∷ []

  abbrev front : List Fix
  front = first ∷ rest

  abbrev tail : List Fix
  tail = rest ++ last ∷ []

  abbrev t : Fix → Float
  t = hours last

  range : last.seconds ≤ 2 ^ 31
  range = omega (arith, own.before)

  some : 1 ≤ length fs
  some = omega arith

  t_small : All (λ f. Small 20 0 (t f)) fs
  t_small = λ k d lt. (hours_signed (get_or fs k d) last range).size

  first_least : AtLeast 0 12 (t first)
  first_least = hours_least first last range (All-head (Early last.seconds) first rest early).before

  -- the sum of the hours is what is first, and more
  sum_t : Signed true 28 (sum t fs) × AtLeast 0 12 (sum t fs)
  unfolding sum fold
  sum_t =
      subst (λ s. Signed true 28 (fold (λ s f. s ⊕ t f) s tail) × AtLeast 0 12 (fold (λ s f. s ⊕ t f) s tail))
      (sym (zero_plus (hours_signed first last range) (above 12 first_least)))
      (sum_least t true 12 (lit≤ tt) tail (t first) 20 28 (λ k d lt. hours_signed (get_or tail k d) last range)
      (hours_signed first last range, first_least) (omega arith) (lit≤ tt))

  mean_t : Signed true 28 (mean t fs) × AtLeast 0 15 (mean t fs)
  unfolding mean
  mean_t =
      let c = count_small (length fs) some few in
      let l = count_least (length fs) some few in
      (div_signed (lit≤ tt) sum_t.0.size c l sum_t.0.side (count_side (length fs) some few), div_least (lit≤ tt) sum_t.0.size c l (lit≤ tt) sum_t.1)

  -- what the last one is off the mean
  last_off : AtLeast 0 15 (t last ⊖ mean t fs)
  unfolding sub
  last_off =
      subst (AtLeast 0 15)
      (sym (add-larger (t last) (neg (mean t fs)) true 0 m (hours_zero last) (neg-units (mean t fs) true m (signed_units mean_t.0)) (above 15 mean_t.1)))
      (subst (λ n. AtLeast 0 15 (round binary64 false n (2 ^ 1074))) (sym (sub-zero m))
      (round-least false m (2 ^ 1074) 0 15 (pow_pos 1074) (lit≤ tt) (lit< tt) (in_range m mean_t.0.size.most) mean_t.1.least))
    where
      m : ℕ
      m = units_of (mean t fs)

      in_range : (m : ℕ) → m * 2 ^ 0 ≤ 2 ^ 28 * 2 ^ 1074 → m ≤ 2 ^ 1074 * 2 ^ 1023
      in_range m h = le_trans (le_of_eq (sym (mul-one m))) (le_trans h (lit≤ tt))

  abbrev squared : Fix → Float
  squared f = (t f ⊖ mean t fs) ⊗ (t f ⊖ mean t fs)

  off : (f : Fix) → Small 29 0 (t f ⊖ mean t fs)
  off f = off_small fs some few t 20 (lit≤ tt) t_small f (hours_signed f last range).size

  squared_signed : (f : Fix) → Signed false 58 (squared f)
  squared_signed f = square_signed {p = 29} (lit≤ tt) (off f)

  last_squared : AtLeast 0 30 (squared last)
  last_squared =
      mul-least {p = 0} {q = 15} {r = 0} {t = 15} {i = 29} {j = 0} {k = 29} {l = 0} (lit≤ tt) (lit< tt) (lit< tt) last_off last_off (off last) (off last)

  spread_signed : Signed false 67 (spread last fs) × AtLeast 0 30 (spread last fs)
  unfolding products sum fold
  spread_signed =
      subst (λ s. Signed false 67 s × AtLeast 0 30 s) (sym (fold-append (λ s f. s ⊕ squared f) Check.zero front (last ∷ [])))
      (add_signed (lit≤ tt) before the_last, least_right (lit≤ tt) before the_last (lit≤ tt) last_squared)
    where
      the_last : Signed false 66 (squared last)
      the_last = signed_wider false 58 66 _ (lit≤ tt) (squared_signed last)

      before : Signed false 66 (fold (λ s f. s ⊕ squared f) Check.zero front)
      before =
          sum_signed squared false front Check.zero 58 66 (λ k d lt. squared_signed (get_or front k d)) (signed_wider false 0 58 _ (lit≤ tt) zero_signed)
          (omega (arith, few, length-append front (last ∷ []))) (lit≤ tt)

  -- ---- the miles
  abbrev Near : Fix → Type 0
  Near f = Small 14 0 f.offset.north × Small 14 0 f.offset.east

  offsets : All Near fs
  offsets =
      All-append Near front (last ∷ []) (All-weaker (Early last.seconds) Near (λ f e. (e.north, e.east)) front early)
      (All-cons Near last [] (own.north, own.east) (All-nil Near))

  north_small : All (λ f. Small 15 0 (north last f)) fs
  north_small = λ k d lt. sub_small {p = 14} {q = 0} (lit≤ tt) (lit< tt) (offsets k d lt).0 own.north

  east_small : All (λ f. Small 15 0 (east last f)) fs
  east_small = λ k d lt. sub_small {p = 14} {q = 0} (lit≤ tt) (lit< tt) (offsets k d lt).1 own.east

  -- ---- the velocity and its size
  knots_north : Small 91 0 (knots last fs).north
  knots_north =
      div-small {p = 61} {q = 0} {r = 0} {t = 30} (lit≤ tt) (lit< tt)
      (products_small fs some few t (north last) 20 15 (lit≤ tt) (lit≤ tt) t_small north_small) spread_signed.1

  knots_east : Small 91 0 (knots last fs).east
  knots_east =
      div-small {p = 61} {q = 0} {r = 0} {t = 30} (lit≤ tt) (lit< tt)
      (products_small fs some few t (east last) 20 15 (lit≤ tt) (lit≤ tt) t_small east_small) spread_signed.1

  speed_small : Small 92 0 (size (knots last fs))
  speed_small = hypot-small {p = 91} {q = 0} (lit≤ tt) knots_north knots_east

  -- ---- neither branch for what is not spread or no number is taken
  abbrev s : Float
  s = spread last fs

  abbrev v : Components
  v = knots last fs

  spread_units : Units s false (units_of s)
  spread_units = signed_units spread_signed.0

  above_none : 0 < units_of s
  above_none = above 30 spread_signed.1

  not_none : le s Check.zero ≡ false
  not_none =
      le-units s Check.zero (units_of s) 0 spread_units (unfold of_bits in (refl, refl))
      ∙ refuted _ (λ h. lt_irrefl 0 (lt_of_lt_of_le above_none (le_of_test (units_of s) 0 h)))

  above_zero : lt Check.zero s ≡ true
  above_zero =
      lt-units Check.zero s 0 (units_of s) (unfold of_bits in (refl, refl)) spread_units
      ∙ is_true (ltb 0 (units_of s)) (lt→ltb 0 (units_of s) above_none)

  fitted_is : fitted last fs ≡ Some v
  unfolding fitted
  fitted_is =
      ap (λ b. cond (b || not (finite s)) None (Some v)) not_none
      ∙ ap (λ b. cond (not b) None (Some v)) (is_true (finite s) spread_signed.0.size.number)

  at_speed_is : at_speed v ≡ plain v
  unfolding at_speed plain
  at_speed_is = ap (λ b. cond (not b || le (size v) Check.zero) (Ok None) fast) (is_true (finite (size v)) speed_small.number)
    where
      fast : Result (Option Vessel) Refusal
      fast = cond (lt Check.fastest (size v)) (Err Why.Speed) (Ok (Some (from_velocity v)))

  many : ltb (length fs) 2 ≡ false
  many = refuted _ (λ h. two (length rest) (length tail) (length-append rest (last ∷ [])) (ltb→lt (length fs) 2 h))
    where
      two : (r n : ℕ) → n ≡ r + 1 → suc n < 2 → ⊥
      two r n e h = lt_irrefl 2 (omega arith)

  answer_is : fit_answer fs ≡ plain v
  unfolding fit_answer
  answer_is =
      ap (λ o. fit_to o fs) (last_of_more front last)
      ∙ ap (λ b. cond b (Err Why.TooFewPlots) (motion (fitted last fs))) many
      ∙ ap motion fitted_is
      ∙ at_speed_is

  pub is_spread : Spread last fs
  is_spread = record {
    above = holds above_zero;
    number = spread_signed.0.size.number;
    north = knots_north.number;
    east = knots_east.number;
    speed = speed_small.number;
    answer = answer_is;
  }
