-- The number of trials, and the list by its entries: trial k for each k up to the last, and no other.
use mathlib.Core.Path.{◌≡◌, refl, sym, ap, ◌∙◌, subst}
use mathlib.Core.Logic.{⊎_elim}
use mathlib.Core.Bool.{Bool, true, false, cond, ◌&&◌}
use mathlib.Core.List.Memᴰ
use mathlib.Core.List.{◌∷◌, Memᴰ}
use Prim.Native.Nat.{ℕ, zero, suc, ◌+◌, ◌*◌, ◌^◌, ◌≤◌, ◌<◌}
use native.Mathlib.Nat.{le_trans, le_of_mul-le-mul_right}
use native.Mathlib.Numerals.{add-one}
use native.Mathlib.Omega.{arith}
use lib.ListN.{length, drop}
use lib.Dec.{T}
use lib.Pow.{pow_pos}
use lib.Ieee.{Float, binary64, lt, le, of_bits, fits, to_unsigned}
use lib.Ieee.Fits.{sub-fits}
use Rattle.laws.specs.Ascending.{Ascending}
use Rattle.laws.specs.Ops.{◌⊖◌}
use Rattle.laws.specs.Units.{units_of}
use Rattle.laws.proofs.Amount.{amount_of, whole_part}
use Rattle.laws.proofs.Bools.{holds}
use Rattle.laws.proofs.Size.{at_most-units}
use Rattle.math.specs.Cast.{to_usize, billion}
use Rattle.manoeuvre.specs.Trials.{last, trial, trials_from, trials, IsTrialList}

-- ---- the number of trials
-- a whole number of degrees is at most 10^9, whatever the limits are
usize_few : (x : Float) → T (fits binary64 x) → to_usize x ≤ 1000000000
unfolding to_usize of_bits
usize_few x f = go (le (of_bits binary64 0) x) refl (le x billion) refl
  where
    some : (u : ℕ) → u ≡ 0 → u ≤ 1000000000
    some u e = omega arith

    go : (a : Bool) → le (of_bits binary64 0) x ≡ a → (b : Bool) → le x billion ≡ b → cond (a && b) (to_unsigned 64 x) 0 ≤ 1000000000
    go true p true q =
        let o = at_most-units x billion (1000000000 * 2 ^ 1074) f (refl, refl) (holds p) (holds q) in
        le_of_mul-le-mul_right (le_trans (whole_part 64 x (units_of x) (amount_of x f o.0 (holds p))) o.1) (pow_pos 1074)
    go true p false q = some 0 refl
    go false p b q = some 0 refl

pub counts : (least most : Float) → last least most ≤ 1000000000
unfolding last
counts least most = usize_few (most ⊖ least) (sub-fits binary64 most least)

-- ---- the list
module _ (least most : Float) where
  from_length : (k n : ℕ) → length (trials_from least most k n) ≡ n
  unfolding trials_from
  from_length k zero = refl
  from_length k (suc n) = ap suc (from_length (suc k) n)

  from_entry : (k n : ℕ) (t : Float) → Memᴰ t (trials_from least most k n) → (i : ℕ) × (k ≤ i) × (i < k + n) × (t ≡ trial least most i)
  unfolding trials_from
  from_entry k zero t h = absurd (Memᴰ.not-nil h)
  from_entry k (suc n) t h = ⊎_elim (λ e. (k, from, here, e)) (λ r. let o = from_entry (suc k) n t r in (o.0, after o.0 o.1, there o.0 o.2, o.3)) (Memᴰ.cases_cons h)
    where
      from : k ≤ k
      from = omega arith

      here : k < k + suc n
      here = omega arith

      after : (i : ℕ) → suc k ≤ i → k ≤ i
      after i l = omega arith

      there : (i : ℕ) → i < suc k + n → i < k + suc n
      there i l = omega arith

  from_listed : (k n j : ℕ) → j < n → Memᴰ (trial least most (k + j)) (trials_from least most k n)
  unfolding trials_from
  from_listed k zero j h = absurd (none h)
    where
      none : j < 0 → ⊥
      none l = omega arith
  from_listed k (suc n) zero h = Memᴰ.head (ap (trial least most) same)
    where
      same : k + 0 ≡ k
      same = omega arith
  from_listed k (suc n) (suc j) h = Memᴰ.tail (subst (λ i. Memᴰ (trial least most i) (trials_from least most (suc k) n)) next (from_listed (suc k) n j less))
    where
      next : suc k + j ≡ k + suc j
      next = omega arith

      less : j < n
      less = omega arith

  from_next : (k n j : ℕ) → j < n → drop j (trials_from least most k n) ≡ trial least most (k + j) ∷ drop (suc j) (trials_from least most k n)
  unfolding trials_from
  from_next k zero j h = absurd (none h)
    where
      none : j < 0 → ⊥
      none l = omega arith
  from_next k (suc n) zero h = ap (λ i. trial least most i ∷ trials_from least most (suc k) n) same
    where
      same : k ≡ k + 0
      same = omega arith
  from_next k (suc n) (suc j) h = from_next (suc k) n j less ∙ ap (λ i. trial least most i ∷ drop (suc j) (trials_from least most (suc k) n)) next
    where
      next : suc k + j ≡ k + suc j
      next = omega arith

      less : j < n
      less = omega arith

  pub count : length (trials least most) ≡ suc (last least most)
  unfolding trials
  count = from_length 0 (suc (last least most))

  -- what is left of the list at k begins with trial k
  pub next : (k : ℕ) → k < length (trials least most) → drop k (trials least most) ≡ trial least most k ∷ drop (suc k) (trials least most)
  unfolding trials
  next k h = from_next 0 (suc (last least most)) k (subst (λ n. k < n) count h) ∙ ap (λ i. trial least most i ∷ drop (suc k) (trials_from least most 0 (suc (last least most)))) same
    where
      same : 0 + k ≡ k
      same = omega arith

  pub counted : (n : ℕ) → n ≡ last least most → n + 1 ≡ length (trials least most)
  counted n e = add-one n ∙ ap suc e ∙ sym count

  pub room : (n : ℕ) → n ≡ last least most → n ≤ 1000000000
  room n e = subst (λ k. k ≤ 1000000000) (sym e) (counts least most)

  pub entry : (t : Float) → Memᴰ t (trials least most) → (k : ℕ) × (k ≤ last least most) × (t ≡ trial least most k)
  unfolding trials
  entry t h = let o = from_entry 0 (suc (last least most)) t h in (o.0, under o.0 (last least most) o.2, o.3)
    where
      under : (i l : ℕ) → i < 0 + suc l → i ≤ l
      under i l h = omega arith

  pub listed : (k : ℕ) → k ≤ last least most → Memᴰ (trial least most k) (trials least most)
  unfolding trials
  listed k h = subst (λ i. Memᴰ (trial least most i) (trials_from least most 0 (suc (last least most)))) same (from_listed 0 (suc (last least most)) k less)
    where
      same : 0 + k ≡ k
      same = omega arith

      less : k < suc (last least most)
      less = omega arith

  -- each is below all that follow
  from_ascending : IsTrialList least most → (k n : ℕ) → k + n ≤ suc (last least most) → Ascending (trials_from least most k n)
  unfolding trials_from
  from_ascending L k zero h = tt
  from_ascending L k (suc n) h = (λ y m. let o = from_entry (suc k) n y m in subst (λ z. T (lt (trial least most k) z)) (sym o.3) (L.increasing k o.0 o.1 (within o.0 o.2)), from_ascending L (suc k) n shorter)
    where
      within : (i : ℕ) → i < suc k + n → i ≤ last least most
      within i l = omega arith

      shorter : suc k + n ≤ suc (last least most)
      shorter = omega arith

  pub ascending : IsTrialList least most → Ascending (trials least most)
  unfolding trials
  ascending L = from_ascending L 0 (suc (last least most)) all
    where
      all : 0 + suc (last least most) ≤ suc (last least most)
      all = omega arith
