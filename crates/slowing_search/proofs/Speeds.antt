-- The trial speeds: they are k eighths of own speed, each fit for a vessel, none is faster than one that stands before it, and
-- those that are equal by value are one.
use mathlib.Core.Path.{◌≡◌, sym, ap, subst, ◌∙◌}
use mathlib.Core.Logic.{◌⊎◌, inl, inr, ⊎_elim}
use mathlib.Core.List.Memᴰ
use mathlib.Core.List.{◌∷◌, Memᴰ}
use Prim.Native.Nat.{ℕ, zero, suc, ◌≤◌, ◌<◌}
use native.Mathlib.Nat.{eq-or-lt_of_le}
use native.Mathlib.Omega.{arith}
use lib.Dec.{T}
use lib.Ieee.{binary64, eq, lt, le, fits}
use lib.Ieee.Fits.{and_l, and_r, and_i}
use lib.Ieee.Scale.{finite}
use Rattle.laws.specs.First.{InOrder}
use Rattle.laws.proofs.Order.{lt_not_self, le_not_lt, le_trans_float}
use Rattle.laws.proofs.Parts.{at_eight, in_order, same, held}
use Rattle.elementary.specs.Range.{in_range}
use Rattle.motion.specs.declared.units.Speed.{Speed}
use Rattle.motion.specs.declared.vessel.Vessel.{Vessel}
use Rattle.motion.specs.Check as Check
use Rattle.motion.specs.Check.{is_speed}
use Rattle.relative_motion.proofs.Sizes.{speed_small}
use Rattle.avoidance.specs.Fit.{FitVessel}
use Rattle.slowing_search.specs.Slowing.{trial_speed, down_from, at_speed}

-- one speed is before another where it is faster
abbrev pub Faster : Speed → Speed → Type 0
Faster s t = T (lt t.0 s.0)

-- s is so many eighths of own speed, from one to n
abbrev pub Part : Speed → ℕ → Speed → Type 0
Part own n s = (k : ℕ) × (1 ≤ k) × (k ≤ n) × (s ≡ trial_speed own k)

pub part_of_member : (own : Speed) (n : ℕ) (s : Speed) → Memᴰ s (down_from own n) → Part own n s
unfolding down_from
part_of_member own zero s m = absurd (Memᴰ.not-nil m)
part_of_member own (suc n) s m =
    ⊎_elim (λ e. (suc n, omega arith, omega arith, e)) (λ r. let p = part_of_member own n s r in (p.0, p.1, omega (arith, p.2), p.3)) (Memᴰ.cases_cons m)

pub member_of_part : (own : Speed) (n k : ℕ) → 1 ≤ k → k ≤ n → Memᴰ (trial_speed own k) (down_from own n)
unfolding down_from
member_of_part own zero k h l = absurd (none k h l)
  where
    none : (k : ℕ) → 1 ≤ k → k ≤ 0 → ⊥
    none k h l = omega arith
member_of_part own (suc n) k h l = go (eq-or-lt_of_le l) (member_of_part own n k h)
  where
    less : k < suc n → k ≤ n
    less m = omega arith

    go : (k ≡ suc n) ⊎ (k < suc n) → (k ≤ n → Memᴰ (trial_speed own k) (down_from own n)) → Memᴰ (trial_speed own k) (trial_speed own (suc n) ∷ down_from own n)
    go (inl e) rest = Memᴰ.head (ap (trial_speed own) e)
    go (inr m) rest = Memᴰ.tail (rest (less m))

module _ (own : Speed) (fit : T (fits binary64 own.0)) (accepted : T (is_speed own)) where
  bounds : T (le Check.zero own.0) × T (le own.0 Check.fastest)
  unfolding is_speed in_range
  bounds = (and_l (le Check.zero own.0) (le own.0 Check.fastest) accepted, and_r (le Check.zero own.0) (le own.0 Check.fastest) accepted)

  abbrev number : T (finite own.0)
  number = (speed_small own fit accepted).number

  pub full : trial_speed own 8 ≡ own
  full = ap (λ x. record { 0 = x }) (at_eight own.0 fit number bounds.0)

  -- fit for a vessel
  pub speed_held : (k : ℕ) → k ≤ 8 → T (fits binary64 (trial_speed own k).0) × T (is_speed (trial_speed own k))
  unfolding is_speed in_range
  speed_held k h =
      let o = held own.0 fit number bounds.0 k h in (
        o.0,
        and_i (le Check.zero (trial_speed own k).0) (le (trial_speed own k).0 Check.fastest) o.2
            (le_trans_float (trial_speed own k).0 own.0 Check.fastest o.3 bounds.1),
      )

  -- none is faster than one before it
  pub speeds_in_order : (n : ℕ) → n ≤ 8 → InOrder Faster (down_from own n)
  unfolding down_from
  speeds_in_order zero h = tt
  speeds_in_order (suc n) h = (
    lt_not_self (trial_speed own (suc n)).0,
    (λ t m k.
        let p = part_of_member own n t m in
        le_not_lt t.0 (trial_speed own (suc n)).0
        (subst (λ s. T (le s.0 (trial_speed own (suc n)).0)) (sym p.3) (in_order own.0 fit number bounds.0 p.0 (suc n) (omega (arith, p.2)) h)) k),
    speeds_in_order n (omega (arith, h)),
  )

  -- two that are equal by value are one
  pub same_speed : (n : ℕ) → n ≤ 8 → (s t : Speed) → Memᴰ s (down_from own n) → Memᴰ t (down_from own n) → T (eq s.0 t.0) → s ≡ t
  same_speed n h s t p q e =
      let a = part_of_member own n s p in
      let b = part_of_member own n t q in
      a.3 ∙ ap (λ x. record { 0 = x }) (same own.0 fit number bounds.0 a.0 b.0 (omega (arith, a.2, h)) (omega (arith, b.2, h))
      (subst (λ r. T (eq r.0 (trial_speed own b.0).0)) a.3 (subst (λ r. T (eq s.0 r.0)) b.3 e))) ∙ sym b.3

pub slowed_fit : (own : Vessel) (k : ℕ) → k ≤ 8 → FitVessel own → FitVessel (at_speed own (trial_speed own.speed k))
slowed_fit own k h o =
    let s = speed_held own.speed o.held.speed o.speed k h in
    record { held = record { course = o.held.course; speed = s.0 }; course = o.course; speed = s.1 }
