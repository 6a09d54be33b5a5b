-- On accepted arguments the bearing drift is finite. The offset's parts are at most the range, so that the numerator is at most 2 ^ 12 times the range; the rounded square of the range is at least half the
-- square, and where it is not 0 the range is at least 2 ^ -538: the drift is at most 2 ^ 551 per hour.
use Rattle.std.specs.Prelude.{Ok}
use mathlib.Core.Path.{◌≡◌, refl, sym, ap, ◌∙◌, subst}
use mathlib.Core.Bool.{Bool, true, false, cond}
use Prim.Native.Nat.{ℕ, zero, suc, ◌+◌, ◌*◌, ◌^◌, ◌≤◌, ◌<◌}
use native.Mathlib.Nat.{le_trans, le_of_eq, lt_of_not-le, mul-le-mul, mul-le-mul_right, le_of_mul-le-mul_right, mul-one}
use native.Mathlib.Omega.{arith}
use lib.Dec.{T, ltb→lt, lit<, lit≤}
use lib.Pow.{pow_pos, pow_mono}
use lib.Ieee.{Float, fits, lt, unlike, of_bits}
use lib.Ieee.Scale.{finite}
use Rattle.laws.specs.Ops.{◌⊖◌, ◌⊗◌, ◌⊘◌}
use Rattle.laws.specs.Size.{Small, AtLeast, Times}
use Rattle.laws.specs.Units.{sign, units_of}
use Rattle.laws.proofs.Bools.{holds}
use Rattle.laws.proofs.Compare.{lt-units}
use Rattle.laws.proofs.Error.{Product, product}
use Rattle.laws.proofs.Ratio.{times_mul, sub_times, own_times}
use Rattle.laws.proofs.Size.{units_small, round-small, mul_small, div-small, small_of_value, least_of_value}
use Rattle.laws.proofs.Units.{Form, form, own_units, div-units}
use Rattle.math.specs.Convert.{to_degrees}
use Rattle.motion.specs.Check as Check
use Rattle.motion.specs.Check.{verdict, encounter_checks, is_direction, is_distance}
use Rattle.motion.specs.Held.{HeldVessel, HeldContact}
use Rattle.motion.specs.declared.vessel.Vessel.{Vessel}
use Rattle.motion.specs.declared.vessel.Contact.{Contact}
use Rattle.motion.specs.declared.vessel.Components.{Components}
use Rattle.motion.specs.Vessel.{resolved, offset, relative_velocity}
use Rattle.relative_motion.proofs.Sizes.{Sized, sized, all_good, distance-small, unit-small, constant_small}
use Rattle.assessment.specs.Risk.{sixty, drift_per_hour, drift_of}
use Rattle.assessment.specs.Drift.{FiniteDrift}

-- the parts of an offset are at most the range
offset_parts : (c : Contact) → HeldContact c → T (is_direction c.bearing) → T (is_distance c.range) → Times 0 (offset c).north c.range.0 × Times 0 (offset c).east c.range.0
unfolding offset resolved
offset_parts c h b r =
    let s = distance-small c.range h.range r in
    let o = form c.range.0 s.held s.number in
    let u = unit-small c.bearing h.bearing b in
    let top = top_of (units_of c.range.0) s.most in
    (times_mul {p = 0} {k = 0} o top (own_times s.held s.number) u.0, times_mul {p = 0} {k = 0} o top (own_times s.held s.number) u.1)
  where
    top_of : (n : ℕ) → n * 2 ^ 0 ≤ 2 ^ 14 * 2 ^ 1074 → 2 ^ (0 + 0) * n ≤ 2 ^ 1023 * 2 ^ 1074
    top_of n h = le_trans (go n h) (lit≤ tt)
      where
        go : (n : ℕ) → n * 2 ^ 0 ≤ 2 ^ 14 * 2 ^ 1074 → 2 ^ (0 + 0) * n ≤ 2 ^ 14 * 2 ^ 1074
        go n h = omega (arith, h)

module _ (range : Float) (position relative : Components) (r : Small 14 0 range) (a : Sized position relative) (north : Times 0 position.north range) (east : Times 0 position.east range) where
  abbrev units : ℕ
  units = units_of range

  of_range : Form range
  of_range = form range r.held r.number

  units_top : units ≤ 2 ^ 14 * 2 ^ 1074
  units_top = le_trans (le_of_eq (sym (mul-one units))) r.most

  room : (k : ℕ) → k ≤ 1000 → 2 ^ k * units ≤ 2 ^ 1023 * 2 ^ 1074
  room k h = le_trans (mul-le-mul (pow_mono h) units_top) (lit≤ tt)

  abbrev across : Float
  across = position.north ⊗ relative.east ⊖ position.east ⊗ relative.north

  across_times : Times 12 across range
  across_times = sub_times {k = 11} of_range (room 12 (lit≤ tt)) (times_mul {p = 11} {k = 0} of_range (room 11 (lit≤ tt)) north a.relative_east) (times_mul {p = 11} {k = 0} of_range (room 11 (lit≤ tt)) east a.relative_north)

  abbrev squared : Float
  squared = range ⊗ range

  same : (s : Bool) → unlike s s ≡ false
  same true = refl
  same false = refl

  square : Product squared false units units
  square = subst (λ s. Product squared s units units) (same (sign range)) (product range range (sign range) (sign range) units units (units_small r) (units_small r) (le_trans (mul-le-mul units_top units_top) (lit≤ tt)))

  -- K is 2 ^ 536, L is 2 ^ 1074
  bound : (a r g K L : ℕ) → L ≡ 4 * (K * K) → 0 < K → 0 < g → a ≤ 2 ^ 12 * r
      → 2 * (2 ^ 53 * (g * L)) ≤ 2 * (2 ^ 53 + 1) * (r * r) + 2 ^ 53 * L
      → 2 * (2 ^ 53 * (r * r)) ≤ 2 * (2 ^ 53 * (g * L)) + 2 * (r * r) + 2 ^ 53 * L → a ≤ 2 ^ 15 * K * g
  bound a r g K L e k p h over under = last (le_of_mul-le-mul_right {k = K} (narrow (mul-le-mul_right r few)) k)
    where
      one : L ≤ g * L
      one = from g p
        where
          from : (g : ℕ) → 0 < g → L ≤ g * L
          from zero p = elim p [ ]
          from (suc g) p = omega arith

      half : r * r ≤ 2 * (g * L)
      half = omega (arith, one, under)

      some : K * K ≤ r * r
      some = go (K * K) (r * r) (g * L) L e one over
        where
          go : (q s t L : ℕ) → L ≡ 4 * q → L ≤ t → 2 * (2 ^ 53 * t) ≤ 2 * (2 ^ 53 + 1) * s + 2 ^ 53 * L → q ≤ s
          go q s t L e h k = omega (arith, e, h, k)

      few : K ≤ r
      few = under_next (lt_of_not-le (λ h. clash (mul-le-mul h h)))
        where
          under_next : K < suc r → K ≤ r
          under_next h = omega (arith, h)

          clash : suc r * suc r ≤ K * K → ⊥
          clash h = omega (arith, h, some)

      narrow : K * r ≤ r * r → r * K ≤ 8 * g * K * K
      narrow h = omega (arith, h, half, ap (λ l. g * l) e)

      last : r ≤ 8 * g * K → a ≤ 2 ^ 15 * K * g
      last k = omega (arith, h, k)

  abbrev per_hour : Float
  per_hour = across ⊘ squared

  some_square : lt Check.zero squared ≡ true → 0 < square.size
  some_square h = ltb→lt 0 square.size (holds (sym (lt-units Check.zero squared 0 square.size (unfold of_bits in (refl, refl)) square.value) ∙ h))

  per_hour_small : lt Check.zero squared ≡ true → Small 551 0 per_hour
  per_hour_small h =
      let g = square.size in
      let B = some_square h in
      subst (Small 551 0) (sym (div-units across squared (sign across) false (units_of across) g B (own_units across across_times.held across_times.number) square.value))
      (round-small (unlike (sign across) false) (units_of across) g 551 0 B (lit≤ tt) (lit< tt)
      (le_trans (le_of_eq (mul-one (units_of across))) (bound (units_of across) units g (2 ^ 536) (2 ^ 1074) refl (pow_pos 536) B across_times.most square.close.over square.close.under)))

  pub drift_small : Small 551 0 (drift_per_hour range position relative)
  unfolding drift_per_hour
  drift_small = go (lt Check.zero squared) refl
    where
      go : (b : Bool) → lt Check.zero squared ≡ b → Small 551 0 (cond b per_hour Check.zero)
      go true h = per_hour_small h
      go false h = small_of_value Check.zero false 0 1 551 0 (unfold of_bits fits in tt) (lit< tt) (unfold of_bits in (refl, refl)) (lit≤ tt)

  sixty_least : AtLeast 5 0 sixty
  sixty_least = least_of_value sixty false 60 1 5 0 (unfold of_bits fits in tt) (lit< tt) (unfold of_bits in (refl, refl)) (lit≤ tt)

  pub minute_small : Small 557 5 (to_degrees (drift_per_hour range position relative) ⊘ sixty)
  unfolding to_degrees
  minute_small = div-small {p = 557} {q = 0} {r = 5} {t = 0} (lit≤ tt) (lit< tt) (mul_small {p = 551} {q = 0} {r = 6} {t = 0} (lit≤ tt) (lit< tt) drift_small constant_small) sixty_least

  pub uncut : (drift_of range position relative).0 ≡ to_degrees (drift_per_hour range position relative) ⊘ sixty
  unfolding drift_of
  uncut = go (finite (drift_per_hour range position relative)) drift_small.number
    where
      go : (b : Bool) → T b → cond b (to_degrees (drift_per_hour range position relative) ⊘ sixty) Check.zero ≡ to_degrees (drift_per_hour range position relative) ⊘ sixty
      go true h = refl
      go false h = elim h [ ]

pub finite_drift : (own : Vessel) (contact : Contact) (target : Vessel) → HeldVessel own → HeldContact contact → HeldVessel target → verdict (encounter_checks own contact target) (Ok tt) ≡ Ok tt → FiniteDrift own contact target
unfolding encounter_checks
finite_drift own contact target ho hc ht e =
    let g = all_good (encounter_checks own contact target) e in
    let s = sized own contact target ho hc ht g.0 g.1.0 g.1.1.0 g.1.1.1.0 g.1.1.1.1.0 g.1.1.1.1.1.0 in
    let r = distance-small contact.range hc.range g.1.1.1.0 in
    let p = offset_parts contact hc g.1.1.0 g.1.1.1.0 in
    record {
      per_hour = (drift_small contact.range.0 (offset contact) (relative_velocity own target) r s p.0 p.1).number;
      per_minute = (minute_small contact.range.0 (offset contact) (relative_velocity own target) r s p.0 p.1).number;
      uncut = uncut contact.range.0 (offset contact) (relative_velocity own target) r s p.0 p.1;
    }
