-- What one contact does on a course, and all of them, in the words of demand 3: a course clears exactly if no contact closes under desired minus 1e-9, and what is said of its passing distance and limiting contact.
use Rattle.std.specs.Prelude.{None, Some, Err, Ok}
use mathlib.Core.Path.{◌≡◌, refl, sym, ap, ◌∙◌, subst}
use mathlib.Core.Bool.{Bool, true, false, cond, true≢false}
use mathlib.Core.Logic.{◌⊎◌, ⊎_elim}
use mathlib.Core.List.Memᴰ
use mathlib.Core.List.{List, [], ◌∷◌, map, map-map, nil≢cons, Memᴰ}
use Prim.Native.Nat.{ℕ}
use lib.ListN.{length, length-map}
use lib.Dec.{T}
use lib.Ieee.{lt, le}
use lib.Ieee.Bits.{is_true}
use Rattle.laws.proofs.Members.{cut_map}
use Rattle.motion.specs.declared.units.Distance.{Distance}
use Rattle.motion.specs.declared.vessel.Vessel.{Vessel}
use Rattle.motion.specs.Vessel.{offset, relative_velocity}
use Rattle.relative_motion.specs.declared.approach.Cpa.{Cpa}
use Rattle.relative_motion.specs.declared.approach.Track.{Track}
use Rattle.std.specs.declared.option.Option.{Option}
use Rattle.std.specs.declared.result.Result.{Result}
use Rattle.elementary.specs.declared.error.Refusal.{Refusal}
use Rattle.relative_motion.specs.Approach.{stationary_knots, relative_speed, time_of, approach_from, approach, distance_alone, cpa_if_accepted, cpa_answer}
use Rattle.motion.specs.Check as Check
use Rattle.motion.specs.Check.{verdict, encounter_checks}
use Rattle.clearance.specs.declared.Clearance.{Clearance}
use Rattle.clearance.specs.Clearing.{largest, floor_of, cleared, cleared_answer, contact_clears, clearing}
use Rattle.clearance.specs.declared.traffic.Entry.{Entry}
use Rattle.clearance.specs.Traffic.{target_of}
use Rattle.relative_motion.specs.Sound.{AllGood}
use Rattle.avoidance.specs.Closest.{Real, Closest}
use Rattle.avoidance.specs.Fit.{FitVessel, FitTarget, FitTargets}
use Rattle.avoidance.proofs.Clearances.{not_blocked, at, blocked, blocks_it, clear}
use Rattle.avoidance.proofs.Prepared.{accepted, real}
use Rattle.ruled_search.specs.Demand3.{cpa_or_range, approach_to, passing_distance, ClosesUnder, FirstAt}

-- ---- one contact
-- a contact that does not close is at its range
abbrev range_in : Result (Track Cpa) Refusal → Distance → Distance
range_in (Ok (Track.Closing cpa)) other = other
range_in (Ok (Track.Opening range)) other = range
range_in (Ok (Track.Stationary range)) other = range
range_in (Err why) other = other

by_cases : (w : Result (Unit {0}) Refusal) (a b : Bool) (range : Distance) (cpa : Cpa)
    → range_in (cpa_if_accepted w (cond a (Track.Stationary range) (cond b (Track.Opening range) (Track.Closing cpa)))) range
    ≡ range
by_cases (Err why) a b range cpa = refl
by_cases (Ok tt) true b range cpa = refl
by_cases (Ok tt) false true range cpa = refl
by_cases (Ok tt) false false range cpa = refl

at_range : (v : Vessel) (e : Entry) → range_in (approach_to v e) e.contact.range ≡ e.contact.range
unfolding cpa_answer approach approach_from
at_range v e =
    by_cases (verdict (encounter_checks v e.contact e.target.motion) (Ok tt))
    (lt (relative_speed (relative_velocity v e.target.motion)) stationary_knots)
    (le (time_of (offset e.contact) (relative_velocity v e.target.motion)) Check.zero) e.contact.range _

module _ (desired : Distance) (v : Vessel) (e : Entry) where
  closes_blocks : ClosesUnder desired v e → contact_clears v (floor_of desired) (target_of e) ≡ None
  unfolding contact_clears target_of
  closes_blocks u = ap (cleared_answer (floor_of desired)) u.closing ∙ ap (λ b. cond b None (Some u.cpa.distance)) (is_true (lt u.cpa.distance.0 (floor_of desired)) u.under)

  passes_at : (d : Distance) → contact_clears v (floor_of desired) (target_of e) ≡ Some d → passing_distance v e ≡ d
  unfolding contact_clears target_of
  passes_at d h = go (approach_to v e) refl h
    where
      closing : (b : Bool) (x : Distance) → cond b None (Some x) ≡ Some d → x ≡ d
      closing true x q = absurd (not_blocked d q)
      closing false x q = ap (at d) q

      go : (a : Result (Track Cpa) Refusal) → approach_to v e ≡ a → cleared_answer (floor_of desired) a ≡ Some d → cpa_or_range a e.contact.range ≡ d
      go (Ok (Track.Closing cpa)) q h = closing (lt cpa.distance.0 (floor_of desired)) cpa.distance h
      go (Ok (Track.Opening r)) q h = sym (at_range v e) ∙ ap (λ a. range_in a e.contact.range) q ∙ ap (at d) h
      go (Ok (Track.Stationary r)) q h = sym (at_range v e) ∙ ap (λ a. range_in a e.contact.range) q ∙ ap (at d) h
      go (Err why) q h = absurd (not_blocked d h)

  module _ (o : FitVessel v) (f : FitTarget (target_of e)) where
    good : AllGood (encounter_checks v e.contact e.target.motion)
    unfolding encounter_checks target_of
    good = (o.course, (o.speed, (f.contact.bearing, (f.contact.range, (f.vessel.course, (f.vessel.speed, tt))))))

    pub answers : approach_to v e ≡ Ok (approach v e.contact e.target.motion)
    unfolding cpa_answer
    answers = ap (λ w. cpa_if_accepted w (approach v e.contact e.target.motion)) (accepted (encounter_checks v e.contact e.target.motion) good)

    blocked_closes : contact_clears v (floor_of desired) (target_of e) ≡ None → ClosesUnder desired v e
    unfolding contact_clears target_of
    blocked_closes h = go (approach v e.contact e.target.motion) answers (sym (ap (cleared_answer (floor_of desired)) answers) ∙ h)
      where
        closing : (b : Bool) (x : Distance) → cond b None (Some x) ≡ None → T b
        closing true x q = tt
        closing false x q = absurd (not_blocked x (sym q))

        go : (a : Track Cpa) → approach_to v e ≡ Ok a → cleared (floor_of desired) (distance_alone a) ≡ None → ClosesUnder desired v e
        go (Track.Closing cpa) q h = record { cpa = cpa; closing = q; under = closing (lt cpa.distance.0 (floor_of desired)) cpa.distance h }
        go (Track.Opening r) q h = absurd (not_blocked r (sym h))
        go (Track.Stationary r) q h = absurd (not_blocked r (sym h))

-- ---- all contacts
abbrev clears : Option Clearance → Bool
clears None = false
clears (Some p) = true

no_yes : (p : Clearance) → None ≡ Some p → ⊥
no_yes p e = true≢false (sym (ap clears e))

none_of_map : {A B : Type 0} (f : A → B) (l : List A) → map f l ≡ [] → l ≡ []
none_of_map f [] e = refl
none_of_map f (x ∷ l) e = absurd (nil≢cons (sym e))

module _ (desired : Distance) (v : Vessel) (o : FitVessel v) (entries : List Entry) (f : (e : Entry) → Memᴰ e entries → FitTarget (target_of e)) where
  abbrev clearance_of : Entry → Option Distance
  clearance_of e = contact_clears v (floor_of desired) (target_of e)

  abbrev clearances : List (Option Distance)
  clearances = map (contact_clears v (floor_of desired)) (map target_of entries)

  targets : FitTargets (map target_of entries)
  targets t m = let u = Memᴰ.of_map target_of entries m in subst FitTarget u.2 (f u.0 u.1)

  not-nan : Real clearances
  not-nan = real v o (map target_of entries) targets (floor_of desired)

  in-clearances : (e : Entry) → Memᴰ e entries → Memᴰ (clearance_of e) clearances
  in-clearances e m = Memᴰ.map (contact_clears v (floor_of desired)) (Memᴰ.map target_of m)

  of_entries : clearances ≡ map clearance_of entries
  of_entries = map-map (contact_clears v (floor_of desired)) target_of entries

  -- it does not clear: then some contact closes under
  pub not_clear : clearing clearances ≡ None → ((e : Entry) → Memᴰ e entries → ClosesUnder desired v e → ⊥) → ⊥
  not_clear h all =
      let u = Memᴰ.of_map clearance_of entries (subst (Memᴰ None) of_entries (blocked clearances not-nan h)) in
      all u.0 u.1 (blocked_closes desired v u.0 o (f u.0 u.1) u.2)

  module _ (p : Clearance) (h : clearing clearances ≡ Some p) where
    -- it clears: then none does
    pub all_clear : (e : Entry) → Memᴰ e entries → ClosesUnder desired v e → ⊥
    all_clear e m u = no_yes p (sym (blocks_it clearances not-nan (subst (λ q. Memᴰ q clearances) (closes_blocks desired v e u) (in-clearances e m))) ∙ h)

    said : ((clearances ≡ []) × (p ≡ record { distance = record { 0 = largest }; limiting = None })) ⊎ Closest clearances p
    said = clear clearances not-nan p h

    pub at_most : (e : Entry) → Memᴰ e entries → T (le p.distance.0 (passing_distance v e).0)
    at_most e m = ⊎_elim (λ k. absurd (Memᴰ.not-nil (subst (Memᴰ (clearance_of e)) k.0 (in-clearances e m)))) by said
      where
        by : Closest clearances p → T (le p.distance.0 (passing_distance v e).0)
        by c = let q = c.each (clearance_of e) (in-clearances e m) in subst (λ d. T (le p.distance.0 d.0)) (sym (passes_at desired v e q.0 q.1)) q.2

    pub free : entries ≡ [] → p ≡ record { distance = record { 0 = largest }; limiting = None }
    free e = ⊎_elim (λ k. k.1) (λ c. absurd (Memᴰ.not-nil (subst (Memᴰ (Some p.distance))
        (sym c.split ∙ ap (λ es. map (contact_clears v (floor_of desired)) (map target_of es)) e) (Memᴰ.append_right c.before (Memᴰ.head refl))))) said

    pub first : (entries ≡ [] → ⊥) → (place : ℕ) × (p.limiting ≡ Some place) × FirstAt entries v p.distance place
    first some = ⊎_elim (λ k. absurd (some (none_of_map target_of entries (none_of_map (contact_clears v (floor_of desired)) (map target_of entries) k.0)))) by said
      where
        by : Closest clearances p → (place : ℕ) × (p.limiting ≡ Some place) × FirstAt entries v p.distance place
        by c =
            let k = cut_map clearance_of entries c.before (Some p.distance) c.after (sym of_entries ∙ c.split) in (
              length k.front,
              c.place ∙ ap (λ l. Some (length l)) (sym k.is_front) ∙ ap Some (length-map k.front clearance_of),
              record {
                before = k.front;
                it = k.it;
                after = k.back;
                split = k.split;
                placed = refl;
                passes = passes_at desired v k.it p.distance k.is_it;
                earlier = λ e m. let q = c.earlier (clearance_of e) (subst (Memᴰ (clearance_of e)) k.is_front (Memᴰ.map clearance_of m)) in
                    subst (λ d. T (lt p.distance.0 d.0)) (sym (passes_at desired v e q.0 q.1)) q.2;
              },
            )
