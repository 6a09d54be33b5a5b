-- What it means that the checks of the ruled search accept its arguments: own craft, every contact and the limits of the trials are fit, and every contact has a ruling.
use Rattle.std.specs.Prelude.{Ok}
use mathlib.Core.Path.{◌≡◌, sym, ap, subst}
use mathlib.Core.Logic.{⊎_elim}
use mathlib.Core.List.Memᴰ
use mathlib.Core.List.{List, [], ◌∷◌, ◌++◌, map, Memᴰ}
use Prim.Native.Nat.{ℕ, ◌≤◌}
use lib.Dec.{leb→le}
use lib.Ieee.{le, of_bits}
use Rattle.elementary.specs.Range.{in_range}
use Rattle.motion.specs.declared.units.Distance.{Distance}
use Rattle.std.specs.declared.option.Option.{Option}
use Rattle.motion.specs.declared.units.Direction.{Direction}
use Rattle.motion.specs.Check.{Check, verdict, vessel_checks, contact_checks, distance_checks}
use Rattle.situation.specs.declared.party.Party.{Party}
use Rattle.situation.specs.declared.party.Visibility.{Visibility}
use Rattle.situation.specs.Situation.{standard}
use Rattle.situation.specs.Arguments.{optional_checks, party_checks, is_width, config_checks, situation_checks}
use Rattle.colregs.specs.Geometry.{geometry_of}
use Rattle.colregs.specs.Colregs.{ruling_of, ruling_if_accepted, ruling_answer}
use Rattle.manoeuvre.specs.declared.constraints.ManoeuvreConstraints.{ManoeuvreConstraints}
use Rattle.manoeuvre.specs.Constraints.{constraint_checks}
use Rattle.manoeuvre.specs.Trials.{Limits}
use Rattle.motion.specs.Capacity.{max_contacts}
use Rattle.clearance.specs.declared.traffic.Entry.{Entry}
use Rattle.clearance.specs.Traffic.{target_of, count_checks, entry_checks, contacts_checks}
use Rattle.relative_motion.specs.Sound.{AllGood}
use Rattle.relative_motion.proofs.Sizes.{all_good}
use Rattle.avoidance.specs.Fit.{FitVessel, FitTarget, FitTargets}
use Rattle.avoidance.proofs.Accepting.{good_front, good_back, good_both, vessel_fit, limits_fit}
use Rattle.avoidance.proofs.Prepared.{accepted}
use Rattle.ruled_search.specs.Ruled.{situation_of, ruled_checks}
use Rattle.ruled_search.specs.Held.{HeldArguments}

-- ---- the standard widths, one vessel, one contact
widths : AllGood (config_checks standard)
unfolding is_width in_range le of_bits
widths = (tt, (tt, tt))

pub party-vessel : (p : Party) → AllGood (party_checks p) → AllGood (vessel_checks p.motion)
unfolding party_checks
party-vessel p g = good_front (vessel_checks p.motion) (optional_checks p.heading) g

entry_good : (entries : List Entry) → AllGood (contacts_checks entries) → (e : Entry) → Memᴰ e entries → AllGood (entry_checks e)
unfolding contacts_checks
entry_good [] g e m = absurd (Memᴰ.not-nil m)
entry_good (x ∷ entries) g e m = ⊎_elim (λ is. subst (λ z. AllGood (entry_checks z)) (sym is) (good_front (entry_checks x) (contacts_checks entries) g)) (λ r. entry_good entries (good_back (entry_checks x) (contacts_checks entries) g) e r) (Memᴰ.cases_cons m)

module _ (own : Party) (count : ℕ) (entries : List Entry) (wind : Option Direction) (desired : Distance) (c : ManoeuvreConstraints) (h : verdict (ruled_checks own count entries wind desired c) (Ok tt) ≡ (Ok tt)) where
  -- the checks from desired on, from wind on, from the contacts on
  abbrev from_desired : List Check
  from_desired = distance_checks desired ++ constraint_checks c

  abbrev from_wind : List Check
  from_wind = optional_checks wind ++ from_desired

  abbrev from_contacts : List Check
  from_contacts = contacts_checks entries ++ from_wind

  after-count : AllGood (party_checks own ++ from_contacts)
  unfolding ruled_checks
  after-count = good_back (count_checks count) (party_checks own ++ from_contacts) (all_good (ruled_checks own count entries wind desired c) h)

  -- there are no more than is room for
  pub few : count ≤ max_contacts
  unfolding ruled_checks
  few = leb→le count max_contacts (good_front (count_checks count) (party_checks own ++ from_contacts) (all_good (ruled_checks own count entries wind desired c) h)).0

  pub own_good : AllGood (party_checks own)
  own_good = good_front (party_checks own) from_contacts after-count

  after_own : AllGood from_contacts
  after_own = good_back (party_checks own) from_contacts after-count

  pub each_good : (e : Entry) → Memᴰ e entries → AllGood (contact_checks e.contact) × AllGood (party_checks e.target)
  unfolding entry_checks
  each_good e m = let g = entry_good entries (good_front (contacts_checks entries) from_wind after_own) e m in (good_front (contact_checks e.contact) (party_checks e.target) g, good_back (contact_checks e.contact) (party_checks e.target) g)

  after-contacts : AllGood from_wind
  after-contacts = good_back (contacts_checks entries) from_wind after_own

  -- every contact has a ruling
  pub ruled : (visibility : Visibility) (e : Entry) → Memᴰ e entries → ruling_answer (situation_of own visibility wind e) standard ≡ Ok (ruling_of standard (geometry_of (situation_of own visibility wind e)))
  unfolding ruling_answer situation_checks
  ruled visibility e m =
      let g = each_good e m in
      ap (λ v. ruling_if_accepted v (ruling_of standard (geometry_of (situation_of own visibility wind e))))
      (accepted (situation_checks (situation_of own visibility wind e) ++ config_checks standard)
      (good_both (situation_checks (situation_of own visibility wind e)) (config_checks standard)
      (good_both (party_checks own) (contact_checks e.contact ++ (party_checks e.target ++ optional_checks wind)) own_good
      (good_both (contact_checks e.contact) (party_checks e.target ++ optional_checks wind) g.0
      (good_both (party_checks e.target) (optional_checks wind) g.1 (good_front (optional_checks wind) from_desired after-contacts))))
      widths))

  module _ (k : HeldArguments own entries c) where
    pub own_fit : FitVessel own.motion
    own_fit = vessel_fit own.motion k.vessel (party-vessel own own_good)

    pub entry_fit : (e : Entry) → Memᴰ e entries → FitTarget (target_of e)
    unfolding target_of
    entry_fit e m = let g = each_good e m in record {
      contact = record { held = (k.each e m).contact; bearing = g.0.0; range = g.0.1.0 };
      vessel = vessel_fit e.target.motion (k.each e m).vessel (party-vessel e.target g.1);
    }

    pub targets_fit : FitTargets (map target_of entries)
    targets_fit t m = let u = Memᴰ.of_map target_of entries m in subst FitTarget u.2 (entry_fit u.0 u.1)

    pub limits : Limits c.least_alteration.0 c.most_alteration.0
    limits = limits_fit c k.least k.most (good_back (distance_checks desired) (constraint_checks c) (good_back (optional_checks wind) from_desired after-contacts))
