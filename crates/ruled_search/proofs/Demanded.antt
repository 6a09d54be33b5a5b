-- The definition of the ruled search meets demand 3.
use Rattle.std.specs.Prelude.{None, Some, Err, Ok}
use mathlib.Core.Path.{◌≡◌, refl, sym, ap, subst}
use mathlib.Core.Bool.{Bool}
use mathlib.Core.List.{List, map, Memᴰ}
use Prim.Native.Nat.{ℕ}
use lib.Dec.{T}
use lib.Ieee.{Float}
use Rattle.laws.specs.Ascending.{Ascending}
use Rattle.elementary.specs.declared.error.Refusal.TheVariants as Why
use Rattle.motion.specs.declared.units.Distance.{Distance}
use Rattle.motion.specs.declared.vessel.Vessel.{Vessel}
use Rattle.std.specs.declared.option.Option.{Option}
use Rattle.std.specs.declared.result.Result.{Result}
use Rattle.elementary.specs.declared.error.Refusal.{Refusal}
use Rattle.motion.specs.declared.units.Direction.{Direction}
use Rattle.motion.specs.Check.{verdict}
use Rattle.relative_motion.specs.declared.approach.Cpa.{Cpa}
use Rattle.relative_motion.specs.declared.approach.Track.{Track}
use Rattle.relative_motion.specs.Approach.{approach}
use Rattle.situation.specs.declared.party.Party.{Party}
use Rattle.situation.specs.declared.party.Visibility.{Visibility}
use Rattle.situation.specs.Situation.{standard}
use Rattle.colregs.specs.Geometry.{geometry_of}
use Rattle.colregs.specs.Colregs.{ruling_of}
use Rattle.motion.specs.declared.side.Side.{Side}
use Rattle.motion.specs.declared.side.Side.TheVariants.{Starboard}
use Rattle.manoeuvre.specs.declared.constraints.ManoeuvreConstraints.{ManoeuvreConstraints}
use Rattle.manoeuvre.specs.Trials.{trials}
use Rattle.manoeuvre.proofs.Climbing.{is_trial_list}
use Rattle.manoeuvre.proofs.Listed.{ascending}
use Rattle.clearance.specs.declared.Clearance.{Clearance}
use Rattle.clearance.specs.Clearing.{altered, clears}
use Rattle.motion.specs.declared.side.BySide.{BySide}
use Rattle.avoidance.specs.declared.search.Chosen.{Chosen}
use Rattle.avoidance.specs.Search.{signed, choice, trial_clears, search}
use Rattle.clearance.specs.declared.traffic.Entry.{Entry}
use Rattle.clearance.specs.Traffic.{target_of}
use Rattle.avoidance.specs.Fit.{FitVessel}
use Rattle.avoidance.specs.Smallest.{allows, IsChoice}
use Rattle.avoidance.proofs.Prepared.{altered_fit}
use Rattle.avoidance.proofs.Searched.{trial-small, signed-small}
use Rattle.avoidance.proofs.Chosen.{is_choice, no_choice}
use Rattle.ruled_search.specs.declared.RuledManoeuvre.{RuledManoeuvre}
use Rattle.ruled_search.specs.Ruled.{shared_sides, ruled_checks, manoeuvre_of, answered, ruled, ruled_if_accepted, ruled_answer}
use Rattle.ruled_search.specs.Demand3.{approach_to, Shared, Trial, Clears, Smallest, OnAccepted, Demand3}
use Rattle.ruled_search.specs.Held.{HeldArguments}
use Rattle.ruled_search.proofs.Accepted as Accepted
use Rattle.ruled_search.proofs.Answering as Answering
use Rattle.ruled_search.proofs.Contacts as Contacts
use Rattle.ruled_search.proofs.Shared.{is_shared, shared_allows}

module _ (own : Party) (count : ℕ) (entries : List Entry) (visibility : Visibility) (wind : Option Direction) (desired : Distance) (c : ManoeuvreConstraints) (k : HeldArguments own entries c) where
  module _ (h : verdict (ruled_checks own count entries wind desired c) (Ok tt) ≡ (Ok tt)) where
    abbrev least : Float
    least = c.least_alteration.0

    abbrev most : Float
    most = c.most_alteration.0

    abbrev sides : BySide Bool
    sides = shared_sides own visibility wind entries

    abbrev clears_by : Side → Float → Option Clearance
    clears_by = trial_clears own.motion (map target_of entries) desired

    up : Ascending (trials least most)
    up = ascending least most (is_trial_list least most (Accepted.limits own count entries wind desired c h k))

    -- own craft on a trial's altered course
    module _ (side : Side) (m : Float) (t : Memᴰ m (trials least most)) where
      on : Vessel
      on = altered own.motion (signed side m)

      fit : FitVessel (altered own.motion (signed side m))
      fit =
          altered_fit own.motion (signed side m) (Accepted.own_fit own count entries wind desired c h k)
          (signed-small side m (trial-small least most (Accepted.limits own count entries wind desired c h k) m t))

      approaches : (e : Entry) → Memᴰ e entries → (a : Track Cpa) × (approach_to (altered own.motion (signed side m)) e ≡ Ok a)
      approaches e i = (
        approach (altered own.motion (signed side m)) e.contact e.target.motion,
        Contacts.answers desired (altered own.motion (signed side m)) e fit (Accepted.entry_fit own count entries wind desired c h k e i),
      )

      fails : clears_by side m ≡ None → Clears own entries visibility wind desired c side m → ⊥
      unfolding trial_clears clears
      fails e all = Contacts.not_clear desired (altered own.motion (signed side m)) fit entries (Accepted.entry_fit own count entries wind desired c h k) e all

      is_clear : (p : Clearance) → clears_by side m ≡ Some p → Clears own entries visibility wind desired c side m
      unfolding trial_clears clears
      is_clear p e = Contacts.all_clear desired (altered own.motion (signed side m)) fit entries (Accepted.entry_fit own count entries wind desired c h k) p e

    -- ---- what is chosen is the smallest
    smallest : (x : Chosen) → IsChoice sides clears_by (trials least most) x → Smallest own entries visibility wind desired c (manoeuvre_of own.motion c x)
    unfolding trial_clears clears altered
    smallest x i =
        let v = altered own.motion (signed x.side x.magnitude.0) in
        let f = fit x.side x.magnitude.0 i.listed in
        let each = Accepted.entry_fit own count entries wind desired c h k in
        record {
          listed = i.listed;
          clear = is_clear x.side x.magnitude.0 i.listed x.clearance i.clear;
          permitted = is_shared own visibility wind entries desired c x.side i.permitted;
          least = λ side m s t l all. fails side m t (i.least side m (shared_allows own visibility wind entries desired c side s) t l) all;
          starboard = λ m s t q all. i.starboard m (shared_allows own visibility wind entries desired c Starboard s) t q (λ no. fails Starboard m t no all);
          course = refl;
          passing = Contacts.at_most desired v f entries each x.clearance i.clear;
          free = λ none. ap (λ p. p.distance.0) (Contacts.free desired v f entries each x.clearance i.clear none);
          limiting = λ some. Contacts.first desired v f entries each x.clearance i.clear some;
          nobody = λ none. ap (λ p. p.limiting) (Contacts.free desired v f entries each x.clearance i.clear none);
          turn_time = refl;
        }

    -- ---- the answer
    abbrev chosen : Option Chosen
    chosen = choice sides clears_by (trials least most)

    abbrev answer : Result RuledManoeuvre Refusal
    answer = ruled own entries visibility wind desired c

    is_answer : answer ≡ answered (manoeuvre_of own.motion c) sides chosen
    unfolding ruled search
    is_answer = refl

    shares : (side : Side) → Shared own entries visibility wind desired c side → T (allows sides side)
    shares = shared_allows own visibility wind entries desired c

    shared : (side : Side) → T (allows sides side) → Shared own entries visibility wind desired c side
    shared = is_shared own visibility wind entries desired c

    some_side : answer ≡ Err Why.NoTrialClears → (side : Side) × Shared own entries visibility wind desired c side
    some_side q = let s = Answering.some_side (manoeuvre_of own.motion c) sides chosen answer is_answer q in (s.0, shared s.0 s.1)

    no_trial : answer ≡ Err Why.NoTrialClears → (side : Side) (m : Float) → Shared own entries visibility wind desired c side
        → Trial own entries visibility wind desired c m → Clears own entries visibility wind desired c side m → ⊥
    no_trial q side m s t all =
        let none = Answering.none_chosen (manoeuvre_of own.motion c) sides chosen answer is_answer q in
        fails side m t (no_choice sides clears_by (trials least most) up none side m (shares side s) t) all

    is_smallest : (m : RuledManoeuvre) → answer ≡ Ok m → Smallest own entries visibility wind desired c m
    is_smallest m q =
        let s = Answering.said_of (manoeuvre_of own.motion c) sides chosen answer is_answer m q in
        subst (Smallest own entries visibility wind desired c) s.is (smallest s.it (is_choice sides clears_by (trials least most) up s.it s.chosen))

    five_if : (side : Side) × Shared own entries visibility wind desired c side
        → ((side : Side) (m : Float) → Shared own entries visibility wind desired c side → Trial own entries visibility wind desired c m
        → Clears own entries visibility wind desired c side m → ⊥) → answer ≡ Err Why.NoTrialClears
    five_if s none = go chosen refl
      where
        go : (x : Option Chosen) → chosen ≡ x → answer ≡ Err Why.NoTrialClears
        go None e = Answering.five_if (manoeuvre_of own.motion c) sides chosen answer is_answer s.0 (shares s.0 s.1) e
        go (Some y) e =
            let i = is_choice sides clears_by (trials least most) up y e in
            absurd (none y.side y.magnitude.0 (shared y.side i.permitted) i.listed (is_clear y.side y.magnitude.0 i.listed y.clearance i.clear))

    on_accepted : OnAccepted own entries visibility wind desired c answer
    on_accepted = record {
      each_ruled = λ e m. (ruling_of standard (geometry_of _), Accepted.ruled own count entries wind desired c h visibility e m);
      each_approach = approaches;
      no_side = λ e side s. Answering.no_side (manoeuvre_of own.motion c) sides chosen answer is_answer e side (shares side s);
      «13_if» = λ none. Answering.thirteen_if (manoeuvre_of own.motion c) sides chosen answer is_answer (λ side t. none side (shared side t));
      some_side = some_side;
      no_trial = no_trial;
      «5_if» = five_if;
      otherwise = Answering.otherwise (manoeuvre_of own.motion c) sides chosen answer is_answer;
      smallest = is_smallest;
    }

  pub demanded : Demand3 own entries visibility wind desired c count (ruled_answer own count entries visibility wind desired c)
  unfolding ruled_answer
  demanded = record {
    refused = λ why e. ap (λ v. ruled_if_accepted v (ruled own entries visibility wind desired c)) e;
    accepted = λ e. subst (OnAccepted own entries visibility wind desired c) (sym (ap (λ v. ruled_if_accepted v (ruled own entries visibility wind desired c)) e)) (on_accepted e);
  }
