-- The definition of the slowing search meets what request R-3 states.
use Rattle.std.specs.Prelude.{None, Some, Err, Ok}
use mathlib.Core.Path.{◌≡◌, refl, sym, ap, subst}
use mathlib.Core.Bool.{Bool}
use mathlib.Core.List.{List, map, Memᴰ}
use Prim.Native.Nat.{ℕ}
use lib.Dec.{T, lit≤}
use lib.Ieee.{Float, eq}
use Rattle.laws.specs.First.{InOrder}
use Rattle.laws.specs.Ascending.{Ascending}
use Rattle.elementary.specs.declared.error.Refusal.{Refusal}
use Rattle.elementary.specs.declared.error.Refusal.TheVariants as Why
use Rattle.motion.specs.declared.units.Distance.{Distance}
use Rattle.motion.specs.declared.units.Direction.{Direction}
use Rattle.motion.specs.declared.units.Speed.{Speed}
use Rattle.motion.specs.declared.side.Side.{Side}
use Rattle.motion.specs.declared.side.Side.TheVariants.{Starboard}
use Rattle.motion.specs.declared.side.BySide.{BySide}
use Rattle.motion.specs.Check.{verdict}
use Rattle.std.specs.declared.option.Option.{Option}
use Rattle.std.specs.declared.result.Result.{Result}
use Rattle.relative_motion.specs.declared.approach.Cpa.{Cpa}
use Rattle.relative_motion.specs.declared.approach.Track.{Track}
use Rattle.relative_motion.specs.Approach.{approach}
use Rattle.situation.specs.declared.party.Party.{Party}
use Rattle.situation.specs.declared.party.Visibility.{Visibility}
use Rattle.manoeuvre.specs.declared.constraints.ManoeuvreConstraints.{ManoeuvreConstraints}
use Rattle.manoeuvre.specs.Trials.{trials}
use Rattle.manoeuvre.proofs.Climbing.{is_trial_list}
use Rattle.manoeuvre.proofs.Listed.{ascending}
use Rattle.clearance.specs.declared.Clearance.{Clearance}
use Rattle.clearance.specs.Clearing.{altered, clears}
use Rattle.clearance.specs.declared.traffic.Entry.{Entry}
use Rattle.clearance.specs.Traffic.{target_of}
use Rattle.avoidance.specs.Search.{signed, trial_clears}
use Rattle.avoidance.specs.Fit.{FitVessel, FitTarget}
use Rattle.avoidance.specs.Smallest.{allows}
use Rattle.avoidance.proofs.Prepared.{altered_fit}
use Rattle.avoidance.proofs.Searched.{trial-small, signed-small}
use Rattle.ruled_search.specs.Ruled.{shared_sides, ruled_checks, answered}
use Rattle.ruled_search.specs.Demand3.{approach_to}
use Rattle.ruled_search.specs.Held.{HeldArguments}
use Rattle.ruled_search.proofs.Accepted as Accepted
use Rattle.ruled_search.proofs.Contacts as Contacts
use Rattle.ruled_search.proofs.Answering as Answering
use Rattle.ruled_search.proofs.Shared.{is_shared, shared_allows}
use Rattle.slowing_search.specs.declared.SlowingManoeuvre.{SlowingManoeuvre}
use Rattle.slowing_search.specs.declared.pairs.Pair.{Pair}
use Rattle.slowing_search.specs.Slowing.{down_from, at_speed, pair_clears, choice, search, manoeuvre_of}
use Rattle.slowing_search.specs.Slowing.{slowing, slowing_if_accepted, slowing_answer}
use Rattle.slowing_search.specs.Pairs.{SharedSide, TrialSpeed, ClearsAll, SmallestPair, SomePair, OnAccepted, Pairs}
use Rattle.slowing_search.proofs.Chosen.{IsPair, is_pair, no_pair}
use Rattle.slowing_search.proofs.Permitted as Permitted
use Rattle.slowing_search.proofs.Speeds.{Faster, part_of_member, speeds_in_order, same_speed, slowed_fit}

module _ (own : Party) (count : ℕ) (entries : List Entry) (visibility : Visibility) (wind : Option Direction) (desired : Distance) (c : ManoeuvreConstraints)
    (k : HeldArguments own entries c) where
  module _ (h : verdict (ruled_checks own count entries wind desired c) (Ok tt) ≡ (Ok tt)) where
    abbrev pub ms : List Float
    ms = trials c.least_alteration.0 c.most_alteration.0

    abbrev pub speeds : List Speed
    speeds = down_from own.motion.speed 8

    abbrev pub sides : BySide Bool
    sides = shared_sides own visibility wind entries

    abbrev pub clears_by : Speed → Side → Float → Option Clearance
    clears_by = pair_clears own.motion (map target_of entries) desired

    own_fit : FitVessel own.motion
    own_fit = Accepted.own_fit own count entries wind desired c h k

    each : (e : Entry) → Memᴰ e entries → FitTarget (target_of e)
    each = Accepted.entry_fit own count entries wind desired c h k

    pub up : Ascending ms
    up =
        ascending c.least_alteration.0 c.most_alteration.0
        (is_trial_list c.least_alteration.0 c.most_alteration.0 (Accepted.limits own count entries wind desired c h k))

    pub one : (s t : Speed) → Memᴰ s speeds → Memᴰ t speeds → T (eq s.0 t.0) → s ≡ t
    one = same_speed own.motion.speed own_fit.held.speed own_fit.speed 8 (lit≤ tt)

    pub slower : InOrder Faster speeds
    slower = speeds_in_order own.motion.speed own_fit.held.speed own_fit.speed 8 (lit≤ tt)

    -- own craft on a pair's course and speed
    module _ (side : Side) (m : Float) (t : Memᴰ m ms) (s : Speed) (j : Memᴰ s speeds) where
      fit : FitVessel (altered (at_speed own.motion s) (signed side m))
      fit =
          let p = part_of_member own.motion.speed 8 s j in
          altered_fit (at_speed own.motion s) (signed side m)
          (subst (λ s. FitVessel (at_speed own.motion s)) (sym p.3) (slowed_fit own.motion p.0 p.2 own_fit))
          (signed-small side m (trial-small c.least_alteration.0 c.most_alteration.0 (Accepted.limits own count entries wind desired c h k) m t))

      approaches : (e : Entry) → Memᴰ e entries → (a : Track Cpa) × (approach_to (altered (at_speed own.motion s) (signed side m)) e ≡ Ok a)
      approaches e i =
          let v = altered (at_speed own.motion s) (signed side m) in
          (approach v e.contact e.target.motion, Contacts.answers desired v e fit (each e i))

      fails : clears_by s side m ≡ None → ClearsAll own entries visibility wind desired c side m s → ⊥
      unfolding pair_clears trial_clears clears
      fails e all = Contacts.not_clear desired (altered (at_speed own.motion s) (signed side m)) fit entries each e all

      is_clear : (p : Clearance) → clears_by s side m ≡ Some p → ClearsAll own entries visibility wind desired c side m s
      unfolding pair_clears trial_clears clears
      is_clear p e = Contacts.all_clear desired (altered (at_speed own.motion s) (signed side m)) fit entries each p e

    shares : (side : Side) → SharedSide own entries visibility wind desired c side → T (allows sides side)
    shares = shared_allows own visibility wind entries desired c

    shared : (side : Side) → T (allows sides side) → SharedSide own entries visibility wind desired c side
    shared = is_shared own visibility wind entries desired c

    member : (s : Speed) → TrialSpeed own entries visibility wind desired c s → Memᴰ s speeds
    member = Permitted.is_member own count entries visibility wind desired c h

    -- ---- what is chosen is the smallest
    smallest : (p : Pair) → IsPair sides clears_by speeds ms p → SmallestPair own entries visibility wind desired c (manoeuvre_of own.motion c p)
    unfolding pair_clears trial_clears clears altered
    smallest p i =
        let m = p.trial.magnitude.0 in
        let v = altered (at_speed own.motion p.speed) (signed p.trial.side m) in
        let f = fit p.trial.side m i.listed p.speed i.speed in
        record {
          listed = i.listed;
          speed = Permitted.is_trial_speed own count entries visibility wind desired c h p.speed i.speed;
          clear = is_clear p.trial.side m i.listed p.speed i.speed p.trial.clearance i.clear;
          permitted = shared p.trial.side i.permitted;
          least = λ side x s a t j q all. let j = member s j in fails side x t s j (i.least side x s (shares side a) t j q) all;
          fastest = λ side x s a t j q r all. let j = member s j in fails side x t s j (i.faster side x s (shares side a) t j q r) all;
          starboard = λ x s a t j q r all. let j = member s j in i.starboard x s (shares Starboard a) t j q r (λ no. fails Starboard x t s j no all);
          course = refl;
          passing = Contacts.at_most desired v f entries each p.trial.clearance i.clear;
          free = λ none. ap (λ p. p.distance.0) (Contacts.free desired v f entries each p.trial.clearance i.clear none);
          limiting = λ some. Contacts.first desired v f entries each p.trial.clearance i.clear some;
          nobody = λ none. ap (λ p. p.limiting) (Contacts.free desired v f entries each p.trial.clearance i.clear none);
          turn_time = refl;
        }

    -- ---- the answer
    abbrev pub chosen : Option Pair
    chosen = choice sides clears_by speeds ms

    abbrev answer : Result SlowingManoeuvre Refusal
    answer = slowing own entries visibility wind desired c

    pub is_answer : answer ≡ answered (manoeuvre_of own.motion c) sides chosen
    unfolding slowing search
    is_answer =
        ap (λ l. answered (manoeuvre_of own.motion c) sides (choice sides clears_by l ms)) (Permitted.all_eight own count entries visibility wind desired c h)

    some_side : answer ≡ Err Why.NoTrialClears → (side : Side) × SharedSide own entries visibility wind desired c side
    some_side q = let s = Answering.some_side (manoeuvre_of own.motion c) sides chosen answer is_answer q in (s.0, shared s.0 s.1)

    none_clears : answer ≡ Err Why.NoTrialClears → SomePair own entries visibility wind desired c → ⊥
    none_clears q p =
        let none = Answering.none_chosen (manoeuvre_of own.motion c) sides chosen answer is_answer q in
        let j = member p.speed p.at_speed in
        fails p.side p.magnitude p.listed p.speed j
        (no_pair sides clears_by speeds slower one ms up none p.side p.magnitude p.speed (shares p.side p.shared) p.listed j) p.clear

    is_smallest : (m : SlowingManoeuvre) → answer ≡ Ok m → SmallestPair own entries visibility wind desired c m
    is_smallest m q =
        let s = Answering.said_of (manoeuvre_of own.motion c) sides chosen answer is_answer m q in
        subst (SmallestPair own entries visibility wind desired c) s.is (smallest s.it (is_pair sides clears_by speeds slower one ms up s.it s.chosen))

    five_if : (side : Side) × SharedSide own entries visibility wind desired c side → (SomePair own entries visibility wind desired c → ⊥)
        → answer ≡ Err Why.NoTrialClears
    five_if s none = go chosen refl
      where
        go : (x : Option Pair) → chosen ≡ x → answer ≡ Err Why.NoTrialClears
        go None e = Answering.five_if (manoeuvre_of own.motion c) sides chosen answer is_answer s.0 (shares s.0 s.1) e
        go (Some y) e =
            let i = is_pair sides clears_by speeds slower one ms up y e in
            absurd (none (record {
              side = y.trial.side;
              magnitude = y.trial.magnitude.0;
              speed = y.speed;
              shared = shared y.trial.side i.permitted;
              listed = i.listed;
              at_speed = Permitted.is_trial_speed own count entries visibility wind desired c h y.speed i.speed;
              clear = is_clear y.trial.side y.trial.magnitude.0 i.listed y.speed i.speed y.trial.clearance i.clear;
            }))

    on_accepted : OnAccepted own entries visibility wind desired c answer
    on_accepted = record {
      each_permits = Permitted.permits own count entries visibility wind desired c h;
      each_approach = λ side m s t j. approaches side m t s (member s j);
      no_side = λ e side s. Answering.no_side (manoeuvre_of own.motion c) sides chosen answer is_answer e side (shares side s);
      «13_if» = λ none. Answering.thirteen_if (manoeuvre_of own.motion c) sides chosen answer is_answer (λ side t. none side (shared side t));
      some_side = some_side;
      no_pair = none_clears;
      «5_if» = five_if;
      otherwise = Answering.otherwise (manoeuvre_of own.motion c) sides chosen answer is_answer;
      smallest = is_smallest;
    }

  pub demanded : Pairs own entries visibility wind desired c count (slowing_answer own count entries visibility wind desired c)
  unfolding slowing_answer
  demanded = record {
    refused = λ why e. ap (λ v. slowing_if_accepted v (slowing own entries visibility wind desired c)) e;
    accepted = λ e.
        subst (OnAccepted own entries visibility wind desired c) (sym (ap (λ v. slowing_if_accepted v (slowing own entries visibility wind desired c)) e))
        (on_accepted e);
  }
