-- Beside the ruled search's answer: the slowing search's turn is no larger, and where it is as large its answer is that one at full speed.
use Rattle.std.specs.Prelude.{None, Some, Err, Ok}
use Rattle.std.specs.Option.{option_map}
use mathlib.Core.Path.{◌≡◌, refl, sym, ap, ◌∙◌, subst}
use mathlib.Core.Bool.{Bool, true, not}
use mathlib.Core.Logic.{⊎_elim}
use mathlib.Core.List.{List, ◌∷◌, map, Memᴰ}
use Prim.Native.Nat.{ℕ}
use lib.Dec.{T}
use lib.Ieee.{Float, eq, lt, le, is_nan}
use Rattle.laws.specs.Ascending.{Ascending}
use Rattle.laws.specs.First.{InOrder}
use Rattle.laws.proofs.First.{Below, ascending_in_order, same_member, least, none, decides}
use Rattle.laws.proofs.Order.{le-or-lt}
use Rattle.elementary.specs.declared.error.Refusal.{Refusal}
use Rattle.motion.specs.declared.units.Distance.{Distance}
use Rattle.motion.specs.declared.units.Direction.{Direction}
use Rattle.motion.specs.declared.units.Speed.{Speed}
use Rattle.motion.specs.declared.side.Side.{Side}
use Rattle.motion.specs.declared.side.BySide.{BySide}
use Rattle.motion.specs.Check.{verdict}
use Rattle.std.specs.declared.option.Option.{Option}
use Rattle.std.specs.declared.result.Result.{Result}
use Rattle.situation.specs.declared.party.Party.{Party}
use Rattle.situation.specs.declared.party.Visibility.{Visibility}
use Rattle.manoeuvre.specs.declared.constraints.ManoeuvreConstraints.{ManoeuvreConstraints}
use Rattle.manoeuvre.specs.Trials.{trials}
use Rattle.clearance.specs.declared.Clearance.{Clearance}
use Rattle.clearance.specs.declared.traffic.Entry.{Entry}
use Rattle.clearance.specs.Traffic.{target_of}
use Rattle.avoidance.specs.declared.search.Chosen.{Chosen}
use Rattle.avoidance.specs.Search.{both, between, trial_clears}
use Rattle.avoidance.specs.Search as Course
use Rattle.avoidance.specs.Fit.{FitVessel}
use Rattle.avoidance.specs.Smallest.{IsChoice}
use Rattle.avoidance.proofs.Chosen.{of_both, is_choice}
use Rattle.avoidance.proofs.Prepared.{no_nan}
use Rattle.avoidance.proofs.Searched.{trial-small}
use Rattle.avoidance.proofs.Smallest.{between_is_choice}
use Rattle.ruled_search.specs.declared.RuledManoeuvre.{RuledManoeuvre}
use Rattle.ruled_search.specs.Ruled.{shared_sides, ruled_checks, chosen_answer, answered, ruled, ruled_if_accepted, ruled_answer}
use Rattle.ruled_search.specs.Ruled as Ruled
use Rattle.ruled_search.specs.Held.{HeldArguments}
use Rattle.ruled_search.proofs.Accepted as Accepted
use Rattle.ruled_search.proofs.Answering as Answering
use Rattle.slowing_search.specs.declared.pairs.Pair.{Pair}
use Rattle.slowing_search.specs.Slowing.{down_from, pair_clears, with_speed, at_pair, fastest, choice, manoeuvre_of}
use Rattle.slowing_search.specs.Slowing.{slowing, slowing_if_accepted, slowing_answer}
use Rattle.slowing_search.specs.Pairs.{NoLarger, BesideRuled}
use Rattle.slowing_search.proofs.Chosen.{IsPair, is_pair}
use Rattle.slowing_search.proofs.Demanded as Demanded
use Rattle.slowing_search.proofs.Speeds.{Faster, full}

-- ---- a choice at own speed alone, and one that has slower speeds too
abbrev pair_in : Pair → Option Pair → Pair
pair_in other None = other
pair_in other (Some p) = p

module _ (sides : BySide Bool) (clears : Speed → Side → Float → Option Clearance) (own : Speed) (rest : List Speed) (slower : InOrder Faster (own ∷ rest))
    (one : (s t : Speed) → Memᴰ s (own ∷ rest) → Memᴰ t (own ∷ rest) → T (eq s.0 t.0) → s ≡ t) (ms : List Float) (up : Ascending ms)
    (y : Chosen) (e : Course.choice sides (clears own) ms ≡ Some y) where
  abbrev speeds : List Speed
  speeds = own ∷ rest

  it : IsChoice sides (clears own) ms y
  it = is_choice sides (clears own) ms up y e

  -- at its magnitude its pair comes first
  comes_first : fastest sides clears speeds y.magnitude.0 ≡ Some (with_speed own y)
  unfolding fastest at_pair between
  comes_first =
      let l = least (both sides (clears own)) Below ms (ascending_in_order ms up) y (between_is_choice sides (clears own) ms up ∙ e) in
      let at = ap (both sides (clears own)) (of_both sides (clears own) l.it y l.answer).magnitude ∙ l.answer in
      decides (at_pair sides clears y.magnitude.0) own rest (with_speed own y) (ap (option_map (with_speed own)) at)

  -- so that there is a pair,
  pub some_pair : (p : Pair) × (choice sides clears speeds ms ≡ Some p)
  unfolding choice
  some_pair = go (choice sides clears speeds ms) refl
    where
      go : (o : Option Pair) → choice sides clears speeds ms ≡ o → (p : Pair) × (choice sides clears speeds ms ≡ Some p)
      go None q = let no : Some (with_speed own y) ≡ None = sym comes_first ∙ none (fastest sides clears speeds) ms q y.magnitude.0 it.listed in cc
      go (Some p) q = (p, q)

  module _ (p : Pair) (q : choice sides clears speeds ms ≡ Some p) where
    pub pair : IsPair sides clears speeds ms p
    pair = is_pair sides clears speeds slower one ms up p q

    -- its turn is no larger,
    pub not_larger : T (lt y.magnitude.0 p.trial.magnitude.0) → ⊥
    not_larger l = let no : Some y.clearance ≡ None = sym it.clear ∙ pair.least y.side y.magnitude.0 own it.permitted it.listed (Memᴰ.head refl) l in cc

    -- and where it is as large it is that pair
    pub as_large : T (eq p.trial.magnitude.0 y.magnitude.0) → p ≡ with_speed own y
    as_large l =
        let same = same_member ms up p.trial.magnitude.0 y.magnitude.0 pair.listed it.listed l in
        ap (pair_in p) (sym pair.of_magnitude ∙ ap (fastest sides clears speeds) same ∙ comes_first)

module _ (own : Party) (count : ℕ) (entries : List Entry) (visibility : Visibility) (wind : Option Direction) (desired : Distance) (c : ManoeuvreConstraints)
    (k : HeldArguments own entries c) where
  module _ (h : verdict (ruled_checks own count entries wind desired c) (Ok tt) ≡ (Ok tt)) where
    abbrev ms : List Float
    ms = trials c.least_alteration.0 c.most_alteration.0

    abbrev clears_by : Speed → Side → Float → Option Clearance
    clears_by = pair_clears own.motion (map target_of entries) desired

    abbrev sides : BySide Bool
    sides = shared_sides own visibility wind entries

    own_fit : FitVessel own.motion
    own_fit = Accepted.own_fit own count entries wind desired c h k

    at_full : down_from own.motion.speed 8 ≡ own.motion.speed ∷ down_from own.motion.speed 7
    unfolding down_from
    at_full = ap (λ s. s ∷ down_from own.motion.speed 7) (full own.motion.speed own_fit.held.speed own_fit.speed)

    up : Ascending ms
    up = Demanded.up own count entries visibility wind desired c k h

    slower : InOrder Faster (own.motion.speed ∷ down_from own.motion.speed 7)
    slower = subst (InOrder Faster) at_full (Demanded.slower own count entries visibility wind desired c k h)

    one : (s t : Speed) → Memᴰ s (own.motion.speed ∷ down_from own.motion.speed 7) → Memᴰ t (own.motion.speed ∷ down_from own.motion.speed 7)
        → T (eq s.0 t.0) → s ≡ t
    one = subst (λ l. (s t : Speed) → Memᴰ s l → Memᴰ t l → T (eq s.0 t.0) → s ≡ t) at_full (Demanded.one own count entries visibility wind desired c k h)

    number : (m : Float) → Memᴰ m ms → T (not (is_nan m))
    number m i = no_nan m (trial-small c.least_alteration.0 c.most_alteration.0 (Accepted.limits own count entries wind desired c h k) m i).number

    no_larger : (m : RuledManoeuvre) → ruled own entries visibility wind desired c ≡ Ok m
        → NoLarger own entries visibility wind desired c m (slowing own entries visibility wind desired c)
    unfolding ruled answered Course.search pair_clears trial_clears
    no_larger m e =
        let i = Answering.said_of (Ruled.manoeuvre_of own.motion c) sides (Course.choice sides (clears_by own.motion.speed) ms) _ refl m e in
        let lower = down_from own.motion.speed 7 in
        let some = some_pair sides clears_by own.motion.speed lower slower one ms up i.it i.chosen in
        let p = some.0 in
        let pair = pair sides clears_by own.motion.speed lower slower one ms up i.it i.chosen p some.1 in
        let y = is_choice sides (clears_by own.motion.speed) ms up i.it i.chosen in
        record {
          it = manoeuvre_of own.motion c p;
          answered =
              Answering.by_sides (manoeuvre_of own.motion c) sides _ _ (Demanded.is_answer own count entries visibility wind desired c k h) true i.some_side
              ∙ ap (λ l. chosen_answer (manoeuvre_of own.motion c) (choice sides clears_by l ms)) at_full
              ∙ ap (chosen_answer (manoeuvre_of own.motion c)) some.1;
          no_larger = subst (λ m. T (le p.trial.magnitude.0 m.magnitude.0)) i.is
              (⊎_elim (λ l. l) (λ l. absurd (not_larger sides clears_by own.motion.speed lower slower one ms up i.it i.chosen p some.1 l))
              (le-or-lt p.trial.magnitude.0 i.it.magnitude.0 (number p.trial.magnitude.0 pair.listed) (number i.it.magnitude.0 y.listed)));
          as_large = λ l.
              ap (manoeuvre_of own.motion c) (as_large sides clears_by own.motion.speed lower slower one ms up i.it i.chosen p some.1
              (subst (λ m. T (eq p.trial.magnitude.0 m.magnitude.0)) (sym i.is) l))
              ∙ ap (λ m. record { turn = m; speed = own.motion.speed }) i.is;
        }

  pub beside_ruled : BesideRuled own entries visibility wind desired c count (slowing_answer own count entries visibility wind desired c)
  unfolding slowing_answer ruled_answer
  beside_ruled m e = go (verdict (ruled_checks own count entries wind desired c) (Ok tt)) refl e
    where
      go : (v : Result (Unit {0}) Refusal) → verdict (ruled_checks own count entries wind desired c) (Ok tt) ≡ v
          → ruled_if_accepted v (ruled own entries visibility wind desired c) ≡ Ok m
          → NoLarger own entries visibility wind desired c m (slowing_if_accepted v (slowing own entries visibility wind desired c))
      go (Ok tt) h e = no_larger h m e
      go (Err why) h e = cc
