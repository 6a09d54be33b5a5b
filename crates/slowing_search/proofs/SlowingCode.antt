-- What the code of the slowing search owes: the search by offsets and velocities, over all eight speeds, and the answer with its clauses.
use Rattle.std.specs.Prelude.{Err, Ok}
use mathlib.Core.Path.{◌≡◌, sym, ap, ◌∙◌, subst}
use mathlib.Core.Bool.{Bool, true, false, cond, ◌||◌}
use mathlib.Core.List.{List, map}
use Prim.Native.Nat.{ℕ}
use Rattle.elementary.specs.declared.error.Refusal.{Refusal}
use Rattle.elementary.specs.declared.error.Refusal.TheVariants as Why
use Rattle.motion.specs.declared.units.Distance.{Distance}
use Rattle.motion.specs.declared.units.Direction.{Direction}
use Rattle.motion.specs.declared.side.BySide.{BySide}
use Rattle.motion.specs.Check.{verdict}
use Rattle.std.specs.declared.option.Option.{Option}
use Rattle.std.specs.declared.result.Result.{Result}
use Rattle.situation.specs.declared.party.Party.{Party}
use Rattle.situation.specs.declared.party.Visibility.{Visibility}
use Rattle.manoeuvre.specs.declared.constraints.ManoeuvreConstraints.{ManoeuvreConstraints}
use Rattle.clearance.specs.Clearing.{floor_of, moving}
use Rattle.clearance.specs.declared.traffic.Entry.{Entry}
use Rattle.clearance.specs.Traffic.{target_of}
use Rattle.ruled_search.specs.Ruled.{shared_sides, ruled_checks, chosen_answer, answered, ruled, ruled_if_accepted, ruled_answer}
use Rattle.ruled_search.specs.Held.{HeldArguments}
use Rattle.ruled_search.proofs.Accepted as Accepted
use Rattle.slowing_search.specs.declared.SlowingManoeuvre.{SlowingManoeuvre}
use Rattle.slowing_search.specs.declared.pairs.Pair.{Pair}
use Rattle.slowing_search.specs.Computed.{smallest}
use Rattle.slowing_search.specs.Slowing.{trial_speeds, search, manoeuvre_of, slowing, slowing_if_accepted, slowing_answer}
use Rattle.slowing_search.specs.Pairs.{Pairs, BesideRuled}
use Rattle.slowing_search.proofs.Beside.{beside_ruled}
use Rattle.slowing_search.proofs.Computed.{smallest_is}
use Rattle.slowing_search.proofs.Demanded.{demanded}
use Rattle.slowing_search.proofs.Permitted as Permitted

module _ (own : Party) (count : ℕ) (entries : List Entry) (visibility : Visibility) (wind : Option Direction)
    (desired : Distance) (c : ManoeuvreConstraints) where
  -- what an answer owes
  pub record Owed (r : Result SlowingManoeuvre Refusal) : Type 0 where
    pub is : r ≡ slowing_answer own count entries visibility wind desired c
    pub pairs : Pairs own entries visibility wind desired c count r
    pub beside : BesideRuled own entries visibility wind desired c count r

  -- an argument that is refused decides
  pub refused : (why : Refusal) → Err why ≡ verdict (ruled_checks own count entries wind desired c) (Ok tt) → Owed (Err why)
  unfolding slowing_answer ruled_answer
  refused why e = record {
    is = ap (λ v. slowing_if_accepted v (slowing own entries visibility wind desired c)) e;
    pairs = record { refused = λ other h. ap (λ v. slowing_if_accepted v (Err why)) (e ∙ h); accepted = λ h. cc (e ∙ h) };
    beside = λ m q. let no : Err why ≡ Ok m = ap (λ v. ruled_if_accepted v (ruled own entries visibility wind desired c)) e ∙ q in cc;
  }

  module _ (k : HeldArguments own entries c) (h : Ok tt ≡ verdict (ruled_checks own count entries wind desired c) (Ok tt)) where
    abbrev sides : BySide Bool
    sides = shared_sides own visibility wind entries

    -- what is computed with sides s
    abbrev pub computed : BySide Bool → Option Pair
    computed s =
        smallest own.motion (floor_of desired) (map moving (map target_of entries)) s (trial_speeds own.motion.speed true)
        c.least_alteration.0 c.most_alteration.0

    same : answered (manoeuvre_of own.motion c) sides (computed sides) ≡ slowing own entries visibility wind desired c
    unfolding slowing trial_speeds
    same =
        ap (answered (manoeuvre_of own.motion c) sides)
        (smallest_is own.motion (map target_of entries) desired (Accepted.own_fit own count entries wind desired c (sym h) k)
        (Accepted.targets_fit own count entries wind desired c (sym h) k) sides c.least_alteration.0 c.most_alteration.0
        (Accepted.limits own count entries wind desired c (sym h) k)
        ∙ ap (λ l. search own.motion (map target_of entries) desired sides l c.least_alteration.0 c.most_alteration.0)
        (sym (Permitted.all_eight own count entries visibility wind desired c (sym h))))

    owed : (r : Result SlowingManoeuvre Refusal) → r ≡ answered (manoeuvre_of own.motion c) sides (computed sides) → Owed r
    unfolding slowing_answer
    owed r e =
        let is = e ∙ same ∙ ap (λ v. slowing_if_accepted v (slowing own entries visibility wind desired c)) h in
        record {
          is = is;
          pairs = subst (Pairs own entries visibility wind desired c count) (sym is) (demanded own count entries visibility wind desired c k);
          beside = subst (BesideRuled own entries visibility wind desired c count) (sym is) (beside_ruled own count entries visibility wind desired c k);
        }

    -- with sides that are the shared ones: none of them, or one
    module _ (s : BySide Bool) (is : s ≡ shared_sides own visibility wind entries) where
      by : (b : Bool) → s.starboard || s.port ≡ b
          → cond b (chosen_answer (manoeuvre_of own.motion c) (computed s)) (Err Why.NoSharedSide) ≡ answered (manoeuvre_of own.motion c) sides (computed sides)
      unfolding answered
      by b e =
          ap (λ b. cond b (chosen_answer (manoeuvre_of own.motion c) (computed s)) (Err Why.NoSharedSide)) (sym e)
          ∙ ap (λ s. answered (manoeuvre_of own.motion c) s (computed s)) is

      pub no_side : s.starboard || s.port ≡ false → (r : Result SlowingManoeuvre Refusal) → r ≡ Err Why.NoSharedSide → Owed r
      no_side e r q = owed r (q ∙ by false e)

      pub searched : s.starboard || s.port ≡ true → (r : Result SlowingManoeuvre Refusal) → r ≡ chosen_answer (manoeuvre_of own.motion c) (computed s) → Owed r
      searched e r q = owed r (q ∙ by true e)
