-- What the code of the ruled search owes: the search by offsets and velocities, and the answer with its clauses.
use Rattle.std.specs.Prelude.{Err, Ok}
use mathlib.Core.Path.{◌≡◌, refl, sym, ap, ◌∙◌, subst}
use mathlib.Core.Bool.{Bool, true, false, cond, ◌||◌}
use mathlib.Core.List.{List, [], ◌∷◌, map}
use Prim.Native.Nat.{ℕ}
use lib.Ieee.{Float}
use Rattle.elementary.specs.declared.error.Refusal.{Refusal}
use Rattle.elementary.specs.declared.error.Refusal.TheVariants as Why
use Rattle.motion.specs.declared.units.Distance.{Distance}
use Rattle.motion.specs.declared.units.Direction.{Direction}
use Rattle.std.specs.declared.option.Option.{Option}
use Rattle.std.specs.declared.result.Result.{Result}
use Rattle.motion.specs.Check.{check, verdict, checked}
use Rattle.situation.specs.declared.party.Party.{Party}
use Rattle.situation.specs.declared.party.Visibility.{Visibility}
use Rattle.manoeuvre.specs.declared.constraints.ManoeuvreConstraints.{ManoeuvreConstraints}
use Rattle.clearance.specs.declared.contact.Moving.{Moving}
use Rattle.clearance.specs.Clearing.{floor_of, moving}
use Rattle.motion.specs.declared.side.BySide.{BySide}
use Rattle.avoidance.specs.declared.search.Chosen.{Chosen}
use Rattle.avoidance.specs.Search.{smallest}
use Rattle.avoidance.proofs.Searched.{smallest_is}
use Rattle.clearance.specs.declared.traffic.Entry.{Entry}
use Rattle.clearance.specs.Traffic.{target_of}
use Rattle.ruled_search.specs.declared.RuledManoeuvre.{RuledManoeuvre}
use Rattle.ruled_search.specs.Ruled.{shared_sides, ruled_checks, manoeuvre_of, chosen_answer, answered, ruled, ruled_computed, ruled_if_accepted, ruled_answer}
use Rattle.ruled_search.specs.Demand3.{Demand3}
use Rattle.ruled_search.specs.Held.{HeldArguments}
use Rattle.ruled_search.proofs.Accepted as Accepted
use Rattle.ruled_search.proofs.Demanded.{demanded}

-- ---- one check: what is accepted is good, and what is refused is bad
pub is_good : (good : Bool) (why : Refusal) → Ok tt ≡ checked (check good why ∷ []) → good ≡ true
unfolding verdict
is_good true why h = refl
is_good false why h = cc

pub is_bad : (good : Bool) (why e : Refusal) → Err e ≡ checked (check good why ∷ []) → (good ≡ false) × (e ≡ why)
unfolding verdict
is_bad true why e h = cc
is_bad false why e h = (refl, cc)

-- ---- the search, with the sides that the rulings share
module _ (own : Party) (entries : List Entry) (visibility : Visibility) (wind : Option Direction) (desired : Distance) (c : ManoeuvreConstraints)
    (sides : BySide Bool) (is : sides ≡ shared_sides own visibility wind entries) where
  abbrev found : BySide Bool → Option Chosen
  found s = smallest own.motion (floor_of desired) (map moving (map target_of entries)) s c.least_alteration.0 c.most_alteration.0

  by : (b : Bool) → sides.starboard || sides.port ≡ b
      → cond b (chosen_answer (manoeuvre_of own.motion c) (found sides)) (Err Why.NoSharedSide) ≡ ruled_computed own entries visibility wind desired c
  unfolding ruled_computed answered
  by b h =
      ap (λ b. cond b (chosen_answer (manoeuvre_of own.motion c) (found sides)) (Err Why.NoSharedSide)) (sym h)
      ∙ ap (λ s. answered (manoeuvre_of own.motion c) s (found s)) is

  pub no_side : sides.starboard || sides.port ≡ false → Err Why.NoSharedSide ≡ ruled_computed own entries visibility wind desired c
  no_side h = by false h

  pub searched : sides.starboard || sides.port ≡ true → (scene : List Moving) (choice : Option Chosen) (r : Result RuledManoeuvre Refusal) (least most : Float)
      → least ≡ c.least_alteration.0 → most ≡ c.most_alteration.0 → scene ≡ map moving (map target_of entries)
      → choice ≡ smallest own.motion (floor_of desired) scene sides least most → r ≡ chosen_answer (manoeuvre_of own.motion c) choice
      → r ≡ ruled_computed own entries visibility wind desired c
  searched h scene choice r least most el em es ec er =
      er ∙ ap (chosen_answer (manoeuvre_of own.motion c)) (ec ∙ ap (λ l. smallest own.motion (floor_of desired) scene sides l most) el
      ∙ ap (λ m. smallest own.motion (floor_of desired) scene sides c.least_alteration.0 m) em
      ∙ ap (λ s. smallest own.motion (floor_of desired) s sides c.least_alteration.0 c.most_alteration.0) es)
      ∙ by true h

-- ---- the answer
module _ (own : Party) (count : ℕ) (entries : List Entry) (visibility : Visibility) (wind : Option Direction) (desired : Distance) (c : ManoeuvreConstraints)
    (k : HeldArguments own entries c) (w : Result (Unit {0}) Refusal) (is : w ≡ verdict (ruled_checks own count entries wind desired c) (Ok tt)) where
  of : (u : Result (Unit {0}) Refusal) → w ≡ u → ruled_if_accepted u (ruled own entries visibility wind desired c) ≡ ruled_answer own count entries visibility wind desired c
  unfolding ruled_answer
  of u e = ap (λ v. ruled_if_accepted v (ruled own entries visibility wind desired c)) (sym e ∙ is)

  -- on accepted arguments what is computed is what is defined
  same : w ≡ (Ok tt) → ruled_computed own entries visibility wind desired c ≡ ruled own entries visibility wind desired c
  unfolding ruled_computed ruled
  same e =
      let h = sym is ∙ e in
      ap (answered (manoeuvre_of own.motion c) (shared_sides own visibility wind entries))
      (smallest_is own.motion (map target_of entries) desired (Accepted.own_fit own count entries wind desired c h k)
      (Accepted.targets_fit own count entries wind desired c h k) (shared_sides own visibility wind entries) c.least_alteration.0 c.most_alteration.0
      (Accepted.limits own count entries wind desired c h k))

  pub accepted : w ≡ (Ok tt) → (r : Result RuledManoeuvre Refusal) → r ≡ ruled_computed own entries visibility wind desired c
      → (r ≡ ruled_answer own count entries visibility wind desired c) × Demand3 own entries visibility wind desired c count r
  accepted e r er =
      let is = er ∙ same e ∙ of (Ok tt) e in
      (is, subst (Demand3 own entries visibility wind desired c count) (sym is) (demanded own count entries visibility wind desired c k))

-- an argument that is refused decides
module _ (own : Party) (count : ℕ) (entries : List Entry) (visibility : Visibility) (wind : Option Direction) (desired : Distance) (c : ManoeuvreConstraints) where
  pub refused : (why : Refusal) → Err why ≡ verdict (ruled_checks own count entries wind desired c) (Ok tt)
      → (Err why ≡ ruled_answer own count entries visibility wind desired c) × Demand3 own entries visibility wind desired c count (Err why)
  unfolding ruled_answer
  refused why e = (
    ap (λ v. ruled_if_accepted v (ruled own entries visibility wind desired c)) e,
    record { refused = λ other h. ap (λ v. ruled_if_accepted v (Err why)) (e ∙ h); accepted = λ h. cc (e ∙ h) },
  )
