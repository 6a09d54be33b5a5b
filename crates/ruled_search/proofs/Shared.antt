-- The shared sides are those that the ruling on every contact permits.
use Rattle.std.specs.Prelude.{Bool, Err, Ok}
use mathlib.Core.Path.{◌≡◌, refl, sym, subst}
use mathlib.Core.Logic.{⊎_elim}
use mathlib.Core.List.Memᴰ
use mathlib.Core.List.{List, [], ◌∷◌, Memᴰ}
use lib.Dec.{T}
use lib.Ieee.Fits.{and_l, and_r, and_i}
use Rattle.laws.specs.Fold.{fold}
use Rattle.situation.specs.declared.party.Party.{Party}
use Rattle.colregs.specs.declared.answer.Ruling.{Ruling}
use Rattle.std.specs.declared.option.Option.{Option}
use Rattle.std.specs.declared.result.Result.{Result}
use Rattle.elementary.specs.declared.error.Refusal.{Refusal}
use Rattle.motion.specs.declared.units.Direction.{Direction}
use Rattle.situation.specs.declared.party.Visibility.{Visibility}
use Rattle.situation.specs.Situation.{standard}
use Rattle.motion.specs.declared.units.Distance.{Distance}
use Rattle.colregs.specs.Colregs.{ruling_answer}
use Rattle.manoeuvre.specs.declared.constraints.ManoeuvreConstraints.{ManoeuvreConstraints}
use Rattle.motion.specs.declared.side.Side.{Side}
use Rattle.motion.specs.declared.side.Side.TheVariants.{Starboard, Port}
use Rattle.motion.specs.declared.side.BySide.{BySide}
use Rattle.avoidance.specs.Smallest.{allows}
use Rattle.clearance.specs.declared.traffic.Entry.{Entry}
use Rattle.ruled_search.specs.Ruled.{situation_of, permitted_sides, sides_of, in_both, either, join_sides, shared_sides}
use Rattle.ruled_search.specs.Demand3.{Ruled, Shared}

both_allow : (a b : BySide Bool) (side : Side) → T (allows (in_both a b) side) → T (allows a side) × T (allows b side)
unfolding in_both
both_allow a b Starboard t = (and_l a.starboard b.starboard t, and_r a.starboard b.starboard t)
both_allow a b Port t = (and_l a.port b.port t, and_r a.port b.port t)

allow_both : (a b : BySide Bool) (side : Side) → T (allows a side) → T (allows b side) → T (allows (in_both a b) side)
unfolding in_both
allow_both a b Starboard s t = and_i a.starboard b.starboard s t
allow_both a b Port s t = and_i a.port b.port s t

either-allows : (side : Side) → T (allows either side)
either-allows Starboard = tt
either-allows Port = tt

module _ (own : Party) (visibility : Visibility) (wind : Option Direction) where
  abbrev join : BySide Bool → Entry → BySide Bool
  join = join_sides own visibility wind

  -- what is allowed after all contacts was allowed before, and by each of them
  all_allow : (s : BySide Bool) (entries : List Entry) (side : Side) → T (allows (fold join s entries) side) → T (allows s side) × ((e : Entry) → Memᴰ e entries → T (allows (sides_of own visibility wind e) side))
  unfolding fold
  all_allow s [] side t = (t, λ e m. absurd (Memᴰ.not-nil m))
  all_allow s (x ∷ entries) side t =
      let o = all_allow (join s x) entries side t in
      let b = both_allow s (sides_of own visibility wind x) side o.0 in
      (b.0, λ e m. ⊎_elim (λ is. subst (λ z. T (allows (sides_of own visibility wind z) side)) (sym is) b.1) (λ r. o.1 e r) (Memᴰ.cases_cons m))

  allow_all : (s : BySide Bool) (entries : List Entry) (side : Side) → T (allows s side) → ((e : Entry) → Memᴰ e entries → T (allows (sides_of own visibility wind e) side)) → T (allows (fold join s entries) side)
  unfolding fold
  allow_all s [] side t h = t
  allow_all s (x ∷ entries) side t h = allow_all (join s x) entries side (allow_both s (sides_of own visibility wind x) side t (h x (Memᴰ.head refl))) (λ e m. h e (Memᴰ.tail m))

  module _ (entries : List Entry) (desired : Distance) (c : ManoeuvreConstraints) where
    -- one ruling
    by_ruling : (e : Entry) (side : Side) → T (allows (sides_of own visibility wind e) side) → Ruled own entries visibility wind desired c e side
    unfolding sides_of
    by_ruling e side t = go (ruling_answer (situation_of own visibility wind e) standard) refl side t
      where
        go : (a : Result Ruling Refusal) → ruling_answer (situation_of own visibility wind e) standard ≡ a → (side : Side) → T (allows (permitted_sides a) side) → Ruled own entries visibility wind desired c e side
        go (Ok r) q Starboard t = record { ruling = r; answer = q; permits = t }
        go (Ok r) q Port t = record { ruling = r; answer = q; permits = t }
        go (Err why) q Starboard t = absurd t
        go (Err why) q Port t = absurd t

    of_ruling : (e : Entry) (side : Side) → Ruled own entries visibility wind desired c e side → T (allows (sides_of own visibility wind e) side)
    unfolding sides_of
    of_ruling e Starboard r = subst (λ a. T (permitted_sides a).starboard) (sym r.answer) r.permits
    of_ruling e Port r = subst (λ a. T (permitted_sides a).port) (sym r.answer) r.permits

    -- all of them
    pub is_shared : (side : Side) → T (allows (shared_sides own visibility wind entries) side) → Shared own entries visibility wind desired c side
    unfolding shared_sides
    is_shared side t e m = by_ruling e side ((all_allow either entries side t).1 e m)

    pub shared_allows : (side : Side) → Shared own entries visibility wind desired c side → T (allows (shared_sides own visibility wind entries) side)
    unfolding shared_sides
    shared_allows side s = allow_all either entries side (either-allows side) (λ e m. of_ruling e side (s e m))
