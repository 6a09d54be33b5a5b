-- Request R-2 changes no answer of the ruled search: every ruling permits what it did.
use Rattle.std.specs.Prelude.{Bool, false, map, Err, Ok}
use mathlib.Core.Path.{◌≡◌, refl, sym, ap, ◌∙◌}
use Prim.Native.Nat.{ℕ}
use mathlib.Core.List.{List, [], ◌∷◌}
use Rattle.laws.specs.Fold.{fold}
use Rattle.std.specs.declared.option.Option.{Option}
use Rattle.std.specs.declared.result.Result.{Result}
use Rattle.elementary.specs.declared.error.Refusal.{Refusal}
use Rattle.motion.specs.Check.{verdict}
use Rattle.motion.specs.declared.units.Direction.{Direction}
use Rattle.motion.specs.declared.units.Distance.{Distance}
use Rattle.motion.specs.declared.side.BySide.{BySide}
use Rattle.situation.specs.declared.party.Party.{Party}
use Rattle.situation.specs.declared.party.Visibility.{Visibility}
use Rattle.situation.specs.Situation.{standard}
use Rattle.colregs.specs.declared.answer.PermittedManoeuvre.{PermittedManoeuvre}
use Rattle.colregs.specs.declared.answer.Ruling.{Ruling}
use Rattle.colregs.specs.Colregs.{ruling_answer}
use Rattle.colregs.specs.Before.{permits}
use Rattle.colregs.specs.Before as Rulings
use Rattle.colregs.proofs.ToWindward.{to_windward}
use Rattle.manoeuvre.specs.declared.constraints.ManoeuvreConstraints.{ManoeuvreConstraints}
use Rattle.avoidance.specs.Search.{search}
use Rattle.clearance.specs.declared.traffic.Entry.{Entry}
use Rattle.clearance.specs.Traffic.{target_of}
use Rattle.ruled_search.specs.Ruled.{situation_of, permitted_sides, sides_of, in_both, either, join_sides, shared_sides, ruled_checks, manoeuvre_of, answered}
use Rattle.ruled_search.specs.Ruled.{ruled_if_accepted, ruled_answer, ruled}
use Rattle.ruled_search.specs.Before as Before

-- the sides come from what a ruling permits
abbrev sides_by : Result PermittedManoeuvre Refusal → BySide Bool
sides_by (Ok m) = record { starboard = m.starboard; port = m.port }
sides_by (Err why) = record { starboard = false; port = false }

by_permits : (a : Result Ruling Refusal) → permitted_sides a ≡ sides_by (permits a)
by_permits (Ok r) = refl
by_permits (Err why) = refl

module _ (own : Party) (visibility : Visibility) (wind : Option Direction) where
  same_sides : (e : Entry) → sides_of own visibility wind e ≡ Before.sides_of own visibility wind e
  unfolding sides_of Before.sides_of
  same_sides e =
      let s = situation_of own visibility wind e in
      by_permits (ruling_answer s standard) ∙ ap sides_by (to_windward s standard).permitted ∙ sym (by_permits (Rulings.ruling_answer s standard))

  same_folds : (s : BySide Bool) (entries : List Entry) → fold (join_sides own visibility wind) s entries
      ≡ fold (Before.join_sides own visibility wind) s entries
  unfolding fold
  same_folds s [] = refl
  same_folds s (e ∷ entries) =
      ap (λ t. fold (join_sides own visibility wind) (in_both s t) entries) (same_sides e)
      ∙ same_folds (in_both s (Before.sides_of own visibility wind e)) entries

  same_shared : (entries : List Entry) → shared_sides own visibility wind entries ≡ Before.shared_sides own visibility wind entries
  unfolding shared_sides Before.shared_sides
  same_shared entries = same_folds either entries

  pub as_before : (count : ℕ) (entries : List Entry) (desired : Distance) (c : ManoeuvreConstraints)
      → ruled_answer own count entries visibility wind desired c ≡ Before.ruled_answer own count entries visibility wind desired c
  unfolding ruled_answer Before.ruled_answer ruled Before.ruled
  as_before count entries desired c =
      ap (λ sides. ruled_if_accepted (verdict (ruled_checks own count entries wind desired c) (Ok tt))
      (answered (manoeuvre_of own.motion c) sides (search own.motion (map target_of entries) desired sides c.least_alteration.0 c.most_alteration.0))) (same_shared entries)
