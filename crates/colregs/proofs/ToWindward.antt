-- Request R-2: where its conditions hold the ruling is the former one with the target on the starboard
-- tack, elsewhere the former one, and everywhere it permits what it did. A decision hangs on the
-- visibility, the encounter, both categories and the wind: all are tried.
use Rattle.std.specs.Prelude.{Err, Ok}
use mathlib.Core.Path.{◌≡◌, refl, sym, ap, ◌∙◌, subst}
use mathlib.Core.Bool.{Bool, true, false, ◌&&◌, not, cond}
use Prim.Native.Nat.{ℕ}
use mathlib.Core.List.{◌∷◌, ◌++◌}
use lib.Dec.{T, eqb, eqb→eq}
use mathlib.Core.Logic.{inl, inr}
use lib.Ieee.Fits.{and_l, and_r}
use lib.Ieee.Bits.{is_true, is_false}
use Rattle.std.proofs.lemmas.Bool.{cond-true, cond-false}
use Rattle.laws.proofs.Bools.{either}
use Rattle.std.specs.declared.result.Result.{Result}
use Rattle.elementary.specs.declared.error.Refusal.{Refusal}
use Rattle.motion.specs.Check.{verdict}
use Rattle.situation.specs.declared.party.Tack.{Tack}
use Rattle.situation.specs.declared.party.VesselCategory.{VesselCategory}
use Rattle.situation.specs.declared.party.VesselCategory.TheVariants.{Sailing}
use Rattle.situation.specs.declared.party.Visibility.{Visibility}
use Rattle.situation.specs.declared.party.Situation.{Situation}
use Rattle.situation.specs.declared.config.ColregsConfig.{ColregsConfig}
use Rattle.situation.specs.Situation.{heading}
use Rattle.situation.specs.Arguments.{party_checks, situation_checks, config_checks}
use Rattle.colregs.specs.declared.geometry.Wind.{Wind}
use Rattle.colregs.specs.declared.geometry.Geometry.{Geometry}
use Rattle.colregs.specs.declared.answer.Encounter.{Encounter}
use Rattle.colregs.specs.declared.answer.Responsibility.{Responsibility}
use Rattle.colregs.specs.declared.answer.Responsibility.TheVariants.{GiveWay, Undetermined}
use Rattle.colregs.specs.declared.answer.Rule.{Rule}
use Rattle.colregs.specs.declared.answer.Rule.TheVariants.{Rule12, Rule13, Rule14, Rule15, Rule17, Rule18, Rule19}
use Rattle.colregs.specs.declared.answer.Decision.{Decision}
use Rattle.colregs.specs.declared.answer.Ruling.{Ruling}
use Rattle.colregs.specs.Geometry.{seen_to_windward, geometry_of}
use Rattle.colregs.specs.Ruling.{rule_number}
use Rattle.colregs.specs.Text.{code}
use Rattle.colregs.specs.Colregs.{clause, rule13, rule18, rule19, ranks_first, decided, own_overtakes, target_overtakes, own_comes_up, target_comes_up}
use Rattle.colregs.specs.Colregs.{is_head_on, side_of, encounter_of, rule17_port, permitted, ruling_for, ruling_of, ruling_if_accepted, ruling_answer}
use Rattle.colregs.specs.Before.{sails_on, rule12_undetermined, gave_undetermined, is_changed, target_on, gives_way, permits, ToWindward}
use Rattle.colregs.specs.Before as Before
use Rattle.colregs.proofs.Trying.{all_pairs, any_pair, all_visibilities, any_visibility, all_encounters, any_encounter}
use Rattle.colregs.proofs.Departing.{is_same_duty}

-- ---- decisions, compared
abbrev rule_by : ℕ → Rule
rule_by n =
    cond (eqb n 12) Rule12 (cond (eqb n 13) Rule13 (cond (eqb n 14) Rule14 (cond (eqb n 15) Rule15 (cond (eqb n 17) Rule17 (cond (eqb n 18) Rule18 Rule19)))))

by_number : (r : Rule) → rule_by (rule_number r) ≡ r
by_number Rule12 = refl
by_number Rule13 = refl
by_number Rule14 = refl
by_number Rule15 = refl
by_number Rule17 = refl
by_number Rule18 = refl
by_number Rule19 = refl

is_same_rule : (a b : Rule) → T (eqb (rule_number a) (rule_number b)) → a ≡ b
is_same_rule a b h = sym (by_number a) ∙ ap rule_by (eqb→eq (rule_number a) (rule_number b) h) ∙ by_number b

abbrev same : Decision → Decision → Bool
same a b = eqb (rule_number a.rule) (rule_number b.rule) && eqb (code a.responsibility) (code b.responsibility)

abbrev decision : Responsibility → Rule → Decision
decision responsibility rule = record { responsibility = responsibility; rule = rule }

is_same : (a b : Decision) → T (same a b) → a ≡ b
is_same a b h =
    ap (λ d. decision d a.rule) (is_same_duty a.responsibility b.responsibility (and_r (eqb (rule_number a.rule) (rule_number b.rule)) _ h))
    ∙ ap (decision b.responsibility) (is_same_rule a.rule b.rule (and_l (eqb (rule_number a.rule) (rule_number b.rule)) _ h))

abbrev undetermined : Decision
undetermined = decision Undetermined Rule12

abbrev clear : Decision
clear = decision GiveWay Rule12

-- ---- decisions now and before
abbrev now : Visibility → Encounter → VesselCategory → VesselCategory → Wind → Decision
now v e own target w = decided (clause Rule19 (rule19 v) ∷ clause Rule13 (rule13 e) ∷ ranks_first e own target w)

abbrev before : Visibility → Encounter → VesselCategory → VesselCategory → Wind → Decision
before v e own target w = decided (clause Rule19 (rule19 v) ∷ clause Rule13 (rule13 e) ∷ Before.ranks_first e own target w.windward)

abbrev is_other : Visibility → Encounter → VesselCategory → VesselCategory → Wind → Bool
is_other v e own target w =
    same (before v e own target w) undetermined && (sails_on Tack.Port own && (sails_on Tack.Unknown target && w.seen_to_windward))

-- what is to be shown: where it is another, of all three
abbrev three : Visibility → Encounter → VesselCategory → VesselCategory → Wind → Bool
three v e own target w =
    same (now v e own target w) clear && (same (before v e own target w) undetermined && same (before v e own (Sailing Tack.Starboard) w) clear)

abbrev fine : Visibility → Encounter → VesselCategory → VesselCategory → Wind → Bool
fine v e own target w = cond (is_other v e own target w) (three v e own target w) (same (now v e own target w) (before v e own target w))

abbrev all_fine : Bool
all_fine = all_visibilities (λ v. all_encounters (λ e. all_pairs (fine v e)))

tried : T all_fine
unfolding decided rule18
tried = tt

is_fine : (v : Visibility) (e : Encounter) (own target : VesselCategory) (w : Wind) → T (fine v e own target w)
is_fine v e =
    any_pair (fine v e) (any_encounter (λ e. all_pairs (fine v e)) (any_visibility (λ v. all_encounters (λ e. all_pairs (fine v e))) tried v) e)

-- ---- rulings
module _ (s : Situation) (config : ColregsConfig) where
  abbrev f : Geometry
  f = geometry_of s

  abbrev e : Encounter
  e = encounter_of config f

  abbrev there : Bool
  there = is_other f.visibility e f.own f.target f.wind

  abbrev now_here : Decision
  now_here = now f.visibility e f.own f.target f.wind

  abbrev before_here : Decision
  before_here = before f.visibility e f.own f.target f.wind

  abbrev on_starboard : Decision
  on_starboard = before f.visibility e f.own (Sailing Tack.Starboard) f.wind

  ruling_is : ruling_of config f ≡ ruling_for e now_here f.relative
  unfolding ruling_of
  ruling_is = refl

  former_is : Before.ruling_of config f ≡ ruling_for e before_here f.relative
  unfolding Before.ruling_of
  former_is = refl

  -- the bearings, closing, speeds and wind are the same with the target on another tack
  starboard_is : Before.ruling_of config (geometry_of (target_on Tack.Starboard s)) ≡ ruling_for e on_starboard f.relative
  unfolding Before.ruling_of geometry_of target_on heading encounter_of own_overtakes target_overtakes own_comes_up target_comes_up is_head_on side_of
  starboard_is = refl

  abbrev all_three_same : Bool
  all_three_same = three f.visibility e f.own f.target f.wind

  here : T (cond there all_three_same (same now_here before_here))
  here = is_fine f.visibility e f.own f.target f.wind

  all_three : there ≡ true → (now_here ≡ clear) × (before_here ≡ undetermined) × (on_starboard ≡ clear)
  all_three t =
      let h = subst T (cond-true there all_three_same (same now_here before_here) t) here in
      let k = and_r (same now_here clear) _ h in
      let was = same before_here undetermined in
      (is_same _ _ (and_l (same now_here clear) _ h), is_same _ _ (and_l was _ k), is_same _ _ (and_r was _ k))

  elsewhere : there ≡ false → now_here ≡ before_here
  elsewhere n = is_same _ _ (subst T (cond-false there all_three_same (same now_here before_here) n) here)

  -- ---- answers, whatever the verdict on the arguments
  abbrev conditions : Bool
  conditions = sails_on Tack.Port s.own.category && (sails_on Tack.Unknown s.target.category && seen_to_windward s.contact s.wind_from)

  abbrev former : Ruling
  former = Before.ruling_of config f

  abbrev there_by : Result (Unit {0}) Refusal → Bool
  there_by v = gave_undetermined (ruling_if_accepted v former) && conditions

  is_there : (v : Result (Unit {0}) Refusal) → T (there_by v) → there ≡ true
  unfolding geometry_of Before.ruling_of ruling_for
  is_there (Ok tt) t = is_true there t
  is_there (Err why) t = elim t [ ]

  keeps_clear_by : (v : Result (Unit {0}) Refusal) → T (there_by v) → T (gives_way (ruling_if_accepted v (ruling_of config f)))
  unfolding ruling_for
  keeps_clear_by (Ok tt) t = rw (ruling_is ∙ ap (λ d. ruling_for e d f.relative) (all_three (is_there (Ok tt) t)).0) tt
  keeps_clear_by (Err why) t = elim t [ ]

  rest_by : (v : Result (Unit {0}) Refusal) → T (there_by v)
      → ruling_if_accepted v (ruling_of config f) ≡ ruling_if_accepted v (Before.ruling_of config (geometry_of (target_on Tack.Starboard s)))
  rest_by v t =
      let three = all_three (is_there v t) in
      ap (ruling_if_accepted v) (ruling_is ∙ ap (λ d. ruling_for e d f.relative) (three.0 ∙ sym three.2) ∙ sym starboard_is)

  differs_by : (v : Result (Unit {0}) Refusal) → T (there_by v) → T (gives_way (ruling_if_accepted v former)) → ⊥
  unfolding Before.ruling_of ruling_for
  differs_by (Ok tt) t k = subst (λ d. T (eqb (code d.responsibility) (code GiveWay))) (all_three (is_there (Ok tt) t)).1 k
  differs_by (Err why) t k = elim t [ ]

  otherwise_by : (v : Result (Unit {0}) Refusal) → T (not (there_by v)) → ruling_if_accepted v (ruling_of config f) ≡ ruling_if_accepted v former
  unfolding geometry_of Before.ruling_of ruling_for
  otherwise_by (Ok tt) t = ap Ok (ruling_is ∙ ap (λ d. ruling_for e d f.relative) (elsewhere (is_false there t)) ∙ sym former_is)
  otherwise_by (Err why) t = refl

  -- Rule 12 leaves a vessel that gives way, and one whose duty is not determined, the same
  alike : permitted e clear f.relative ≡ permitted e undetermined f.relative
  unfolding permitted rule17_port
  alike = refl

  same_permits : permitted e now_here f.relative ≡ permitted e before_here f.relative
  same_permits = elim (either there) [ inl t ↦ changed t | inr n ↦ ap (λ d. permitted e d f.relative) (elsewhere n) ]
    where
      changed : there ≡ true → permitted e now_here f.relative ≡ permitted e before_here f.relative
      changed t =
          let three = all_three t in
          ap (λ d. permitted e d f.relative) three.0 ∙ alike ∙ sym (ap (λ d. permitted e d f.relative) three.1)

  permitted_by : (v : Result (Unit {0}) Refusal) → permits (ruling_if_accepted v (ruling_of config f)) ≡ permits (ruling_if_accepted v former)
  unfolding ruling_of Before.ruling_of ruling_for
  permitted_by (Ok tt) = ap Ok same_permits
  permitted_by (Err why) = refl

  pub to_windward : ToWindward s config (ruling_answer s config)
  unfolding ruling_answer Before.ruling_answer is_changed target_on situation_checks party_checks
  to_windward =
      let v = verdict (situation_checks s ++ config_checks config) (Ok tt) in
      record {
        keeps_clear = keeps_clear_by v;
        rest = rest_by v;
        differs = λ t p. differs_by v t (subst (λ a. T (gives_way a)) p (keeps_clear_by v t));
        otherwise = otherwise_by v;
        permitted = permitted_by v;
      }
