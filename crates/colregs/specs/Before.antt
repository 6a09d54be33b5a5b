-- Request R-2, Rule 12(a)(iii): the ruling before it, which is the Rust's, undetermined where a
-- tack is not known; where the request changes it; and what it is there.
use Rattle.std.specs.Prelude.{◌≡◌, Bool, true, false, ◌&&◌, not, T, eqb, List, ◌∷◌, ◌++◌, Err, Ok}
use Rattle.std.specs.declared.result.Result.{Result}
use Rattle.elementary.specs.declared.error.Refusal.{Refusal}
use Rattle.motion.specs.Check.{verdict}
use Rattle.situation.specs.declared.party.Tack.{Tack}
use Rattle.situation.specs.declared.party.VesselCategory.{VesselCategory}
use Rattle.situation.specs.declared.party.VesselCategory.TheVariants.{PowerDriven, Sailing, Fishing, ConstrainedByDraught}
use Rattle.situation.specs.declared.party.VesselCategory.TheVariants.{RestrictedInAbilityToManoeuvre, NotUnderCommand}
use Rattle.situation.specs.declared.party.Party.{Party}
use Rattle.situation.specs.declared.party.Situation.{Situation}
use Rattle.situation.specs.declared.config.ColregsConfig.{ColregsConfig}
use Rattle.situation.specs.Arguments.{situation_checks, config_checks}
use Rattle.colregs.specs.declared.geometry.Windward.{Windward}
use Rattle.colregs.specs.declared.geometry.Geometry.{Geometry}
use Rattle.colregs.specs.declared.answer.Encounter.{Encounter}
use Rattle.colregs.specs.declared.answer.Responsibility.{Responsibility}
use Rattle.colregs.specs.declared.answer.Responsibility.TheVariants.{GiveWay, StandOn, Both, Undetermined}
use Rattle.colregs.specs.declared.answer.Rule.{Rule}
use Rattle.colregs.specs.declared.answer.Rule.TheVariants.{Rule12, Rule13, Rule18, Rule19}
use Rattle.colregs.specs.declared.answer.PermittedManoeuvre.{PermittedManoeuvre}
use Rattle.colregs.specs.declared.answer.Ruling.{Ruling}
use Rattle.colregs.specs.Geometry.{seen_to_windward, geometry_of}
use Rattle.colregs.specs.Ruling.{rule_number}
use Rattle.colregs.specs.Text.{code}
use Rattle.colregs.specs.Colregs.{Says, Clause, clause, rule13, rule18, rule19, windward_gives_way, both_sail, one_rank}
use Rattle.colregs.specs.Colregs.{encounter_of, decided, ruling_for, ruling_if_accepted}

-- ---- Rule 12 as it was, and the ruling with it
abbrev pub sailing_vessels : Tack → Tack → Windward → Responsibility
sailing_vessels Tack.Port Tack.Starboard w = GiveWay
sailing_vessels Tack.Starboard Tack.Port w = StandOn
sailing_vessels Tack.Port Tack.Port w = windward_gives_way w
sailing_vessels Tack.Starboard Tack.Starboard w = windward_gives_way w
sailing_vessels Tack.Port Tack.Unknown w = Undetermined
sailing_vessels Tack.Starboard Tack.Unknown w = Undetermined
sailing_vessels Tack.Unknown target w = Undetermined

abbrev pub rule12 : VesselCategory → VesselCategory → Windward → Says
rule12 own target w = both_sail (λ a b. sailing_vessels a b w) own target

abbrev pub ranks_first : Encounter → VesselCategory → VesselCategory → Windward → List Clause
ranks_first e own target w = clause Rule18 (rule18 own target) ∷ clause Rule12 (rule12 own target w) ∷ one_rank e

abbrev pub clauses : Encounter → Geometry → List Clause
clauses e f = clause Rule19 (rule19 f.visibility) ∷ clause Rule13 (rule13 e) ∷ ranks_first e f.own f.target f.wind.windward

unfoldable pub ruling_of : ColregsConfig → Geometry → Ruling
ruling_of config f = let e = encounter_of config f in ruling_for e (decided (clauses e f)) f.relative

unfoldable pub ruling_answer : Situation → ColregsConfig → Result Ruling Refusal
ruling_answer s config = ruling_if_accepted (verdict (situation_checks s ++ config_checks config) (Ok tt)) (ruling_of config (geometry_of s))

-- ---- the request's conditions
abbrev pub same_tack : Tack → Tack → Bool
same_tack Tack.Port Tack.Port = true
same_tack Tack.Starboard Tack.Starboard = true
same_tack Tack.Unknown Tack.Unknown = true
same_tack Tack.Port Tack.Starboard = false
same_tack Tack.Port Tack.Unknown = false
same_tack Tack.Starboard Tack.Port = false
same_tack Tack.Starboard Tack.Unknown = false
same_tack Tack.Unknown Tack.Port = false
same_tack Tack.Unknown Tack.Starboard = false

abbrev pub sails_on : Tack → VesselCategory → Bool
sails_on tack (Sailing t) = same_tack t tack
sails_on tack PowerDriven = false
sails_on tack Fishing = false
sails_on tack ConstrainedByDraught = false
sails_on tack RestrictedInAbilityToManoeuvre = false
sails_on tack NotUnderCommand = false

abbrev pub rule12_undetermined : Ruling → Bool
rule12_undetermined r = eqb (rule_number r.rule) 12 && eqb (code r.responsibility) (code Undetermined)

abbrev pub gave_undetermined : Result Ruling Refusal → Bool
gave_undetermined (Ok r) = rule12_undetermined r
gave_undetermined (Err why) = false

-- 'where Rule 12 gave Undetermined, own port tack, target's tack unknown and wind known … when the
-- target's bearing less the wind's `reciprocal`, half folded, is 90 degrees or more in magnitude'
unfoldable pub is_changed : Situation → ColregsConfig → Bool
is_changed s config =
    gave_undetermined (ruling_answer s config)
    && (sails_on Tack.Port s.own.category && (sails_on Tack.Unknown s.target.category && seen_to_windward s.contact s.wind_from))

-- ---- what it is there, and everywhere
-- the situation with the target on a tack
abbrev pub of_category : Party → VesselCategory → Party
of_category p category = record { motion = p.motion; heading = p.heading; category = category }

unfoldable pub target_on : Tack → Situation → Situation
target_on tack s = record { own = s.own; target = of_category s.target (Sailing tack); contact = s.contact; visibility = s.visibility; wind_from = s.wind_from }

abbrev pub gives_way : Result Ruling Refusal → Bool
gives_way (Ok r) = eqb (code r.responsibility) (code GiveWay)
gives_way (Err why) = false

-- what a ruling permits
abbrev pub permits : Result Ruling Refusal → Result PermittedManoeuvre Refusal
permits (Ok r) = Ok r.manoeuvre
permits (Err why) = Err why

pub record ToWindward (s : Situation) (config : ColregsConfig) (answer : Result Ruling Refusal) : Type 0 where
  -- there 'own port tack, target's tack unknown and wind known give GIVEWAY',
  pub keeps_clear : T (is_changed s config) → T (gives_way answer)
  -- 'the rest of that ruling, its sides included, is what the Rust gives there with the target on
  -- starboard tack',
  pub rest : T (is_changed s config) → answer ≡ ruling_answer (target_on Tack.Starboard s) config
  -- so that it is not the former one
  pub differs : T (is_changed s config) → answer ≡ ruling_answer s config → ⊥
  -- 'otherwise the answer is unchanged'
  pub otherwise : T (not (is_changed s config)) → answer ≡ ruling_answer s config
  -- and what is permitted is everywhere what it was
  pub permitted : permits answer ≡ permits (ruling_answer s config)
