-- COLREGs 1972, Rules 12 to 19, over the facts of a situation: one definition for each rule, then
-- the order in which they apply. Where kinavis-colregs departs from a rule, the definition does
-- what it does and says so ('departs'); docs/DIFFERENCES.md has an input for each.
use Rattle.std.specs.Prelude.{Bool, true, false, ◌&&◌, ◌||◌, not, cond, List, [], ◌∷◌, ◌++◌, Float, Err, Ok}
use Rattle.std.specs.Float.{binary64}
use Rattle.std.specs.Float.Ieee.{lt, le, of_bits}
use Rattle.laws.specs.Ops.{◌⊕◌}
use Rattle.math.specs.Sign.{abs}
use Rattle.math.specs.Fold.{zero}
use Rattle.std.specs.declared.result.Result.{Result}
use Rattle.elementary.specs.declared.error.Refusal.{Refusal}
use Rattle.motion.specs.Check.{verdict}
use Rattle.situation.specs.declared.party.Tack.{Tack}
use Rattle.situation.specs.declared.party.VesselCategory.{VesselCategory}
use Rattle.situation.specs.declared.party.VesselCategory.TheVariants.{PowerDriven, Sailing, Fishing, ConstrainedByDraught, RestrictedInAbilityToManoeuvre}
use Rattle.situation.specs.declared.party.VesselCategory.TheVariants.{NotUnderCommand}
use Rattle.situation.specs.declared.party.Visibility.{Visibility}
use Rattle.situation.specs.declared.party.Visibility.TheVariants.{InSight, Restricted}
use Rattle.situation.specs.declared.party.Situation.{Situation}
use Rattle.situation.specs.declared.config.ColregsConfig.{ColregsConfig}
use Rattle.colregs.specs.declared.geometry.Windward.{Windward}
use Rattle.colregs.specs.declared.geometry.Wind.{Wind}
use Rattle.colregs.specs.declared.geometry.Geometry.{Geometry}
use Rattle.motion.specs.declared.side.Side.{Side}
use Rattle.colregs.specs.declared.answer.Encounter.{Encounter}
use Rattle.colregs.specs.declared.answer.Encounter.TheVariants.{Overtaking, BeingOvertaken, HeadOn, Crossing}
use Rattle.colregs.specs.declared.answer.Responsibility.{Responsibility}
use Rattle.colregs.specs.declared.answer.Responsibility.TheVariants.{GiveWay, StandOn, Both, Undetermined}
use Rattle.colregs.specs.declared.answer.Rule.{Rule}
use Rattle.colregs.specs.declared.answer.Rule.TheVariants.{Rule12, Rule13, Rule14, Rule15, Rule17, Rule18, Rule19}
use Rattle.colregs.specs.declared.answer.PermittedManoeuvre.{PermittedManoeuvre}
use Rattle.colregs.specs.declared.answer.Ruling.{Ruling}
use Rattle.colregs.specs.declared.answer.Decision.{Decision}
use Rattle.situation.specs.Arguments.{quarter_turn, situation_checks, config_checks}
use Rattle.colregs.specs.Geometry.{geometry_of}

-- What a rule says of own craft's duty: nothing, where it does not apply.
pub data Says : Type 0 where
  silent : Says
  says : Responsibility → Says

-- 1e-9: nearer to the bow than this is dead ahead
abbrev pub dead_ahead : Float
dead_ahead = of_bits binary64 0x3e11_2e0b_e826_d695

-- ---- Rule 13, overtaking
-- (b) 'coming up with another vessel from a direction more than 22.5 degrees abaft her beam': the
-- direction in which the one that comes up lies, off the other's bow. Coming up is taken as closing
-- (departs: a vessel that keeps her distance astern is crossing).
unfoldable pub abaft : ColregsConfig → Float → Bool
abaft config angle = lt (quarter_turn ⊕ config.overtaking_abaft_beam.0) (abs angle)

unfoldable pub own_comes_up : ColregsConfig → Geometry → Bool
own_comes_up config f = f.closing && abaft config f.aspect

unfoldable pub target_comes_up : ColregsConfig → Geometry → Bool
target_comes_up config f = f.closing && abaft config f.relative

-- where each comes up from astern of the other, the faster one overtakes; at equal speeds the asker
-- is overtaken
unfoldable pub own_overtakes : ColregsConfig → Geometry → Bool
own_overtakes config f = own_comes_up config f && (not (target_comes_up config f) || lt f.target_speed.0 f.own_speed.0)

unfoldable pub target_overtakes : ColregsConfig → Geometry → Bool
target_overtakes config f = target_comes_up config f && not (own_overtakes config f)

-- (a) the overtaking vessel keeps out of the way of the one overtaken
abbrev pub rule13 : Encounter → Says
rule13 Overtaking = says GiveWay
rule13 BeingOvertaken = says StandOn
rule13 HeadOn = silent
rule13 (Crossing side) = silent

-- ---- Rule 14, head_on
-- (b) each sees the other ahead or nearly ahead: within the half-width, the limits included
unfoldable pub is_head_on : ColregsConfig → Geometry → Bool
is_head_on config f = le (abs f.relative) config.head_on_half_width.0 && le (abs f.aspect) config.head_on_half_width.0

-- (a) each alters to starboard. Of two vessels that Rules 12 and 18 leave (departs: the rule speaks
-- of power-driven ones alone)
abbrev pub rule14 : Encounter → Says
rule14 HeadOn = says Both
rule14 Overtaking = silent
rule14 BeingOvertaken = silent
rule14 (Crossing side) = silent

-- ---- Rule 15, crossing
-- the side on which own craft has the other; dead ahead she is on neither, and the side on which
-- she has own craft decides
unfoldable pub side_of : Geometry → Side
side_of f = cond (cond (lt (abs f.relative) dead_ahead) (lt f.aspect zero) (lt zero f.relative)) Side.Starboard Side.Port

-- the vessel that has the other on her own starboard side keeps out of the way
abbrev pub rule15 : Encounter → Says
rule15 (Crossing Side.Starboard) = says GiveWay
rule15 (Crossing Side.Port) = silent
rule15 Overtaking = silent
rule15 BeingOvertaken = silent
rule15 HeadOn = silent

-- ---- Rule 16, the give-way vessel: early and substantial action, which fixes no figure; whether
-- an alteration clears is for the search to say

-- ---- Rule 17, the stand-on vessel
-- (a)(i) where one of two vessels keeps out of the way, here by Rule 15, the other keeps her course
-- and speed
abbrev pub rule17 : Encounter → Says
rule17 (Crossing Side.Port) = says StandOn
rule17 (Crossing Side.Starboard) = silent
rule17 Overtaking = silent
rule17 BeingOvertaken = silent
rule17 HeadOn = silent

-- ---- Rule 18, responsibilities: whether the first keeps out of the way of the second
-- (a) a power-driven vessel of one not under command, restricted in her ability to manoeuvre,
-- fishing, sailing; (d)(i) of one constrained by her draught (departs: not impeding is less than
-- keeping out of the way)
abbrev pub power_keeps_clear : VesselCategory → Bool
power_keeps_clear PowerDriven = false
power_keeps_clear (Sailing tack) = true
power_keeps_clear Fishing = true
power_keeps_clear ConstrainedByDraught = true
power_keeps_clear RestrictedInAbilityToManoeuvre = true
power_keeps_clear NotUnderCommand = true

-- (b) a sailing vessel of the first three; (d)(i) as above
abbrev pub sailing_keeps_clear : VesselCategory → Bool
sailing_keeps_clear PowerDriven = false
sailing_keeps_clear (Sailing tack) = false
sailing_keeps_clear Fishing = true
sailing_keeps_clear ConstrainedByDraught = true
sailing_keeps_clear RestrictedInAbilityToManoeuvre = true
sailing_keeps_clear NotUnderCommand = true

-- (c) a fishing vessel of the first two; (d)(i) as above
abbrev pub fishing_keeps_clear : VesselCategory → Bool
fishing_keeps_clear PowerDriven = false
fishing_keeps_clear (Sailing tack) = false
fishing_keeps_clear Fishing = false
fishing_keeps_clear ConstrainedByDraught = true
fishing_keeps_clear RestrictedInAbilityToManoeuvre = true
fishing_keeps_clear NotUnderCommand = true

-- (a) a vessel constrained by her draught is power-driven (Rule 3(h)); of one fishing or sailing
-- she does not keep clear (departs)
abbrev pub draught_keeps_clear : VesselCategory → Bool
draught_keeps_clear PowerDriven = false
draught_keeps_clear (Sailing tack) = false
draught_keeps_clear Fishing = false
draught_keeps_clear ConstrainedByDraught = false
draught_keeps_clear RestrictedInAbilityToManoeuvre = true
draught_keeps_clear NotUnderCommand = true

-- of one not under command (departs: the rule sets neither above the other)
abbrev pub restricted_keeps_clear : VesselCategory → Bool
restricted_keeps_clear PowerDriven = false
restricted_keeps_clear (Sailing tack) = false
restricted_keeps_clear Fishing = false
restricted_keeps_clear ConstrainedByDraught = false
restricted_keeps_clear RestrictedInAbilityToManoeuvre = false
restricted_keeps_clear NotUnderCommand = true

abbrev pub keeps_clear : VesselCategory → VesselCategory → Bool
keeps_clear PowerDriven other = power_keeps_clear other
keeps_clear (Sailing tack) other = sailing_keeps_clear other
keeps_clear Fishing other = fishing_keeps_clear other
keeps_clear ConstrainedByDraught other = draught_keeps_clear other
keeps_clear RestrictedInAbilityToManoeuvre other = restricted_keeps_clear other
keeps_clear NotUnderCommand other = false

-- the other stands on, by Rule 17(a)(i)
unfoldable pub rule18 : VesselCategory → VesselCategory → Says
rule18 own target = cond (keeps_clear own target) (says GiveWay) (cond (keeps_clear target own) (says StandOn) silent)

-- ---- Rule 12, two sailing vessels
-- (a)(ii) the wind on the same side: the windward one keeps out of the way
abbrev pub windward_gives_way : Windward → Responsibility
windward_gives_way Windward.Own = GiveWay
windward_gives_way Windward.Target = StandOn
windward_gives_way Windward.Unknown = Undetermined

-- (a)(iii) the wind on own port side, and the other's tack unknown: own vessel keeps out of the way
-- of one that she sees to windward (request R-2)
abbrev pub port_tack_keeps_clear : Bool → Responsibility
port_tack_keeps_clear seen_to_windward = cond seen_to_windward GiveWay Undetermined

-- (a)(i) the wind on different sides: the one with the wind on her port side keeps out of the way.
-- Where a tack is not known, but for (iii) (departs: undetermined, also where either says the same)
abbrev pub sailing_vessels : Tack → Tack → Wind → Responsibility
sailing_vessels Tack.Port Tack.Starboard w = GiveWay
sailing_vessels Tack.Starboard Tack.Port w = StandOn
sailing_vessels Tack.Port Tack.Port w = windward_gives_way w.windward
sailing_vessels Tack.Starboard Tack.Starboard w = windward_gives_way w.windward
sailing_vessels Tack.Port Tack.Unknown w = port_tack_keeps_clear w.seen_to_windward
sailing_vessels Tack.Starboard Tack.Unknown w = Undetermined
sailing_vessels Tack.Unknown target w = Undetermined

-- what is said by tack; silent, where a vessel does not sail
abbrev pub under_sail : (Tack → Says) → VesselCategory → Says
under_sail by_tack (Sailing tack) = by_tack tack
under_sail by_tack PowerDriven = silent
under_sail by_tack Fishing = silent
under_sail by_tack ConstrainedByDraught = silent
under_sail by_tack RestrictedInAbilityToManoeuvre = silent
under_sail by_tack NotUnderCommand = silent

abbrev pub both_sail : (Tack → Tack → Responsibility) → VesselCategory → VesselCategory → Says
both_sail duty own target = under_sail (λ a. under_sail (λ b. says (duty a b)) target) own

abbrev pub rule12 : VesselCategory → VesselCategory → Wind → Says
rule12 own target w = both_sail (λ a b. sailing_vessels a b w) own target

-- ---- Rule 19, restricted visibility: no vessel stands on
abbrev pub rule19 : Visibility → Says
rule19 Restricted = says Both
rule19 InSight = silent

-- ---- the kind of encounter
unfoldable pub encounter_of : ColregsConfig → Geometry → Encounter
encounter_of config f =
    cond (own_overtakes config f) Overtaking
    (cond (target_overtakes config f) BeingOvertaken (cond (is_head_on config f) HeadOn (Crossing (side_of f))))

-- ---- the order: Rule 19 where vessels are not in sight of one another; else Rule 13
-- 'notwithstanding' the others, then 18, and between vessels of one rank 12, 14, 15 and 17. The
-- first that speaks decides.
pub record Clause : Type 0 where
  pub number : Rule
  pub text : Says

abbrev pub clause : Rule → Says → Clause
clause number text = record { number = number; text = text }

abbrev pub unless_silent : Says → Rule → Decision → Decision
unless_silent silent number rest = rest
unless_silent (says duty) number rest = record { responsibility = duty; rule = number }

-- the end of the list is never reached (`the_rules_decide`)
unfoldable pub decided : List Clause → Decision
decided [] = record { responsibility = Undetermined; rule = Rule13 }
decided (c ∷ cs) = unless_silent c.text c.number (decided cs)

-- between vessels of one rank, neither overtaking
abbrev pub one_rank : Encounter → List Clause
one_rank e = clause Rule14 (rule14 e) ∷ clause Rule15 (rule15 e) ∷ clause Rule17 (rule17 e) ∷ []

abbrev pub ranks_first : Encounter → VesselCategory → VesselCategory → Wind → List Clause
ranks_first e own target w = clause Rule18 (rule18 own target) ∷ clause Rule12 (rule12 own target w) ∷ one_rank e

abbrev pub clauses_in_sight : Encounter → Geometry → List Clause
clauses_in_sight e f = clause Rule13 (rule13 e) ∷ ranks_first e f.own f.target f.wind

abbrev pub clauses : Encounter → Geometry → List Clause
clauses e f = clause Rule19 (rule19 f.visibility) ∷ clauses_in_sight e f

-- ---- what is permitted
abbrev pub is_stand_on : Responsibility → Bool
is_stand_on StandOn = true
is_stand_on GiveWay = false
is_stand_on Both = false
is_stand_on Undetermined = false

abbrev pub is_crossing : Encounter → Bool
is_crossing (Crossing side) = true
is_crossing Overtaking = false
is_crossing BeingOvertaken = false
is_crossing HeadOn = false

abbrev pub is_overtaking : Encounter → Bool
is_overtaking Overtaking = true
is_overtaking BeingOvertaken = false
is_overtaking HeadOn = false
is_overtaking (Crossing side) = false

-- relative 90 is abeam
unfoldable pub forward_of_beam : Float → Bool
forward_of_beam relative = lt (abs relative) quarter_turn

-- dead astern counts as starboard (departs: the rule has no side for it)
abbrev pub to_starboard : Float → Bool
to_starboard relative = le zero relative

-- Rule 19(d) (departs: 'so far as possible'): (i) not to port for a vessel forward of the beam,
-- other than one being overtaken; (ii) not towards a vessel abeam or abaft the beam
unfoldable pub rule19_starboard : Float → Bool
rule19_starboard relative = forward_of_beam relative || not (to_starboard relative)

unfoldable pub rule19_port : Encounter → Float → Bool
rule19_port e relative = cond (forward_of_beam relative) (is_overtaking e) (to_starboard relative)

-- Rule 17(c): a vessel that stands on in a crossing does not alter to port (departs: the rule
-- speaks of power-driven vessels, and of one on the port side)
unfoldable pub rule17_port : Encounter → Responsibility → Bool
rule17_port e duty = not (is_stand_on duty && is_crossing e)

abbrev pub permits_starboard : Rule → Float → Bool
permits_starboard Rule12 relative = true
permits_starboard Rule13 relative = true
permits_starboard Rule14 relative = true
permits_starboard Rule15 relative = true
permits_starboard Rule17 relative = true
permits_starboard Rule18 relative = true
permits_starboard Rule19 relative = rule19_starboard relative

-- Rule 14(a): each alters to starboard; Rule 15: avoids crossing ahead, hence not to port
abbrev pub permits_port : Rule → Encounter → Responsibility → Float → Bool
permits_port Rule14 e duty relative = false
permits_port Rule15 e duty relative = false
permits_port Rule19 e duty relative = rule19_port e relative
permits_port Rule12 e duty relative = rule17_port e duty
permits_port Rule13 e duty relative = rule17_port e duty
permits_port Rule17 e duty relative = rule17_port e duty
permits_port Rule18 e duty relative = rule17_port e duty

-- every vessel may slow down; Rule 17(a)(i): the one that stands on may hold
unfoldable pub permitted : Encounter → Decision → Float → PermittedManoeuvre
permitted e d relative =
    record {
      starboard = permits_starboard d.rule relative;
      port = permits_port d.rule e d.responsibility relative;
      slow_down = true;
      hold = is_stand_on d.responsibility;
    }

-- ---- the ruling
unfoldable pub ruling_for : Encounter → Decision → Float → Ruling
ruling_for e d relative = record { encounter = e; responsibility = d.responsibility; rule = d.rule; manoeuvre = permitted e d relative }

unfoldable pub ruling_of : ColregsConfig → Geometry → Ruling
ruling_of config f = let e = encounter_of config f in ruling_for e (decided (clauses e f)) f.relative

-- ---- the answer, by the verdict on the arguments
abbrev pub ruling_if_accepted : Result (Unit {0}) Refusal → Ruling → Result Ruling Refusal
ruling_if_accepted (Ok tt) r = Ok r
ruling_if_accepted (Err why) r = Err why

unfoldable pub ruling_answer : Situation → ColregsConfig → Result Ruling Refusal
ruling_answer s config = ruling_if_accepted (verdict (situation_checks s ++ config_checks config) (Ok tt)) (ruling_of config (geometry_of s))
