-- Two sailing vessels on known tacks, the wind known: some vessel keeps out of the way.
use Rattle.std.specs.Prelude.{None, Some}
use mathlib.Core.Bool.{Bool, true, false, cond}
use lib.Dec.{T}
use lib.Ieee.{lt}
use Rattle.laws.specs.Ops.{◌⊕◌, ◌⊖◌}
use Rattle.math.specs.Sign.{abs}
use Rattle.math.specs.Fold.{half_turn, half_fold}
use Rattle.motion.specs.declared.vessel.Contact.{Contact}
use Rattle.situation.specs.declared.party.Tack.{Tack}
use Rattle.situation.specs.declared.party.VesselCategory.{VesselCategory}
use Rattle.situation.specs.declared.party.VesselCategory.TheVariants.{PowerDriven, Sailing, Fishing, ConstrainedByDraught, RestrictedInAbilityToManoeuvre}
use Rattle.situation.specs.declared.party.VesselCategory.TheVariants.{NotUnderCommand}
use Rattle.std.specs.declared.option.Option.{Option}
use Rattle.motion.specs.declared.units.Direction.{Direction}
use Rattle.situation.specs.declared.party.Situation.{Situation}
use Rattle.situation.specs.declared.party.Visibility.{Visibility}
use Rattle.situation.specs.declared.party.Visibility.TheVariants.{InSight, Restricted}
use Rattle.situation.specs.declared.config.ColregsConfig.{ColregsConfig}
use Rattle.situation.specs.Arguments.{quarter_turn}
use Rattle.colregs.specs.declared.geometry.Windward.{Windward}
use Rattle.colregs.specs.declared.geometry.Wind.{Wind}
use Rattle.colregs.specs.Geometry.{windward_of, geometry_of}
use Rattle.colregs.specs.declared.answer.Encounter.{Encounter}
use Rattle.colregs.specs.declared.answer.Encounter.TheVariants.{Overtaking, BeingOvertaken, HeadOn, Crossing}
use Rattle.colregs.specs.declared.answer.Rule.{Rule}
use Rattle.colregs.specs.declared.answer.Rule.TheVariants.{Rule13, Rule18, Rule19}
use Rattle.colregs.specs.declared.answer.Responsibility.TheVariants.{GiveWay, StandOn}
use Rattle.colregs.specs.declared.answer.Decision.{Decision}
use Rattle.colregs.specs.Colregs.{Says, silent, says, encounter_of, keeps_clear, rule13, rule18, rule19, windward_gives_way, sailing_vessels, unless_silent}
use Rattle.colregs.specs.Colregs.{decided, ranks_first, ruling_for, ruling_of}
use Rattle.colregs.specs.Settled.{is_settled, on_tack, is_known, Settled}

-- ---- Rule 12
abbrev told : Windward → Type 0
told Windward.Own = Unit
told Windward.Target = Unit
told Windward.Unknown = ⊥

to_windward : (w : Windward) → told w → T (is_settled (windward_gives_way w))
to_windward Windward.Own k = tt
to_windward Windward.Target k = tt
to_windward Windward.Unknown k = absurd k

by_tacks_lem : (own target : Tack) (w : Wind) → T (on_tack (Sailing own)) → T (on_tack (Sailing target)) → told w.windward
    → T (is_settled (sailing_vessels own target w))
by_tacks_lem Tack.Port Tack.Starboard w a b k = tt
by_tacks_lem Tack.Starboard Tack.Port w a b k = tt
by_tacks_lem Tack.Port Tack.Port w a b k = to_windward w.windward k
by_tacks_lem Tack.Starboard Tack.Starboard w a b k = to_windward w.windward k
by_tacks_lem Tack.Port Tack.Unknown w a b k = absurd b
by_tacks_lem Tack.Starboard Tack.Unknown w a b k = absurd b
by_tacks_lem Tack.Unknown target w a b k = absurd a

-- ---- a rule settles it, or leaves it to the rest
abbrev Settles : Says → Type 0
Settles silent = Unit
Settles (says duty) = T (is_settled duty)

or_the_rest : (s : Says) (number : Rule) (rest : Decision) → Settles s → T (is_settled rest.responsibility)
    → T (is_settled (unless_silent s number rest).responsibility)
or_the_rest silent number rest h k = k
or_the_rest (says duty) number rest h k = h

rule19_settles : (v : Visibility) → Settles (rule19 v)
rule19_settles Restricted = tt
rule19_settles InSight = tt

rule13_settles : (e : Encounter) → Settles (rule13 e)
rule13_settles Overtaking = tt
rule13_settles BeingOvertaken = tt
rule13_settles HeadOn = tt
rule13_settles (Crossing side) = tt

rule18_settles : (a b : VesselCategory) → Settles (rule18 a b)
unfolding rule18
rule18_settles a b = go (keeps_clear a b) (keeps_clear b a)
  where
    go : (x y : Bool) → Settles (cond x (says GiveWay) (cond y (says StandOn) silent))
    go true y = tt
    go false true = tt
    go false false = tt

module _ (e : Encounter) (w : Wind) (k : told w.windward) where
  sailing : (a b : Tack) → T (on_tack (Sailing a)) → T (on_tack (Sailing b)) → T (is_settled (decided (ranks_first e (Sailing a) (Sailing b) w)).responsibility)
  unfolding decided
  sailing a b ha hb = or_the_rest (rule18 (Sailing a) (Sailing b)) Rule18 _ (rule18_settles (Sailing a) (Sailing b)) (by_tacks_lem a b w ha hb k)

  ranked : (a b : VesselCategory) → T (on_tack a) → T (on_tack b) → T (is_settled (decided (ranks_first e a b w)).responsibility)
  ranked (Sailing a) (Sailing b) ha hb = sailing a b ha hb
  ranked PowerDriven b ha hb = absurd ha
  ranked Fishing b ha hb = absurd ha
  ranked ConstrainedByDraught b ha hb = absurd ha
  ranked RestrictedInAbilityToManoeuvre b ha hb = absurd ha
  ranked NotUnderCommand b ha hb = absurd ha
  ranked (Sailing a) PowerDriven ha hb = absurd hb
  ranked (Sailing a) Fishing ha hb = absurd hb
  ranked (Sailing a) ConstrainedByDraught ha hb = absurd hb
  ranked (Sailing a) RestrictedInAbilityToManoeuvre ha hb = absurd hb
  ranked (Sailing a) NotUnderCommand ha hb = absurd hb

-- ---- the wind
windward_told : (c : Contact) (p : Option Direction) → T (is_known p) → told (windward_of c p)
windward_told c None h = absurd h
windward_told c (Some from) h = go (lt (abs (half_fold (c.bearing.0 ⊖ (from.0 ⊕ half_turn)))) quarter_turn)
  where
    go : (b : Bool) → told (cond b Windward.Own Windward.Target)
    go true = tt
    go false = tt

pub settled : (config : ColregsConfig) (s : Situation) → Settled config s
unfolding ruling_of ruling_for decided geometry_of
settled config s own target wind =
    let f = geometry_of s in
    let e = encounter_of config f in
    or_the_rest (rule19 s.visibility) Rule19 _ (rule19_settles s.visibility)
    (or_the_rest (rule13 e) Rule13 _ (rule13_settles e)
    (ranked e f.wind (windward_told s.contact s.wind_from wind) s.own.category s.target.category own target))
