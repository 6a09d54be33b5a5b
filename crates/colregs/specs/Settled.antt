-- When a ruling says who keeps out of the way. Two sailing vessels whose tacks are known are left
-- undetermined only where the wind is unknown, which is why a sheet tells it (request R-1).
use Rattle.std.specs.Prelude.{Bool, true, false, T, None, Some}
use Rattle.situation.specs.declared.party.Tack.TheVariants as Tack
use Rattle.situation.specs.declared.party.VesselCategory.{VesselCategory}
use Rattle.situation.specs.declared.party.VesselCategory.TheVariants.{PowerDriven, Sailing, Fishing, ConstrainedByDraught, RestrictedInAbilityToManoeuvre}
use Rattle.situation.specs.declared.party.VesselCategory.TheVariants.{NotUnderCommand}
use Rattle.std.specs.declared.option.Option.{Option}
use Rattle.motion.specs.declared.units.Direction.{Direction}
use Rattle.situation.specs.declared.party.Situation.{Situation}
use Rattle.situation.specs.declared.config.ColregsConfig.{ColregsConfig}
use Rattle.colregs.specs.Geometry.{geometry_of}
use Rattle.colregs.specs.declared.answer.Responsibility.{Responsibility}
use Rattle.colregs.specs.declared.answer.Responsibility.TheVariants.{GiveWay, StandOn, Both, Undetermined}
use Rattle.colregs.specs.Colregs.{ruling_of}

abbrev pub is_settled : Responsibility → Bool
is_settled GiveWay = true
is_settled StandOn = true
is_settled Both = true
is_settled Undetermined = false

-- a sailing vessel whose tack is known
abbrev pub on_tack : VesselCategory → Bool
on_tack (Sailing Tack.Port) = true
on_tack (Sailing Tack.Starboard) = true
on_tack (Sailing Tack.Unknown) = false
on_tack PowerDriven = false
on_tack Fishing = false
on_tack ConstrainedByDraught = false
on_tack RestrictedInAbilityToManoeuvre = false
on_tack NotUnderCommand = false

abbrev pub is_known : Option Direction → Bool
is_known None = false
is_known (Some d) = true

abbrev pub Settled : ColregsConfig → Situation → Type 0
Settled config s =
    T (on_tack s.own.category) → T (on_tack s.target.category) → T (is_known s.wind_from)
    → T (is_settled (ruling_of config (geometry_of s)).responsibility)
