-- Parties and situations (kinavis-colregs lib.rs).
use Rattle.std.specs.Prelude.{ℕ, None, Some}
use Rattle.std.specs.Float.{binary64}
use Rattle.std.specs.Float.Ieee.{of_bits}
use Rattle.motion.specs.declared.units.Direction.{Direction}
use Rattle.motion.specs.declared.vessel.Vessel.{Vessel}
use Rattle.motion.specs.declared.vessel.Contact.{Contact}
use Rattle.situation.specs.declared.party.VesselCategory.{VesselCategory}
use Rattle.situation.specs.declared.party.VesselCategory.TheVariants as Category
use Rattle.std.specs.declared.option.Option.{Option}
use Rattle.situation.specs.declared.party.Party.{Party}
use Rattle.situation.specs.declared.party.Visibility.{Visibility}
use Rattle.situation.specs.declared.party.Situation.{Situation}
use Rattle.situation.specs.declared.party.Circumstances.{Circumstances}
use Rattle.situation.specs.declared.config.ColregsConfig.{ColregsConfig}

-- `VesselCategory::precedence`
abbrev pub precedence : VesselCategory → ℕ
precedence Category.PowerDriven = 0
precedence (Category.Sailing tack) = 1
precedence Category.Fishing = 2
precedence Category.ConstrainedByDraught = 3
precedence Category.RestrictedInAbilityToManoeuvre = 4
precedence Category.NotUnderCommand = 5

unfoldable pub party : Vessel → VesselCategory → Party
party motion category = record { motion = motion; heading = None; category = category }

unfoldable pub with_heading : Party → Direction → Party
with_heading p heading = record { motion = p.motion; heading = Some heading; category = p.category }

-- a direction, another where it is unknown
abbrev pub optional_or : Option Direction → Direction → Direction
optional_or None other = other
optional_or (Some d) other = d

-- the heading defaults to the course
unfoldable pub heading : Party → Direction
heading p = optional_or p.heading p.motion.course

unfoldable pub situation : Party → Party → Contact → Visibility → Situation
situation own target contact visibility = record { own = own; target = target; contact = contact; visibility = visibility; wind_from = None }

unfoldable pub with_wind_from : Situation → Direction → Situation
with_wind_from s from = record { own = s.own; target = s.target; contact = s.contact; visibility = s.visibility; wind_from = Some from }

-- the situation with a contact
abbrev pub with_contact : Circumstances → Contact → Party → Situation
with_contact c contact target = record { own = c.own; target = target; contact = contact; visibility = c.visibility; wind_from = c.wind_from }

-- `ColregsConfig::STANDARD`: 22.5 and 6 degrees
abbrev pub standard : ColregsConfig
standard =
    record {
      overtaking_abaft_beam = record { 0 = of_bits binary64 0x4036_8000_0000_0000 };
      head_on_half_width = record { 0 = of_bits binary64 0x4018_0000_0000_0000 };
    }
