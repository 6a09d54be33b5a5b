-- The checks of a situation and of the widths (01, 'The answers by number': own, contact, target,
-- wind, config; inside one in field order).
use Rattle.std.specs.Prelude.{Bool, List, [], ◌∷◌, ◌++◌, Float, None, Some}
use Rattle.std.specs.Float.{binary64}
use Rattle.std.specs.Float.Ieee.{of_bits}
use Rattle.math.specs.Fold.{zero}
use Rattle.elementary.specs.declared.error.Refusal.TheVariants as Why
use Rattle.elementary.specs.Range.{in_range}
use Rattle.motion.specs.declared.units.Angle.{Angle}
use Rattle.motion.specs.Check.{Check, check, is_direction, vessel_checks, contact_checks}
use Rattle.std.specs.declared.option.Option.{Option}
use Rattle.motion.specs.declared.units.Direction.{Direction}
use Rattle.situation.specs.declared.party.Party.{Party}
use Rattle.situation.specs.declared.party.Situation.{Situation}
use Rattle.situation.specs.declared.config.ColregsConfig.{ColregsConfig}

-- 90
abbrev pub quarter_turn : Float
quarter_turn = of_bits binary64 0x4056_8000_0000_0000

abbrev pub optional_checks : Option Direction → List Check
optional_checks None = []
optional_checks (Some d) = check (is_direction d) Why.Angle ∷ []

unfoldable pub party_checks : Party → List Check
party_checks p = vessel_checks p.motion ++ optional_checks p.heading

unfoldable pub is_width : Angle → Bool
is_width a = in_range zero quarter_turn a.0

abbrev pub config_checks : ColregsConfig → List Check
config_checks c = check (is_width c.overtaking_abaft_beam) Why.Config ∷ check (is_width c.head_on_half_width) Why.Config ∷ []

unfoldable pub situation_checks : Situation → List Check
situation_checks s = party_checks s.own ++ (contact_checks s.contact ++ (party_checks s.target ++ optional_checks s.wind_from))
