-- What a sheet's numbers stand for (01, 'Encounter sheet and its program': 'angles, speeds,
-- distances count 1/1024'; 'categories: 0 power, 1 sailing, tack unknown, 2 port tack, 3 starboard
-- tack, 4 fishing, 5 draught, 6 restricted, 7 not under command'; 'visibility (0 in sight, 1
-- restricted)'; R-1: 'where the wind comes from, in 1/1024 degree').
use Rattle.std.specs.Prelude.{ℕ, pos, from_bits, Float, None, Some}
use Rattle.std.specs.Float.{binary64}
use Rattle.std.specs.Float.Ieee.{of_int}
use Rattle.laws.specs.Ops.{◌⊘◌}
use Rattle.motion.specs.declared.vessel.Vessel.{Vessel}
use Rattle.situation.specs.declared.party.VesselCategory.{VesselCategory}
unfoldable pub use Rattle.situation.specs.Codes.{category_of, visibility_of}
use Rattle.situation.specs.declared.party.Party.{Party}
use Rattle.situation.specs.declared.party.Circumstances.{Circumstances}
use Rattle.std.specs.declared.option.Option.{Option}
use Rattle.motion.specs.declared.units.Direction.{Direction}
use Rattle.clearance.specs.declared.traffic.Entry.{Entry}
use Rattle.sheet_record.specs.declared.Header.{Header}
use Rattle.sheet_record.specs.declared.Row.{Row}

-- 1024
abbrev pub parts : Float
parts = from_bits binary64 0x4090_0000_0000_0000

unfoldable pub scaled : ℕ → Float
scaled n = of_int binary64 (pos n) ⊘ parts

unfoldable pub vessel_of : ℕ → ℕ → Vessel
vessel_of course speed = record { course = record { 0 = scaled course }; speed = record { 0 = scaled speed } }

abbrev pub party : ℕ → ℕ → VesselCategory → Party
party course speed category = record { motion = vessel_of course speed; heading = None; category = category }

unfoldable pub party_of : ℕ → ℕ → ℕ → Party
party_of course speed code = party course speed (category_of code)

unfoldable pub own_of : Header → Party
own_of h = party_of h.course h.speed h.category

abbrev pub optional_wind : Option ℕ → Option Direction
optional_wind None = None
optional_wind (Some n) = Some (record { 0 = scaled n })

unfoldable pub wind_from : Header → Option Direction
wind_from h = optional_wind h.wind

-- what the rulings on all contacts share
unfoldable pub circumstances_of : Header → Circumstances
circumstances_of h = record { own = own_of h; visibility = visibility_of h.visibility; wind_from = wind_from h }

unfoldable pub entry_of : Row → Entry
entry_of row = record {
  contact = record { bearing = record { 0 = scaled row.bearing }; range = record { 0 = scaled row.range } };
  target = party_of row.course row.speed row.category;
}
