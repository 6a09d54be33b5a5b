-- The fields of the line on a turn, after document 01, 'Encounter sheet and its program'.
use Rattle.std.specs.Prelude.{List, ℕ, None, Some}
use Rattle.text.specs.Text.{bytes}
use Rattle.text.specs.Decimal.{decimal_of}
use Rattle.text.specs.Number.{quantity_field}
use Rattle.motion.specs.declared.units.Distance.{Distance}
use Rattle.motion.specs.declared.side.Side.{Side}
use Rattle.std.specs.declared.option.Option.{Option}

-- 'side (S or P, the list that held the trial, also at 0)'
abbrev pub side_field : Side → List ℕ
side_field Side.Starboard = bytes "S"
side_field Side.Port = bytes "P"

-- 'passing distance (FREE without contacts)'
abbrev pub passing_field : Option ℕ → Distance → List ℕ
passing_field None passing = bytes "FREE"
passing_field (Some place) passing = quantity_field passing.0

-- 'limiting id (NONE)'
abbrev pub limiting_field : Option ℕ → ℕ → List ℕ
limiting_field None id = bytes "NONE"
limiting_field (Some place) id = decimal_of id
