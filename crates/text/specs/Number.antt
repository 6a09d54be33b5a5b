-- The fields of a line that are quantities (document 01, 'Encounter sheet and its program': 'Three
-- decimals, nearest, ties to even.').
use Rattle.std.specs.Prelude.{List, ℕ, Float}
use Rattle.text.specs.Thousandths.{thousandths_of}
use Rattle.text.specs.Decimal.{three_decimals}

abbrev pub quantity_field : Float → List ℕ
quantity_field x = three_decimals (thousandths_of x)
