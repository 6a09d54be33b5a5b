-- `ensure_range`, which 'includes both ends and refuses NaN' (document 01, the leaf helpers).
use Rattle.std.specs.Prelude.{Bool, ◌&&◌, Float}
use Rattle.std.specs.Float.Ieee.{le}

unfoldable pub in_range : Float → Float → Float → Bool
in_range low high x = le low x && le x high
