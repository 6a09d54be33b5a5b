-- The library's rounding methods answer what the definitions say.
use Rattle.std.proofs.Common.{◌≡◌, ℕ, ◌+◌, ◌-◌, ◌*◌, ◌/◌, ◌<◌, true, false, refl, ap, arith}
use Rattle.std.specs.Float.{Float, nan, inf, fin, binary64, round_with, ratio_floor, ratio_ceil, ratio_round_half_up}
use lib.Ieee.{up, down, round}
use lib.Ieee.Fits.{down_pos}
use Rattle.math.specs.Whole.{trunc, round_half_away, ceil}

pub trunc_is : (x : Float) → round_with ratio_floor ratio_floor binary64 x ≡ trunc x
unfolding round_with trunc
trunc_is nan = refl
trunc_is (inf s) = refl
trunc_is (fin true m e) = refl
trunc_is (fin false m e) = refl

pub round_is : (x : Float) → round_with ratio_round_half_up ratio_round_half_up binary64 x ≡ round_half_away x
unfolding round_with round_half_away
round_is nan = refl
round_is (inf s) = refl
round_is (fin true m e) = refl
round_is (fin false m e) = refl

pub ceil_is : (x : Float) → round_with ratio_ceil ratio_floor binary64 x ≡ ceil x
unfolding round_with ceil
ceil_is nan = refl
ceil_is (inf s) = refl
ceil_is (fin true m e) = refl
ceil_is (fin false m e) = ap (λ n. round binary64 false (n / down e) 1) (go (m * up e) (down e) (down_pos e))
  where
    go : (a c : ℕ) → 0 < c → a + c - 1 ≡ a + (c - 1)
    go a c h = omega arith
