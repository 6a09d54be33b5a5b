-- Request R-4: the trials as avoidance.rs, `search`, has them, with a step of 1 degree as a divisor
-- and as a factor. Trials.antt has neither; proofs/Step.antt says that both are the same.
use Rattle.std.specs.Prelude.{cond, List, map, ℕ, suc, pos, Float}
use Rattle.std.specs.Float.{binary64}
use Rattle.std.specs.Float.Ieee.{lt, of_bits, of_int}
use Rattle.std.specs.List.{range_with_len}
use Rattle.laws.specs.Ops.{◌⊕◌, ◌⊖◌, ◌⊗◌, ◌⊘◌}
use Rattle.math.specs.Cast.{to_usize}

-- ALTERATION_STEP_DEG: 1
abbrev pub step : Float
step = of_bits binary64 0x3ff0_0000_0000_0000

-- `let steps = to_usize((most - least) / ALTERATION_STEP_DEG)`
unfoldable pub steps : Float → Float → ℕ
steps least most = to_usize ((most ⊖ least) ⊘ step)

-- how many there are in `0..=steps`
unfoldable pub count : Float → Float → ℕ
count least most = suc (steps least most)

-- `least + count_to_f64(step) * ALTERATION_STEP_DEG`, cut at most as document 01 says
unfoldable pub trial : Float → Float → ℕ → Float
trial least most k = let sum = least ⊕ of_int binary64 (pos k) ⊗ step in cond (lt most sum) most sum

unfoldable pub trials : Float → Float → List Float
trials least most = map (trial least most) (range_with_len 0 (count least most))
