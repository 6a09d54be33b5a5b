-- The trial list of a side (01, 'Trial list': 'least plus k for k from 0 to the whole part of most
-- minus least, each sum and difference rounded once, cut at most'), and what is proved of it.
-- avoidance.rs, `search`, has the same list with a step of 1 as a factor and a divisor (Step.antt).
use Rattle.std.specs.Prelude.{cond, List, [], ◌∷◌, ℕ, zero, suc, ◌≤◌, ◌<◌, T, pos, Float}
use Rattle.std.specs.Float.{binary64}
use Rattle.std.specs.Float.Ieee.{eq, lt, le, of_bits, of_int, fits}
use Rattle.laws.specs.Ops.{◌⊕◌, ◌⊖◌}
use Rattle.math.specs.Cast.{to_usize}

-- the whole part of most minus least
unfoldable pub last : Float → Float → ℕ
last least most = to_usize (most ⊖ least)

unfoldable pub trial : Float → Float → ℕ → Float
trial least most k = let sum = least ⊕ of_int binary64 (pos k) in cond (lt most sum) most sum

-- so many trials from k on
unfoldable pub trials_from : Float → Float → ℕ → ℕ → List Float
trials_from least most k zero = []
trials_from least most k (suc n) = trial least most k ∷ trials_from least most (suc k) n

unfoldable pub trials : Float → Float → List Float
trials least most = trials_from least most 0 (suc (last least most))

-- ---- accepted limits: 0 ≤ least ≤ most ≤ 180
abbrev pub half_turn : Float
half_turn = of_bits binary64 0x4066_8000_0000_0000

pub record Limits (least most : Float) : Type 0 where
  pub least_fits : T (fits binary64 least)
  pub most_fits : T (fits binary64 most)
  pub not_negative : T (le (of_bits binary64 0) least)
  pub ordered : T (le least most)
  pub at_most : T (le most half_turn)

-- what everything that speaks of trials rests on
pub record IsTrialList (least most : Float) : Type 0 where
  pub few : last least most ≤ 180
  pub first : T (eq (trial least most 0) least)
  pub not_under : (k : ℕ) → k ≤ last least most → T (le least (trial least most k))
  pub not_over : (k : ℕ) → k ≤ last least most → T (le (trial least most k) most)
  pub increasing : (j k : ℕ) → j < k → k ≤ last least most → T (lt (trial least most j) (trial least most k))
