-- The folds of document 01, the leaf helpers: the whole fold is 'the remainder by 360, plus 360 if
-- negative, with 360 read as 0', the half fold 'takes that to above -180 up to 180', `reciprocal`
-- 'adds 180 and folds'.
use Rattle.std.specs.Prelude.{cond, T, Float}
use Rattle.std.specs.Float.{binary64}
use Rattle.std.specs.Float.Ieee.{add, sub, rem, lt, le, eq, of_bits}

-- 0, 180, -180 and 360
abbrev pub zero : Float
zero = of_bits binary64 0

abbrev pub half_turn : Float
half_turn = of_bits binary64 0x4066_8000_0000_0000

abbrev pub minus_half_turn : Float
minus_half_turn = of_bits binary64 0xc066_8000_0000_0000

abbrev pub full_turn : Float
full_turn = of_bits binary64 0x4076_8000_0000_0000

-- 360 more, if negative
unfoldable pub turned : Float → Float
turned r = cond (lt r zero) (add binary64 r full_turn) r

unfoldable pub whole_fold : Float → Float
unfolding turned
whole_fold x = let r = turned (rem binary64 x full_turn) in cond (eq r full_turn) zero r

unfoldable pub half_fold : Float → Float
unfolding whole_fold
half_fold x = let r = whole_fold x in cond (lt half_turn r) (sub binary64 r full_turn) r

unfoldable pub reciprocal : Float → Float
unfolding whole_fold
reciprocal x = whole_fold (add binary64 x half_turn)

-- ---- where the folds of a finite number lie
-- from 0 up to but not including 360
pub record IsDirection (x : Float) : Type 0 where
  pub at_least : T (le zero x)
  pub below : T (lt x full_turn)

-- above -180 and at most 180
pub record IsDifference (x : Float) : Type 0 where
  pub above : T (lt minus_half_turn x)
  pub at_most : T (le x half_turn)
