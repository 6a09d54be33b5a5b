-- The folds branch by branch, as the code has them.
use mathlib.Core.Path.{◌≡◌, refl, sym, ap, ◌∙◌}
use mathlib.Core.Bool.{true, false}
use lib.Ieee.{Float, binary64, add, sub, rem, lt, eq}
use Rattle.math.specs.Fold.{zero, half_turn, full_turn, turned, whole_fold, half_fold}

pub turned_on : (r : Float) → lt r zero ≡ true → add binary64 r full_turn ≡ turned r
unfolding turned
turned_on r p = rw p refl

pub turned-not : (r : Float) → lt r zero ≡ false → r ≡ turned r
unfolding turned
turned-not r p = rw p refl

module _ (x r : Float) (e : r ≡ turned (rem binary64 x full_turn)) where
  pub full : eq r full_turn ≡ true → zero ≡ whole_fold x
  unfolding whole_fold
  full p = rw (ap (λ y. eq y full_turn) (sym e) ∙ p) refl

  pub not_full : eq r full_turn ≡ false → r ≡ whole_fold x
  unfolding whole_fold
  not_full p = rw (ap (λ y. eq y full_turn) (sym e) ∙ p) e

module _ (x r : Float) (e : r ≡ whole_fold x) where
  pub over_half : lt half_turn r ≡ true → sub binary64 r full_turn ≡ half_fold x
  unfolding half_fold
  over_half p = rw (ap (lt half_turn) (sym e) ∙ p) (ap (λ y. sub binary64 y full_turn) e)

  pub within_half : lt half_turn r ≡ false → r ≡ half_fold x
  unfolding half_fold
  within_half p = rw (ap (lt half_turn) (sym e) ∙ p) e
