-- Request R-4: without the step the trials are the same, whatever least and most are.
use mathlib.Core.Path.{◌≡◌, refl, sym, ap, ◌∙◌}
use mathlib.Core.Bool.{cond, false}
use mathlib.Core.List.{◌∷◌, map}
use Prim.Native.Nat.{ℕ, zero, suc, ◌+◌}
use native.Mathlib.Numerals.{add-one}
use lib.IntN.{pos}
use lib.ListN.{length}
use lib.Ieee.{Float, binary64, of_int, lt}
use lib.Ieee.Fits.{sub-fits, round-fits}
use Rattle.std.specs.List.{range_with_len}
use Rattle.laws.specs.Ops.{◌⊕◌, ◌⊖◌}
use Rattle.laws.proofs.One.{mul_one, div_one}
use Rattle.math.specs.Cast.{to_usize}
use Rattle.manoeuvre.specs.Trials.{last, trial, trials_from, trials}
use Rattle.manoeuvre.specs.Step as Step
use Rattle.manoeuvre.proofs.Listed as Listed

module _ (least most : Float) where
  pub same_last : Step.steps least most ≡ last least most
  unfolding Step.steps last
  same_last = ap to_usize (div_one (most ⊖ least) (sub-fits binary64 most least))

  pub same_count : length (trials least most) ≡ Step.count least most
  unfolding Step.count
  same_count = Listed.count least most ∙ ap suc (sym same_last)

  -- what the code owes
  pub counted : (n : ℕ) → n ≡ last least most → n + 1 ≡ Step.count least most
  counted n e = Listed.counted least most n e ∙ same_count

  pub same_trial : (k : ℕ) → Step.trial least most k ≡ trial least most k
  unfolding Step.trial trial of_int
  same_trial k = ap (λ x. cond (lt most (least ⊕ x)) most (least ⊕ x)) (mul_one (of_int binary64 (pos k)) (round-fits binary64 false k 1))

  same_from : (k n : ℕ) → map (Step.trial least most) (range_with_len k n) ≡ trials_from least most k n
  unfolding trials_from
  same_from k zero = refl
  same_from k (suc n) = rw (same_trial k) (rw (add-one k) (ap (λ ts. trial least most k ∷ ts) (same_from (suc k) n)))

  pub same_list : Step.trials least most ≡ trials least most
  unfolding Step.trials Step.count trials
  same_list = rw same_last (same_from 0 (suc (last least most)))
