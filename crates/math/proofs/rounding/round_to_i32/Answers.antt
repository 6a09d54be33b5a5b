use mathlib.Core.Path.{◌∙◌, sym}
use mathlib.Core.Bool.{true≢false}
use lib.Ieee.{of_bits, neg, of_int, lt}
use Rattle.std.proofs.lemmas.Bool.{or_left, or_right, or_from}
use Rattle.math.proofs.Rounded.{i32_outside, i32_inside}
use Rattle.math.proofs.rounding.round_to_i32.Goals as goal
use Rattle.math.proofs.rounding.round_to_i32.Goals.{then-rounded, else-rounded}

pub returns-then-rounded-2 : goal.returns-then-rounded-2
unfolding of_bits neg of_int lt
returns-then-rounded-2 c = i32_outside c.args.value c.round-rounded.result c.round-rounded.ensures (elim c.if-rounded.branch [
  | then-rounded w ↦ or_left _ _ w.if-rounded.true
  | else-rounded w ↦ or_right _ _ (sym w.value-is ∙ c.if-rounded-2.true)
])

pub returns-else-rounded-2 : goal.returns-else-rounded-2
unfolding of_bits neg of_int lt
returns-else-rounded-2 c = i32_inside c.args.value c.round-rounded.result c.round-rounded.ensures (elim c.if-rounded.branch [
  | then-rounded w ↦ absurd (true≢false (sym w.if-rounded.true ∙ sym w.value-is ∙ c.if-rounded-2.false))
  | else-rounded w ↦ or_from _ _ w.if-rounded.false (sym w.value-is ∙ c.if-rounded-2.false)
]) c.saturating_f64_to_i32.result c.saturating_f64_to_i32.type_inv c.saturating_f64_to_i32.ensures
