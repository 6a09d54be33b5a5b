use mathlib.Core.Path.{◌∙◌}
use Rattle.std.proofs.Common.{rules}
use Rattle.sheet_record.proofs.WordCode.{no_header, headed, not_headed}
use Rattle.sheet_record.proofs.word.is_ordered.Goals as goal
use Rattle.sheet_record.proofs.word.is_ordered.Goals.{then-words-ge9, else-words-ge9}

pub returns-then-in_order : goal.returns-then-in_order
returns-then-in_order c = elim c.if-words-ge9.branch [
  | then-words-ge9 w ↦ headed _ _ c.words_of-words.ensures _ (w.value-is ∙ w.in_order.ensures) c.if-in_order.true _ c.header_length.ensures _ c.in_order-then-in_order.ensures
  | else-words-ge9 w ↦ let no : ⊥ = search rules in absurd no
]

pub returns-else-in_order : goal.returns-else-in_order
returns-else-in_order c = elim c.if-words-ge9.branch [
  | then-words-ge9 w ↦ not_headed _ _ c.words_of-words.ensures _ (w.value-is ∙ w.in_order.ensures) c.if-in_order.false
  | else-words-ge9 w ↦ c.if-in_order.false ∙ no_header _ _ c.words_of-words.ensures w.if-words-ge9.false
]
