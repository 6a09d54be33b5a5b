use mathlib.Core.Path.{◌∙◌, ap}
use mathlib.Core.List.{map}
use Rattle.std.proofs.Common.{rules}
use Rattle.sheet_record.specs.Word.{in_order}
use Rattle.sheet_record.proofs.WordCode.{folded, number_in}
use Rattle.sheet_record.proofs.word.in_order.Goals as goal

pub returns : goal.returns
returns c = c.eq.ensures ∙ folded _ _ (λ f k w v h e. search (rules, e)) c.iter.result _ c.args.first c.try_fold.result _ c.try_fold.ensures.ran ∙ ap (λ l. in_order c.args.first (map number_in l)) c.iter.ensures.rest
