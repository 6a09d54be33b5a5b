use Rattle.std.specs.Prelude.{map}
use mathlib.Core.Path.{ap, ◌∙◌}
use Rattle.motion.specs.Check.{checked}
use Rattle.motion.proofs.ArgumentCode.{handed_on, refused, accepted}
use Rattle.sheet.specs.Values.{entry_of}
use Rattle.sheet.specs.Sheet.{code_checks, value_checks}
use Rattle.sheet.proofs.SheetCode.{unreadable, readable_as}
use Rattle.sheet.proofs.check_sheet.Goals as goal

pub returns-in_err-check_layout : goal.returns-in_err-check_layout
returns-in_err-check_layout c = handed_on _ _ c.from_residual.ensures.1 ∙ unreadable _ _ c.in_err-check_layout.ensures

pub returns-in_err-check_codes : goal.returns-in_err-check_codes
returns-in_err-check_codes c =
    handed_on _ _ c.from_residual-in_err-check_codes.ensures.1
    ∙ readable_as _ c.header_of-h.result c.rows_of-rows.result.items _ c.in_ok-check_layout.ensures c.header_of-h.ensures c.rows_of-rows.ensures
    (refused (code_checks c.header_of-h.result c.rows_of-rows.result.items) (value_checks c.header_of-h.result (map entry_of c.rows_of-rows.result.items)) _ _ (rw c.deref.ensures.0 at c.in_err-check_codes.ensures))

pub returns : goal.returns
returns c =
    readable_as _ c.header_of-h.result c.rows_of-rows.result.items _ c.in_ok-check_layout.ensures c.header_of-h.ensures c.rows_of-rows.ensures
    (accepted (code_checks c.header_of-h.result c.rows_of-rows.result.items) (value_checks c.header_of-h.result (map entry_of c.rows_of-rows.result.items)) _ _ (rw c.deref.ensures.0 at c.in_ok-check_codes.ensures) (c.check_values.ensures ∙ ap (λ es. checked (value_checks c.header_of-h.result es)) (c.deref-2.ensures.0 ∙ c.traffic_of.ensures)))
