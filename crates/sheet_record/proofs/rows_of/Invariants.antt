use Rattle.std.specs.Prelude.{◌≡◌}
use Rattle.sheet_record.specs.Word.{words}
use Rattle.sheet_record.specs.Record.{first_rows}
use Rattle.sheet_record.proofs.rows_of.Given as goal

abbrev pub invariant-loop-contact : goal.invariant-loop-contact
invariant-loop-contact l = l.rows.items ≡ first_rows (words l.bytes) l.contact-index
