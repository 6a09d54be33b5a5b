use native.Mathlib.Omega.{arith}
use mathlib.Core.Path.{ap, ◌∙◌}
use lib.ListN.{length}
use Rattle.std.proofs.Common.{lit<}
use Rattle.sheet_record.specs.Word.{words}
use Rattle.sheet_record.specs.Record.{first_rows}
use Rattle.sheet_record.proofs.RecordCode.{one_more, made_row, all_read, as_many}
use Rattle.sheet_record.proofs.rows_of.Goals as goal

pub loop-contact-init : goal.loop-contact-init
unfolding first_rows
loop-contact-init c = c.new-rows.ensures

pub push-requires : goal.push-requires
push-requires c = (lit< tt, omega (arith, c.loop-contact-test.true, c.first-contact-items.ensures.fits, ap length c.loop-contact.invariant, as_many (words c.args.bytes.now) c.loop-contact.contact-index))

pub loop-contact-preserved : goal.loop-contact-preserved
loop-contact-preserved c =
    c.push.ensures.items
    ∙ one_more _ c.loop-contact.rows.items c.loop-contact.contact-index _
    (made_row _ _ _ c.contacts.ensures.count c.contacts.ensures.words c.first-contact-items.ensures.value c.loop-contact.contact-index _ _ c.loop-contact-test.true c.row_of.ensures)
    c.loop-contact.invariant

pub returns : goal.returns
returns c =
    all_read _ _ _ c.contacts.ensures.count c.contacts.ensures.words c.first-contact-items.ensures.value c.loop-contact.rows.items c.loop-contact.contact-index
    (omega (arith, c.loop-contact-test.false, c.loop-contact.auto.contact-index-end)) c.loop-contact.invariant
