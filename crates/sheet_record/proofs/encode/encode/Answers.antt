use mathlib.Core.Path.{ap, ◌∙◌}
use Rattle.sheet_record.specs.Encode.{encode}
use Rattle.sheet_record.proofs.EncodeCode.{whole_sheet}
use Rattle.sheet_record.proofs.encode.encode.Goals as goal

pub returns : goal.returns
returns c =
    whole_sheet _ _ _ _ _ c.first.ensures.fits c.blank-t.ensures c.put_header.ensures c.each.ensures
    ∙ ap (encode c.args.h) c.first.ensures.value
