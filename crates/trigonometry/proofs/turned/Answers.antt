use Rattle.trigonometry.proofs.SineCode.{left_few, by_sine, by_cosine}
use Rattle.trigonometry.proofs.turned.Goals as goal

pub returns-then-q-eq0 : goal.returns-then-q-eq0
returns-then-q-eq0 c = by_sine c.args.n c.args.more c.quarters-k.result c.abs_diff-left.result c.quarters-k.ensures.0 c.abs_diff-left.ensures c.sine.result c.from_units.result (c.sine.ensures.0 (left_few c.args.n c.args.more c.quarters-k.result c.abs_diff-left.result c.quarters-k.ensures.0 c.abs_diff-left.ensures c.requires.2)) c.if-q-eq0.true c.from_units.ensures

pub returns : goal.returns
returns c = by_cosine c.args.n c.args.more c.quarters-k.result c.abs_diff-left.result c.quarters-k.ensures.0 c.abs_diff-left.ensures c.cosine.result c.from_units-2.result (c.cosine.ensures.0 (left_few c.args.n c.args.more c.quarters-k.result c.abs_diff-left.result c.quarters-k.ensures.0 c.abs_diff-left.ensures c.requires.2)) c.if-q-eq0.false c.from_units-2.ensures
