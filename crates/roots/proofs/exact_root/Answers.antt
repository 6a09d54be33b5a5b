use Rattle.roots.proofs.SqrtCode.{nearest_of_long}
use Rattle.roots.proofs.exact_root.Goals as goal

pub returns : goal.returns
returns c = nearest_of_long c.args.d c.isqrt-root.result c.requires.0 (record { at_most = c.isqrt-root.ensures.square_le; above = c.isqrt-root.ensures.next_square_gt })
