use Rattle.roots.proofs.SqrtCode.{pattern_is}
use Rattle.roots.proofs.Scaled.root_pattern.Goals as goal

pub returns : goal.returns
returns c = let n = c.args.self in pattern_is n.m n.j n.leading n.digits _ n.least n.most c.nearest_root-r.ensures
