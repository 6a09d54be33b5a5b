use native.Mathlib.Omega.{arith}
use Rattle.roots.proofs.SqrtCode.{moved_up, moved_back, placed}
use Rattle.roots.proofs.Scaled.of.Goals as goal

pub overflow_sub-places : goal.overflow_sub-places
overflow_sub-places c = (moved_up c.args.n.digits c.requires.0 c.if-n-lt-LEADING.true).0

pub invariant_of-result : goal.invariant_of-result
invariant_of-result c = let n = (moved_up c.args.n.digits c.requires.0 c.if-n-lt-LEADING.true).1 in record { leading = rw n.held n.leading; digits = rw n.held n.digits; least = omega (arith, n.places); most = omega arith }

pub returns-then-n-lt-LEADING : goal.returns-then-n-lt-LEADING
returns-then-n-lt-LEADING c = let n = (moved_up c.args.n.digits c.requires.0 c.if-n-lt-LEADING.true).1 in rw n.held (moved_back c.args.n.digits c.args.n.place c.args.n.leading c.if-n-lt-LEADING.true _ n.places)

pub returns : goal.returns
returns c = placed c.args.n.digits c.args.n.place
