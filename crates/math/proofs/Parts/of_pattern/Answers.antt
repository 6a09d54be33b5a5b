use Rattle.math.proofs.Apart.{subnormal, normal}
use Rattle.math.proofs.Parts.of_pattern.Goals as goal

pub returns-then-pattern-lt-LEADING : goal.returns-then-pattern-lt-LEADING
returns-then-pattern-lt-LEADING c x t f s e = subnormal c.args.pattern c.if-pattern-lt-LEADING.true x t e

pub returns : goal.returns
returns c x t f s e = normal c.args.pattern c.if-pattern-lt-LEADING.false x t f s e
