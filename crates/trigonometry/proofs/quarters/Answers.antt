use Rattle.trigonometry.proofs.Division.{keeps, steps_back}
use Rattle.std.proofs.Common.{refl}
use Rattle.trigonometry.proofs.quarters.Goals as goal

pub returns-then-shifted-k : goal.returns-then-shifted-k
returns-then-shifted-k c = keeps c.args.n _ _ c.requires refl refl c.if-shifted-k.true

pub returns-else-shifted-k : goal.returns-else-shifted-k
returns-else-shifted-k c = steps_back c.args.n _ _ c.requires refl refl c.if-shifted-k.false
