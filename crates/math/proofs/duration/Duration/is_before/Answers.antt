use Rattle.std.specs.Prelude.{◌≡◌, ℕ, cond, Some, ◌==◌, nat_lt}
use Rattle.std.specs.Ordering.{is_some_and, is_lt, nat_cmp, partial_ordering_then}
use mathlib.Core.Path.{◌∙◌}
use Rattle.math.specs.Clock.{is_before}
use Rattle.math.proofs.duration.Duration.is_before.Goals as goal
use Rattle.std.proofs.Common.{arith}
use Rattle.std.proofs.lemmas.Bool.Decides.{nat_tests}

-- the derived order reads the seconds first, then the nanoseconds
earlier : (x y n m : ℕ) → is_some_and is_lt (partial_ordering_then (Some (nat_cmp x y)) (Some (nat_cmp n m))) ≡ cond (x == y) (nat_lt n m) (nat_lt x y)
earlier x y n m = grind (arith, nat_tests)

pub returns : goal.returns
unfolding is_before
returns c = c.lt.ensures ∙ earlier c.args.self.secs c.args.other.secs c.args.self.nanos c.args.other.nanos
