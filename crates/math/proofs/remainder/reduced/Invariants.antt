use Prim.Native.Nat.{◌-◌}
use Rattle.laws.specs.Units.{units_of}
use Rattle.math.specs.Remainder.{Left}
use Rattle.math.proofs.remainder.reduced.Given as goal

abbrev pub invariant-loop : goal.invariant-loop
invariant-loop l = Left (units_of l.a) l.rest l.part (l.left - l.counter)
