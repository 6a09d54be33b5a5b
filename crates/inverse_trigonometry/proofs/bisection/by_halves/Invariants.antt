use Prim.Native.Nat.{◌+◌, ◌-◌, ◌^◌, ◌≤◌}
use mathlib.Core.Path.{◌≡◌}
use Rattle.grid.specs.Search.{greatest, up_to, greatest_to}
use Rattle.grid.specs.Grid.{last_step}
use Rattle.inverse_trigonometry.proofs.bisection.by_halves.Given as goal

abbrev pub invariant-loop : goal.invariant-loop
invariant-loop g l = record {
  power : l.half ≡ 2 ^ (49 - l.counter);
  few : l.low + l.half ≤ 2 ^ 49;
  same : greatest (49 - l.counter) (up_to last_step (g.G.Goal.test l.goal)) l.low ≡ greatest_to 49 last_step (g.G.Goal.test l.goal);
}
