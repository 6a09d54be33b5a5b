use mathlib.Core.Path.{◌≡◌, sym, ap, ◌∙◌}
use mathlib.Core.Bool.{false}
use Prim.Native.Nat.{ℕ, suc, ◌^◌, ◌≤◌}
use lib.IntN.{pos, negsuc}
use lib.Ieee.{Float, fin, binary64, mul, neg, of_int, round}
use Rattle.laws.proofs.Exact.{over_power, whole-value}
use Rattle.math.proofs.Sign.{neg-round}
use Rattle.math.proofs.multiple.Goals as goal

exact : (n i : ℕ) (unit : Float) → n ≤ 2 ^ 53 → unit ≡ fin false 1 (negsuc i) → mul binary64 (of_int binary64 (pos n)) unit ≡ round binary64 false n (2 ^ suc i)
exact n i unit h e = ap (mul binary64 (of_int binary64 (pos n))) e ∙ over_power (of_int binary64 (pos n)) n i (whole-value n h)

pub returns-then-minus-clause-product : goal.returns-then-minus-clause-product
returns-then-minus-clause-product c i h e = ap neg (exact c.args.n i c.args.unit h e) ∙ neg-round false c.args.n (2 ^ suc i) ∙ ap (λ s. round binary64 s c.args.n (2 ^ suc i)) (sym c.if-minus.true)

pub returns-else-minus-clause-product : goal.returns-else-minus-clause-product
returns-else-minus-clause-product c i h e = exact c.args.n i c.args.unit h e ∙ ap (λ s. round binary64 s c.args.n (2 ^ suc i)) (sym c.if-minus.false)
