use mathlib.Core.Bool.{not, cond}
use mathlib.Core.Path.{sym, ap, ◌∙◌, subst}
use Prim.Native.Nat.{◌*◌}
use native.Mathlib.Nat.{le_of_lt}
use lib.Dec.{T, ltb→lt, nltb→le, lit<}
use Rattle.laws.proofs.Bools.{holds}
use Rattle.laws.specs.Units.{units_of}
use Rattle.grid.specs.Arcsine.{half_pi_steps}
use Rattle.inverse_trigonometry.proofs.Arctangents.{is_zero, not-zero, is_below, flat_case, upright_case, steep_case, low_case}
use Rattle.inverse_trigonometry.proofs.arctangent.angle.Goals as goal

pub returns-then-left : goal.returns-then-left
returns-then-left c = (ap (λ l. cond l (2 * half_pi_steps) 0) (sym c.if-left.true) ∙ flat_case c.args.left (units_of c.args.a.value) (units_of c.args.b.value) (is_zero c.args.b c.if-b.true), lit< tt)

pub returns-then-b : goal.returns-then-b
returns-then-b c = (ap (λ l. cond l (2 * half_pi_steps) 0) (sym c.if-left.false) ∙ flat_case c.args.left (units_of c.args.a.value) (units_of c.args.b.value) (is_zero c.args.b c.if-b.true), lit< tt)

pub returns-then-a : goal.returns-then-a
returns-then-a c = (upright_case c.args.left (units_of c.args.a.value) (units_of c.args.b.value) (is_zero c.args.b c.if-b.false) (is_zero c.args.a c.if-a.true), lit< tt)

pub octant-requires : goal.octant-requires
octant-requires c = (not-zero c.args.b c.if-b.false, le_of_lt (ltb→lt _ _ (holds (is_below c.args.a c.args.b c.if-a-b.true))))

pub returns-then-a-b : goal.returns-then-a-b
returns-then-a-b c = (steep_case c.args.left (units_of c.args.a.value) (units_of c.args.b.value) _ _ (is_zero c.args.b c.if-b.false) (is_zero c.args.a c.if-a.false) (is_below c.args.a c.args.b c.if-a-b.true) c.octant.ensures c.placed.ensures.0, c.placed.ensures.1)

pub octant-requires-2 : goal.octant-requires-2
octant-requires-2 c = (not-zero c.args.a c.if-a.false, nltb→le _ _ (subst (λ b. T (not b)) (sym (is_below c.args.a c.args.b c.if-a-b.false)) tt))

pub returns : goal.returns
returns c = (low_case c.args.left (units_of c.args.a.value) (units_of c.args.b.value) _ _ (is_zero c.args.b c.if-b.false) (is_zero c.args.a c.if-a.false) (is_below c.args.a c.args.b c.if-a-b.false) c.octant-2.ensures c.placed-2.ensures.0, c.placed-2.ensures.1)
