use native.Mathlib.Nat.{le_trans, div-le_self}
use Prim.Native.Nat.{◌*◌, ◌-◌, ◌^◌, ◌≤◌}
use Rattle.laws.specs.Units.{units_of}
use Rattle.inverse_trigonometry.proofs.Octants.{leading, lower_place, octant_is}
use native.Mathlib.Omega.{arith}
use mathlib.Core.Path.{sym, subst}
use Rattle.inverse_trigonometry.proofs.arctangent.normal_octant.Goals as goal

pub overflow_sub-p : goal.overflow_sub-p
overflow_sub-p c = lower_place (units_of c.args.u.value) (units_of c.args.v.value) c.taken_apart-p.result.digits c.taken_apart-p.result.place c.taken_apart-q.result.digits c.taken_apart-q.result.place c.taken_apart-p.ensures c.taken_apart-q.ensures c.taken_apart-p.result.few c.taken_apart-p.result.leading c.taken_apart-q.result.leading c.requires.0 c.requires.1

pub returns : goal.returns
returns c = octant_is (units_of c.args.u.value) (units_of c.args.v.value) c.taken_apart-p.result.digits c.taken_apart-p.result.place c.taken_apart-q.result.digits c.taken_apart-q.result.place _ _ c.taken_apart-p.ensures c.taken_apart-q.ensures c.taken_apart-p.result.few (leading (units_of c.args.u.value) c.taken_apart-p.result.digits c.taken_apart-p.result.place c.taken_apart-p.ensures c.taken_apart-p.result.leading c.requires.0) (lower_place (units_of c.args.u.value) (units_of c.args.v.value) c.taken_apart-p.result.digits c.taken_apart-p.result.place c.taken_apart-q.result.digits c.taken_apart-q.result.place c.taken_apart-p.ensures c.taken_apart-q.ensures c.taken_apart-p.result.few c.taken_apart-p.result.leading c.taken_apart-q.result.leading c.requires.0 c.requires.1) c.cut.ensures (c.arctangent.ensures.0 (omega (arith, c.taken_apart-p.result.few)) (subst (λ w. w ≤ 2 ^ 58) (sym c.cut.ensures) (le_trans (div-le_self (32 * c.taken_apart-q.result.digits) (2 ^ (c.taken_apart-p.result.place - c.taken_apart-q.result.place))) (omega (arith, c.taken_apart-q.result.few)))))
