use mathlib.Core.Path.{ap, ◌∙◌}
use Prim.Native.Nat.{◌*◌, ◌^◌}
use native.Mathlib.Nat.{lt_of_le_of_lt}
use Rattle.laws.specs.Units.{units_of}
use Rattle.inverse_trigonometry.specs.Atan2.{octant}
use Rattle.inverse_trigonometry.proofs.Arctangents.{is_subnormal, is_normal}
use Rattle.inverse_trigonometry.proofs.Octants.{octant-raised}
use Rattle.inverse_trigonometry.proofs.arctangent.octant.Goals as goal

pub raised-requires : goal.raised-requires
raised-requires c = is_subnormal c.args.u c.if-u.true

pub raised-requires-then-u : goal.raised-requires-then-u
raised-requires-then-u c = lt_of_le_of_lt c.requires.1 (is_subnormal c.args.u c.if-u.true)

pub returns-then-u : goal.returns-then-u
returns-then-u c = c.normal_octant.ensures ∙ ap (λ n. octant n (units_of c.raised-then-u.result.value)) c.raised.ensures ∙ ap (λ n. octant (units_of c.args.u.value * 2 ^ 54) n) c.raised-then-u.ensures ∙ octant-raised (units_of c.args.u.value) (units_of c.args.v.value) 54 c.requires.0

pub normal_octant-requires-2 : goal.normal_octant-requires-2
normal_octant-requires-2 c = (is_normal c.args.u c.if-u.false, c.requires.1)
