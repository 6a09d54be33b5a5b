use mathlib.Core.Path.{sym, ap, ◌∙◌}
use mathlib.Core.List.{map, map-map}
use native.Mathlib.Omega.{arith}
use Rattle.std.proofs.Common.{lit<}
use lib.ListN.{length}
use Rattle.motion.proofs.Made.{made-length, one_more, all_made}
use Rattle.clearance.specs.Clearing.{moving}
use Rattle.clearance.specs.Traffic.{target_of, targets}
use Rattle.clearance.proofs.Loops.{moving_of}
use Rattle.clearance.proofs.traffic.scene_of.Goals as goal

pub loop-e-init : goal.loop-e-init
loop-e-init c = c.new-scene.ensures

pub push-requires : goal.push-requires
push-requires c = (lit< tt, omega (arith, ap length c.loop-e.invariant, made-length moving_of c.first-held.result.now c.loop-e.e-index c.loop-e.auto.e-index-end, c.loop-e-test.true, c.first-held.ensures.fits))

pub loop-e-preserved : goal.loop-e-preserved
loop-e-preserved c = c.push.ensures.items ∙ one_more moving_of c.first-held.result.now c.loop-e.scene.items c.loop-e.e-index _ _ c.loop-e-test.true (c.from-in-loop-e.ensures ∙ ap moving c.from.ensures) c.loop-e.invariant

pub returns : goal.returns
unfolding targets
returns c = all_made moving_of c.first-held.result.now _ c.loop-e.e-index (omega (arith, c.loop-e-test.false, c.loop-e.auto.e-index-end)) c.loop-e.invariant ∙ ap (map moving_of) c.first-held.ensures.value ∙ sym (map-map moving target_of _)
