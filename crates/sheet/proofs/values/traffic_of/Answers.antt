use mathlib.Core.Path.{ap, ◌∙◌}
use mathlib.Core.List.{map}
use native.Mathlib.Omega.{arith}
use lib.ListN.{length}
use Rattle.std.proofs.Common.{lit<}
use Rattle.motion.proofs.Made.{made-length, one_more, all_made}
use Rattle.sheet.specs.Values.{entry_of}
use Rattle.sheet.proofs.values.traffic_of.Goals as goal

pub loop-row-init : goal.loop-row-init
loop-row-init c = c.new-t.ensures

pub push-requires : goal.push-requires
push-requires c = (lit< tt, omega (arith, ap length c.loop-row.invariant, made-length entry_of c.as_slice-listed.result.now c.loop-row.row-index c.loop-row.auto.row-index-end, c.loop-row-test.true, c.as_slice-listed.ensures.fits))

pub loop-row-preserved : goal.loop-row-preserved
loop-row-preserved c = c.push.ensures.items ∙ one_more entry_of c.as_slice-listed.result.now c.loop-row.t.items c.loop-row.row-index _ _ c.loop-row-test.true c.entry_of.ensures c.loop-row.invariant

pub returns : goal.returns
returns c = all_made entry_of c.as_slice-listed.result.now _ c.loop-row.row-index (omega (arith, c.loop-row-test.false, c.loop-row.auto.row-index-end)) c.loop-row.invariant ∙ ap (map entry_of) c.as_slice-listed.ensures.value
