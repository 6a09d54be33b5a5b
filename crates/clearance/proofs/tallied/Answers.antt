use mathlib.Core.Path.{sym, ap, ◌∙◌}
use native.Mathlib.Omega.{arith}
use Rattle.std.specs.Prelude.{Some}
use Rattle.clearance.specs.Clearing.{contact_clears_computed, clears_computed}
use Rattle.clearance.proofs.ClearsCode.{step, stops, done, whole}
use Rattle.clearance.proofs.tallied.Goals as goal

pub returns-in_err-distance : goal.returns-in_err-distance
unfolding clears_computed
returns-in_err-distance c =
    c.from_residual.ensures ∙ stops (contact_clears_computed c.args.own c.args.floor) c.args.scene.now c.loop-place.place _ _ c.loop-place-test.true (sym c.in_err-distance.was ∙ c.contact_clears.ensures)
    ∙ c.loop-place.invariant ∙ whole (contact_clears_computed c.args.own c.args.floor) c.args.scene.now

pub loop-place-preserved : goal.loop-place-preserved
loop-place-preserved c = step (contact_clears_computed c.args.own c.args.floor) c.args.scene.now c.loop-place.place _ _ _ _ c.loop-place-test.true
    (sym c.in_ok-distance.was ∙ c.contact_clears.ensures) c.nearer.ensures ∙ c.loop-place.invariant

pub returns : goal.returns
unfolding clears_computed
returns c =
    ap Some c.unwrap_or.ensures ∙ done (contact_clears_computed c.args.own c.args.floor) c.args.scene.now c.loop-place.place _ (omega (arith, c.loop-place-test.false, c.loop-place.auto.place-end))
    ∙ c.loop-place.invariant ∙ whole (contact_clears_computed c.args.own c.args.floor) c.args.scene.now
