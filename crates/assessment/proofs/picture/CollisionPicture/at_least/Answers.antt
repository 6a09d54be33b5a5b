use Rattle.std.specs.Prelude.{◌++◌, length}
use mathlib.Core.Path.{ap, ◌∙◌}
use native.Mathlib.Omega.{arith}
use Rattle.assessment.specs.Picture.{at_least}
use Rattle.assessment.proofs.PictureCode.{step, done}
use Rattle.assessment.proofs.picture.CollisionPicture.at_least.Goals as goal

pub loop-e-init : goal.loop-e-init
loop-e-init c = (omega (arith, ap length c.new-kept.ensures), ap (λ l. l ++ at_least c.args.least c.targets-listed.result.now) c.new-kept.ensures)

pub loop-e-preserved : goal.loop-e-preserved
loop-e-preserved c =
    let s = step c.args.least c.targets-listed.result.now c.loop-e.e-index _ _ _ c.loop-e-test.true c.targets-listed.ensures.fits c.loop-e.invariant.0 c.push_if.ensures in
    (s.0, s.1 ∙ c.loop-e.invariant.1)

pub returns : goal.returns
returns c =
    done c.args.least c.targets-listed.result.now c.loop-e.e-index _ (omega (arith, c.loop-e-test.false, c.loop-e.auto.e-index-end)) c.loop-e.invariant.1
    ∙ ap (at_least c.args.least) c.targets-listed.ensures.listed
