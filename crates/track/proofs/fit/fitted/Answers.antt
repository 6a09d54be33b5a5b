use Rattle.std.proofs.Common.{ap}
use Rattle.track.proofs.FitCode.{no_fit, some_fit}
use Rattle.track.proofs.fit.fitted.Goals as goal

pub returns-then-s-is_finite : goal.returns-then-s-is_finite
returns-then-s-is_finite c =
    let tt_is = ap (λ m. m.tt) c.products-s.ensures in
    no_fit c.args.last c.args.fixes.now c.products-s.result.tt c.is_finite.result tt_is c.is_finite.ensures c.if-s-is_finite.true

pub returns : goal.returns
returns c =
    let tt_is = ap (λ m. m.tt) c.products-s.ensures in
    rw c.products-s.ensures (some_fit c.args.last c.args.fixes.now c.products-s.result.tt c.is_finite.result tt_is c.is_finite.ensures c.if-s-is_finite.false)
