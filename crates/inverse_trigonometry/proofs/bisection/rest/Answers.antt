use Rattle.grid.specs.Arcsine.{upper_steps}
use Rattle.grid.proofs.Scaling.{fit, rest_of, rest-small}
use Rattle.inverse_trigonometry.proofs.bisection.rest.Goals as goal

pub invariant_of-search : goal.invariant_of-search
invariant_of-search c = let h = fit c.args.e c.scale_of-f.result c.requires.0 c.requires.1 c.scale_of-f.ensures in record { below_one = c.requires.1; positive = h.positive; few = h.small; enough = h.enough; most = h.most }

pub returns : goal.returns
unfolding upper_steps
returns c = (rest_of c.args.e c.scale_of-f.result c.search.result c.scale_of-f.ensures c.search.ensures.0, rest-small c.search.result c.scale_of-f.result c.search.ensures.1)
