use Rattle.std.proofs.Common.{rules}
use Rattle.avoidance.proofs.SearchCode.{slice_first}
use Rattle.slowing_search.specs.Computed.{courses, at_speed, fastest}
use Rattle.slowing_search.proofs.pairs.try_magnitude.Goals as goal

pub returns : goal.returns
unfolding fastest
returns c =
    slice_first (at_speed c.args.search.now.floor c.args.search.now.scene.now c.args.magnitude (courses c.args.search.now.own c.args.sides c.args.magnitude))
    c.args.speeds.now c.args.search.now.own.speed _ _ (λ x r q called. search rules) _ c.iter.ensures.rest _ c.find_map.ensures.runs
