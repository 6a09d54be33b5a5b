use Rattle.std.proofs.Common.{rules}
use Rattle.avoidance.proofs.SearchCode.{trials_first}
use Rattle.slowing_search.specs.Computed.{fastest, smallest}
use Rattle.slowing_search.proofs.pairs.smallest.Goals as goal

pub returns : goal.returns
unfolding smallest
returns c =
    trials_first (fastest c.args.search.now.own c.args.search.now.floor c.args.search.now.scene.now c.args.sides c.args.speeds.now)
    c.args.list.least c.args.list.most _ c.count.ensures.listed _ _ (λ k r q called. search rules) _ c.find_map.ensures.runs
