use Rattle.std.proofs.Common.{rules}
use Rattle.avoidance.specs.Search.{both, between, trial_clears_computed, tried_both, smallest}
use Rattle.avoidance.proofs.SearchCode.{trials_first}
use Rattle.avoidance.proofs.search.Search.smallest.Goals as goal

pub returns : goal.returns
unfolding smallest between tried_both
returns c =
    trials_first (both c.args.sides (trial_clears_computed c.args.self.now.own c.args.self.now.floor c.args.self.now.scene.now))
    c.args.list.least c.args.list.most _ c.count.ensures.listed _ _ (λ k r q called. search rules) _ c.find_map.ensures.runs
