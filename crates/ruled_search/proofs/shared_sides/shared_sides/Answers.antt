use mathlib.Core.Path.{◌≡◌, refl, sym, ap, ◌∙◌}
use mathlib.Core.List.{[], ◌∷◌}
use Rattle.std.proofs.Common.{rules}
use Rattle.std.proofs.iter.Yields.{fronts}
use Rattle.std.proofs.lemmas.Fn.{fold_over}
use Rattle.std.proofs.lemmas.Iterator.{YieldsList-from_slice}
use Rattle.laws.specs.Fold.{fold}
use Rattle.laws.proofs.Fold.{fold-append}
use Rattle.ruled_search.specs.Ruled.{either, join_sides, shared_sides}
use Rattle.ruled_search.proofs.shared_sides.shared_sides.Goals as goal

pub returns : goal.returns
unfolding shared_sides fold
returns c =
    let join = join_sides c.args.around.own c.args.around.visibility c.args.around.wind_from in
    fold_over fronts (λ y. y.now) _ (λ ys b. b ≡ fold join either ys) _
    (λ ys a x b q j k. let is : b ≡ join a x.now = search rules in (is ∙ ap (λ a. join a x.now) j ∙ sym (fold-append join either ys (x.now ∷ [])), search rules))
    c.iter.result c.args.t.now _ _ (YieldsList-from_slice c.args.t.now cc).runs refl c.fold.ensures.ran
