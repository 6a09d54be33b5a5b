use mathlib.Core.Path.{◌≡◌, refl, sym, ap, ◌∙◌, subst}
use mathlib.Core.List.{List}
use Rattle.std.specs.Prelude.{None}
use Rattle.std.proofs.Common.{rules}
use Rattle.std.proofs.iter.Yields.{fronts}
use Rattle.std.proofs.lemmas.Fn.{fold_over}
use Rattle.std.proofs.lemmas.Iterator.{YieldsList-from_slice}
use Rattle.laws.specs.Fold.{fold}
use Rattle.assessment.specs.declared.target.TargetAssessment.{TargetAssessment}
use Rattle.assessment.specs.MostDangerous.{MostDangerous}
use Rattle.assessment.specs.Picture.{targets, keep, most_dangerous}
use Rattle.assessment.proofs.Danger.{most_is}
use Rattle.assessment.proofs.PictureCode.{one_more}
use Rattle.assessment.proofs.picture.CollisionPicture.most_dangerous.Goals as goal

pub returns : goal.returns
unfolding most_dangerous fold
returns c =
    let listed : List TargetAssessment = targets c.args.self.now in
    let is : c.fold.result ≡ fold keep None listed =
    fold_over fronts (λ y. y.now) _ (λ ys b. b ≡ fold keep None ys) _
    (λ ys a x b q j k. let is : b ≡ keep a x.now = search rules in (is ∙ ap (λ a. keep a x.now) j ∙ sym (one_more None ys x.now), search rules))
    c.iter.result listed _ _ (YieldsList-from_slice listed cc).runs refl c.fold.ensures.ran in
    record { is = is; property = subst (MostDangerous listed) (sym is) (most_is listed) }
