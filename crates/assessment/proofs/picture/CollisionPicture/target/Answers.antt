use mathlib.Core.Path.{◌∙◌}
use lib.Dec.{eqb}
use borrow.Author.Tests.{tests}
use Rattle.std.proofs.Common.{rules}
use Rattle.std.proofs.lemmas.Iterator.{YieldsList-from_slice}
use Rattle.std.proofs.lemmas.Iterator.Search.{find_from_yields_List}
use Rattle.assessment.specs.Picture.{targets}
use Rattle.assessment.proofs.PictureCode.{finds}
use Rattle.assessment.proofs.picture.CollisionPicture.target.Goals as goal

pub returns : goal.returns
returns c =
    c.copied.ensures ∙ find_from_yields_List (λ e. eqb e.target c.args.target) _ _ _ c.find.ensures.ran (YieldsList-from_slice (targets c.args.self.now) cc) (λ x b q k. search (rules, tests))
    ∙ finds c.args.target (targets c.args.self.now)
