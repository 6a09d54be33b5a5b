use Rattle.std.specs.Prelude.{◌≡◌, ◌≤◌, [], length}
use Rattle.assessment.specs.Picture.{targets}
use Rattle.assessment.proofs.PictureCode.{left}
use Rattle.assessment.proofs.picture.CollisionPicture.at_least.Given as goal

abbrev pub invariant-loop-e : goal.invariant-loop-e
invariant-loop-e l = (length (targets l.kept) ≤ l.e-index) × (left l.least l.listed l.e-index (targets l.kept) ≡ left l.least l.listed 0 [])
