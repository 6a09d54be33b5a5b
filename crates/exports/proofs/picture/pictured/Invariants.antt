use Rattle.std.specs.Prelude.{[]}
use Rattle.laws.specs.Fold.{fold}
use lib.ListN.{drop}
use mathlib.Core.Path.{◌≡◌}
use Rattle.assessment.specs.Picture.{targets}
use Rattle.exports.specs.Picture.{with_entry}
use Rattle.exports.proofs.picture.pictured.Given as goal

abbrev pub invariant-loop-e : goal.invariant-loop-e
invariant-loop-e l = fold (with_entry l.own l.policy) (targets l.p) (drop l.e-index l.t) ≡ fold (with_entry l.own l.policy) [] l.t
