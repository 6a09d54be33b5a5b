-- The collision picture (assessment.rs, `CollisionPicture`; 01, assessment.rs: '`most_dangerous`:
-- highest risk, then least time, then the last listed; none on an empty list').
use Rattle.std.specs.Prelude.{cond, List, [], ◌∷◌, ◌++◌, ℕ, ltb, length, take, None}
use Rattle.laws.specs.Fold.{fold}
use Rattle.motion.specs.Capacity.{max_contacts}
use Rattle.assessment.specs.declared.risk.CollisionRisk.{CollisionRisk}
use Rattle.assessment.specs.declared.target.TargetAssessment.{TargetAssessment}
use Rattle.assessment.specs.declared.picture.CollisionPicture.{CollisionPicture}
use Rattle.std.specs.declared.option.Option.{Option}
pub use Rattle.assessment.specs.Target.{or_this, time_of, keep}
unfoldable pub use Rattle.assessment.specs.Target.{outranks, is_at_least}

abbrev pub targets : CollisionPicture → List TargetAssessment
targets p = take p.count p.list

unfoldable pub pushed : List TargetAssessment → TargetAssessment → List TargetAssessment
pushed ts e = cond (ltb (length ts) max_contacts) (ts ++ (e ∷ [])) ts

-- ---- the first under a number
unfoldable pub found : ℕ → List TargetAssessment → Option TargetAssessment
found target ts = fold (or_this target) None ts

-- ---- the most dangerous
unfoldable pub most_dangerous : List TargetAssessment → Option TargetAssessment
most_dangerous ts = fold keep None ts

-- ---- those of at least a risk
abbrev pub pushed_if : CollisionRisk → List TargetAssessment → TargetAssessment → List TargetAssessment
pushed_if least ts e = cond (is_at_least least e) (pushed ts e) ts

unfoldable pub at_least : CollisionRisk → List TargetAssessment → List TargetAssessment
at_least least [] = []
at_least least (e ∷ ts) = cond (is_at_least least e) (e ∷ at_least least ts) (at_least least ts)
