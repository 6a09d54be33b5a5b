-- A collision picture of the contacts, and what is read off it.
use Rattle.std.specs.Prelude.{cond, ◌&&◌, List, [], ℕ, ◌-◌, ◌%◌, eqb, ltb, length, Some, None, Ok, Err}
use Rattle.std.specs.declared.option.Option.{Option}
use Rattle.std.specs.declared.result.Result.{Result}
use Rattle.laws.specs.Fold.{fold}
use Rattle.elementary.specs.declared.error.Refusal.{Refusal}
use Rattle.motion.specs.declared.vessel.Vessel.{Vessel}
use Rattle.assessment.specs.declared.policy.CpaPolicy.{CpaPolicy}
use Rattle.assessment.specs.declared.risk.CollisionRisk.{CollisionRisk}
use Rattle.assessment.specs.declared.risk.CollisionRisk.TheVariants as Risk
use Rattle.assessment.specs.declared.assess.CollisionAssessment.{CollisionAssessment}
use Rattle.assessment.specs.Assess.{assess_answer}
use Rattle.assessment.specs.declared.target.TargetAssessment.{TargetAssessment}
use Rattle.assessment.specs.Picture.{pushed, found, most_dangerous, at_least}
use Rattle.clearance.specs.declared.traffic.Entry.{Entry}
use Rattle.exports.specs.Answers.{pattern, refused, word}
use Rattle.exports.specs.Arguments.{own, policy}

-- ---- the picture: the contacts that are assessed, numbered from 0 to 4 over and over, so that
-- numbers repeat
abbrev pub numbered : List TargetAssessment → CollisionAssessment → TargetAssessment
numbered ts a = record { target = length ts % 5; assessment = a }

abbrev pub with_answer : List TargetAssessment → Result CollisionAssessment Refusal → List TargetAssessment
with_answer ts (Ok a) = pushed ts (numbered ts a)
with_answer ts (Err why) = ts

unfoldable pub with_entry : Vessel → CpaPolicy → List TargetAssessment → Entry → List TargetAssessment
with_entry own policy ts e = with_answer ts (assess_answer own e.contact e.target.motion policy)

unfoldable pub pictured : Vessel → List Entry → CpaPolicy → List TargetAssessment
pictured own es policy = fold (with_entry own policy) [] es

-- ---- its words: 1 the length, 2 the range of the most dangerous target, 3 to 7 that of the target
-- numbered 0 to 4, 8 to 11 the length and 12 to 15 the range of the most dangerous of those of at
-- least each risk; 0 for nobody
unfoldable pub risk_of : ℕ → CollisionRisk
risk_of code = cond (eqb code 0) Risk.Opening (cond (eqb code 1) Risk.Passing (cond (eqb code 2) Risk.Developing Risk.Dangerous))

abbrev pub range_word : Option TargetAssessment → ℕ
range_word None = 0
range_word (Some e) = pattern e.assessment.range.0

unfoldable pub word_of : List TargetAssessment → ℕ → ℕ
word_of ts part =
    cond (eqb part 1) (length ts)
    (cond (eqb part 2) (range_word (most_dangerous ts))
    (cond (ltb 2 part && ltb part 8) (range_word (found (part - 3) ts))
    (cond (ltb 7 part && ltb part 12) (length (at_least (risk_of (part - 8)) ts))
    (cond (ltb 11 part && ltb part 16) (range_word (most_dangerous (at_least (risk_of (part - 12)) ts))) 0))))

-- limits that are refused leave no picture
abbrev pub picture_word : Vessel → List Entry → Result CpaPolicy Refusal → ℕ → ℕ
picture_word own es (Ok policy) part = word_of (pictured own es policy) part
picture_word own es (Err why) part = word (refused 1 why) part
