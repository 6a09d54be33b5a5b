-- What the collision picture asks of its targets (assessment.rs, `CollisionPicture`).
use Rattle.std.specs.Prelude.{Bool, cond, ℕ, eqb, ltb, leb, None, Some}
use Rattle.math.specs.Clock.{is_before}
use Rattle.math.specs.declared.duration.Duration.{Duration}
use Rattle.assessment.specs.declared.risk.CollisionRisk.{CollisionRisk}
use Rattle.assessment.specs.Risk.{rank}
use Rattle.std.specs.declared.option.Option.{Option}
use Rattle.assessment.specs.declared.assess.CollisionAssessment.{CollisionAssessment}
use Rattle.assessment.specs.Assess.{tcpa}
use Rattle.assessment.specs.declared.target.TargetAssessment.{TargetAssessment}

-- ---- the first under a number
abbrev pub or_this : ℕ → Option TargetAssessment → TargetAssessment → Option TargetAssessment
or_this target (Some t) e = Some t
or_this target None e = cond (eqb e.target target) (Some e) None

-- ---- the most dangerous
-- `unwrap_or(Duration::MAX)`
abbrev pub time_of : Option Duration → Duration
time_of None = record { secs = 18446744073709551615; nanos = 999999999 }
time_of (Some d) = d

-- a higher risk, or the same and less time
unfoldable pub outranks : CollisionAssessment → CollisionAssessment → Bool
outranks a b = cond (eqb (rank a.risk) (rank b.risk)) (is_before (time_of (tcpa a.cpa)) (time_of (tcpa b.cpa))) (ltb (rank b.risk) (rank a.risk))

-- of equals the later one
abbrev pub keep : Option TargetAssessment → TargetAssessment → Option TargetAssessment
keep None e = Some e
keep (Some b) e = cond (outranks b.assessment e.assessment) (Some b) (Some e)

-- ---- those of at least a risk
unfoldable pub is_at_least : CollisionRisk → TargetAssessment → Bool
is_at_least least e = leb (rank least) (rank e.assessment.risk)
