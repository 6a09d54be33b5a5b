-- 01, assessment.rs: '`most_dangerous`: highest risk, then least time, then the last listed; none
-- on an empty list'.
use Rattle.std.specs.Prelude.{◌≡◌, ℕ, ◌≤◌, T, not, None, Some}
use mathlib.Core.List.{List, [], ◌∷◌, ◌++◌, Memᴰ}
use Rattle.math.specs.Clock.{is_before}
use Rattle.math.specs.declared.duration.Duration.{Duration}
use Rattle.std.specs.declared.option.Option.{Option}
use Rattle.assessment.specs.declared.target.TargetAssessment.{TargetAssessment}
use Rattle.assessment.specs.Risk.{rank}
use Rattle.assessment.specs.Assess.{tcpa}
use Rattle.assessment.specs.Target.{time_of}

abbrev pub risk_rank : TargetAssessment → ℕ
risk_rank t = rank t.assessment.risk

-- the time to go, the longest one where the range does not close
abbrev pub time_left : TargetAssessment → Duration
time_left t = time_of (tcpa t.assessment.cpa)

pub record Dangerous (listed : List TargetAssessment) (t : TargetAssessment) : Type 0 where
  pub before : List TargetAssessment
  pub after : List TargetAssessment
  pub member : listed ≡ before ++ (t ∷ after)
  pub highest_risk : (e : TargetAssessment) → Memᴰ e listed → risk_rank e ≤ risk_rank t
  pub least_time : (e : TargetAssessment) → Memᴰ e listed → risk_rank e ≡ risk_rank t → T (not (is_before (time_left e) (time_left t)))
  pub last_listed : (e : TargetAssessment) → Memᴰ e after → risk_rank e ≡ risk_rank t → T (is_before (time_left t) (time_left e))

abbrev pub MostDangerous : List TargetAssessment → Option TargetAssessment → Type 0
MostDangerous listed None = listed ≡ []
MostDangerous listed (Some t) = Dangerous listed t
