-- What the code of the risk owes.
use mathlib.Core.Path.{◌≡◌, refl, sym, ap, ◌∙◌}
use mathlib.Core.Bool.{Bool, true, false}
use lib.Ieee.{lt}
use Rattle.math.specs.Clock.{is_before}
use Rattle.math.specs.declared.duration.Duration.{Duration}
use Rattle.motion.specs.declared.units.Distance.{Distance}
use Rattle.relative_motion.specs.declared.approach.Cpa.{Cpa}
use Rattle.assessment.specs.declared.policy.CpaPolicy.{CpaPolicy}
use Rattle.assessment.specs.declared.risk.CollisionRisk.TheVariants.{Passing, Developing, Dangerous}
use Rattle.assessment.specs.Risk.{risk_at}

-- ---- the risk
module _ (policy : CpaPolicy) (cpa : Cpa) (limit : Distance) (latest : Duration) (is-limit : limit ≡ policy.cpa_limit) (is-latest : latest ≡ policy.tcpa_limit) where
  far : (b : Bool) → lt limit.0 cpa.distance.0 ≡ b → lt policy.cpa_limit.0 cpa.distance.0 ≡ b
  far b h = sym (ap (λ l. lt l.0 cpa.distance.0) is-limit) ∙ h

  pub passes : lt limit.0 cpa.distance.0 ≡ true → Passing ≡ risk_at policy cpa
  unfolding risk_at
  passes h = rw (far true h) refl

  module _ (near : lt limit.0 cpa.distance.0 ≡ false) (b : Bool) (is_b : b ≡ is_before latest cpa.time_to_go) where
    late : is_before policy.tcpa_limit cpa.time_to_go ≡ b
    late = sym (is_b ∙ ap (λ t. is_before t cpa.time_to_go) is-latest)

    pub develops : b ≡ true → Developing ≡ risk_at policy cpa
    unfolding risk_at
    develops h = rw (far false near, late ∙ h) refl

    pub endangers : b ≡ false → Dangerous ≡ risk_at policy cpa
    unfolding risk_at
    endangers h = rw (far false near, late ∙ h) refl
