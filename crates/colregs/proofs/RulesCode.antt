-- What the code of the ruling owes: its answers by the verdict on the arguments.
use Rattle.std.specs.Prelude.{Err, Ok}
use mathlib.Core.Path.{◌≡◌, ap, ◌∙◌}
use mathlib.Core.List.{◌++◌}
use Rattle.elementary.specs.declared.error.Refusal.{Refusal}
use Rattle.motion.specs.Check.{checked}
use Rattle.situation.specs.declared.party.Situation.{Situation}
use Rattle.situation.specs.declared.config.ColregsConfig.{ColregsConfig}
use Rattle.colregs.specs.declared.geometry.Geometry.{Geometry}
use Rattle.colregs.specs.Geometry.{geometry_of}
use Rattle.situation.specs.Arguments.{situation_checks, config_checks}
use Rattle.colregs.specs.declared.answer.Ruling.{Ruling}
use Rattle.colregs.specs.Colregs.{ruling_of, ruling_if_accepted, ruling_answer}

module _ (s : Situation) (config : ColregsConfig) where
  pub ruled : (f : Geometry) (r : Ruling) → Ok tt ≡ checked (situation_checks s ++ config_checks config) → f ≡ geometry_of s → r ≡ ruling_of config f → Ok r ≡ ruling_answer s config
  unfolding ruling_answer
  ruled f r h is_f is-r = ap Ok (is-r ∙ ap (ruling_of config) is_f) ∙ ap (λ v. ruling_if_accepted v (ruling_of config (geometry_of s))) h

  pub refused : (why : Refusal) → Err why ≡ checked (situation_checks s ++ config_checks config) → Err why ≡ ruling_answer s config
  unfolding ruling_answer
  refused why h = ap (λ v. ruling_if_accepted v (ruling_of config (geometry_of s))) h
