-- Every ruling permits slowing, that of a vessel that stands on too, whatever the situation and the widths.
use Rattle.std.specs.Prelude.{Err, Ok}
use mathlib.Core.Path.{◌≡◌, ap, subst}
use mathlib.Core.List.{◌++◌}
use lib.Dec.{T}
use Rattle.std.specs.declared.result.Result.{Result}
use Rattle.elementary.specs.declared.error.Refusal.{Refusal}
use Rattle.motion.specs.Check.{verdict}
use Rattle.situation.specs.declared.config.ColregsConfig.{ColregsConfig}
use Rattle.situation.specs.declared.party.Situation.{Situation}
use Rattle.situation.specs.Arguments.{situation_checks, config_checks}
use Rattle.colregs.specs.declared.answer.Ruling.{Ruling}
use Rattle.colregs.specs.Geometry.{geometry_of}
use Rattle.colregs.specs.Colregs.{permitted, ruling_for, ruling_of, ruling_if_accepted, ruling_answer}

abbrev ruling_in : Ruling → Result Ruling Refusal → Ruling
ruling_in other (Ok r) = r
ruling_in other (Err why) = other

pub every_ruling_permits_slowing : (s : Situation) (config : ColregsConfig) (r : Ruling) → ruling_answer s config ≡ Ok r → T r.manoeuvre.slow_down
unfolding ruling_answer ruling_of ruling_for permitted
every_ruling_permits_slowing s config r e = go (verdict (situation_checks s ++ config_checks config) (Ok tt)) e
  where
    go : (v : Result (Unit {0}) Refusal) → ruling_if_accepted v (ruling_of config (geometry_of s)) ≡ Ok r → T r.manoeuvre.slow_down
    go (Ok tt) e = subst (λ r. T r.manoeuvre.slow_down) (ap (ruling_in r) e) tt
    go (Err why) e = cc
