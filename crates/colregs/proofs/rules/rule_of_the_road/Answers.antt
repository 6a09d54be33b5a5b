use mathlib.Core.Path.{◌≡◌, sym, ◌∙◌, subst}
use Rattle.situation.specs.Arguments.{situation_checks, config_checks}
use Rattle.motion.proofs.ArgumentCode.{handed_on, refused as refused_first, accepted}
use Rattle.elementary.specs.declared.error.Refusal.{Refusal}
use Rattle.std.specs.declared.result.Result.{Result}
use Rattle.situation.specs.declared.party.Situation.{Situation}
use Rattle.situation.specs.declared.config.ColregsConfig.{ColregsConfig}
use Rattle.colregs.specs.declared.answer.Ruling.{Ruling}
use Rattle.colregs.specs.Colregs.{ruling_answer}
use Rattle.colregs.specs.Before.{ToWindward}
use Rattle.colregs.proofs.RulesCode.{ruled, refused}
use Rattle.colregs.proofs.ToWindward.{to_windward}
use Rattle.colregs.proofs.rules.rule_of_the_road.Goals as goal

both : (s : Situation) (config : ColregsConfig) (a : Result Ruling Refusal) → a ≡ ruling_answer s config
    → record { is : a ≡ ruling_answer s config; property : ToWindward s config a }
both s config a is = record { is = is; property = subst (ToWindward s config) (sym is) (to_windward s config) }

pub returns-in_err-check_situation : goal.returns-in_err-check_situation
returns-in_err-check_situation c =
    both _ _ _ (handed_on _ _ c.from_residual.ensures.1
    ∙ refused _ _ _ (refused_first (situation_checks c.args.s) (config_checks c.args.config) _ _ c.in_err-check_situation.ensures))

pub returns-in_err-check_config : goal.returns-in_err-check_config
returns-in_err-check_config c =
    both _ _ _ (handed_on _ _ c.from_residual-in_err-check_config.ensures.1
    ∙ refused _ _ _ (accepted (situation_checks c.args.s) (config_checks c.args.config) _ _ c.in_ok-check_situation.ensures c.in_err-check_config.ensures))

pub returns : goal.returns
returns c =
    both _ _ _ (ruled _ _ _ _
    (accepted (situation_checks c.args.s) (config_checks c.args.config) _ _ c.in_ok-check_situation.ensures c.in_ok-check_config.ensures)
    c.geometry_of.ensures c.ruling_of.ensures)
