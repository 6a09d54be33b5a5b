-- The printed number of a rule.
use Rattle.std.specs.Prelude.{ℕ}
use Rattle.colregs.specs.declared.answer.Rule.{Rule}

abbrev pub rule_number : Rule → ℕ
rule_number Rule.Rule12 = 12
rule_number Rule.Rule13 = 13
rule_number Rule.Rule14 = 14
rule_number Rule.Rule15 = 15
rule_number Rule.Rule17 = 17
rule_number Rule.Rule18 = 18
rule_number Rule.Rule19 = 19
