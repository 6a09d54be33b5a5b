-- What a rule says of own craft's duty, as the decision by it; none where it does not apply.
use Rattle.std.specs.Prelude.{None, Some}
use Rattle.std.specs.declared.option.Option.{Option}
use Rattle.colregs.specs.declared.answer.Rule.{Rule}
use Rattle.colregs.specs.declared.answer.Decision.{Decision}
use Rattle.colregs.specs.Colregs.{Says, silent, says}

abbrev pub said : Rule → Says → Option Decision
said number silent = None
said number (says duty) = Some (record { responsibility = duty; rule = number })
