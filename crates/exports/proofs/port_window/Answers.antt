use Rattle.std.proofs.Common.{ap, ◌∙◌}
use Rattle.exports.specs.Plots.{window_word}
use Rattle.exports.proofs.PlotsCode.{window_is}
use Rattle.exports.proofs.port_window.Goals as goal

pub returns : goal.returns
returns c = c.window_word.ensures ∙ ap (λ r. window_word r c.args.part) (c.run.ensures ∙ window_is c.args.words.now)
