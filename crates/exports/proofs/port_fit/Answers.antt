use Rattle.std.proofs.Common.{ap, ◌∙◌}
use Rattle.track.specs.Fit.{fit_answer}
use Rattle.exports.specs.Answers.{word, motion_words}
use Rattle.exports.proofs.PlotsCode.{fit_is}
use Rattle.exports.proofs.port_fit.Goals as goal

pub returns : goal.returns
returns c =
    let answer = c.fit.ensures.is ∙ ap (λ r. fit_answer r.held) c.run.ensures ∙ fit_is c.args.words.now in
    c.word.ensures ∙ ap (λ ws. word ws c.args.part) (c.motion_words.ensures ∙ ap motion_words answer)
