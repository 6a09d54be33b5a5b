use mathlib.Core.Path.{refl, ap, ◌∙◌}
use Rattle.laws.proofs.Parts.{eighth-is}
use Rattle.slowing_search.specs.Slowing.{trial_speeds, down_from}
use Rattle.slowing_search.specs.Computed.{part_of}
use Rattle.slowing_search.proofs.pairs.trial_speeds.Goals as goal

pub returns : goal.returns
unfolding trial_speeds down_from
returns c =
    let at = part_of c.args.own in
    rw (c.part_of.ensures ∙ ap at eighth-is.8, c.part_of-2.ensures ∙ ap at eighth-is.7, c.part_of-3.ensures ∙ ap at eighth-is.6)
    (rw (c.part_of-4.ensures ∙ ap at eighth-is.5, c.part_of-5.ensures ∙ ap at eighth-is.4, c.part_of-6.ensures ∙ ap at eighth-is.3)
    (rw (c.part_of-7.ensures ∙ ap at eighth-is.2, c.part_of-8.ensures ∙ ap at eighth-is.1) refl))
