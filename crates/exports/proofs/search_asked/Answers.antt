use mathlib.Core.Path.{◌≡◌, refl, ap, ◌∙◌}
use mathlib.Core.List.{map}
use lib.Seq.{take_all}
use Rattle.motion.specs.Capacity.{max_contacts}
use Rattle.clearance.specs.Clearing.{floor_of, moving}
use Rattle.clearance.specs.Traffic.{targets}
use Rattle.exports.specs.Arguments.{entries}
use Rattle.exports.proofs.search_asked.Goals as goal

-- the scene has all contacts
listed : (c : goal.After-smallest) → c.deref-2.result.now ≡ map moving (targets (entries c.args.words.now))
listed c =
    c.deref-2.ensures.0 ∙ c.scene_of-scene.ensures
    ∙ ap (λ es. map moving (targets es)) (take_all max_contacts c.deref.result.now c.deref.ensures.1 ∙ c.deref.ensures.0 ∙ c.entries.ensures)

pub returns : goal.returns
unfolding floor_of
returns c =
    rw (
      c.smallest.ensures,
      c.new.ensures.own,
      c.new.ensures.floor,
      c.new.ensures.scene,
      listed c,
      c.from.ensures,
      c.sides.ensures,
      c.code.ensures,
      c.desired.ensures,
      c.trials.ensures.least,
      c.trials.ensures.most,
      c.own.ensures,
    ) refl
