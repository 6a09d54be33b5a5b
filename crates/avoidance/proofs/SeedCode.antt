-- With one side alone the trials of both sides together are the first of that side.
use Rattle.std.specs.Prelude.{List, None, Some}
use Rattle.std.specs.Option.{option_or}
use mathlib.Core.Path.{◌≡◌, refl}
use lib.Ieee.{Float}
use Rattle.laws.proofs.First.{agree}
use Rattle.motion.specs.declared.vessel.Vessel.{Vessel}
use Rattle.clearance.specs.declared.Clearance.{Clearance}
use Rattle.std.specs.declared.option.Option.{Option}
use Rattle.motion.specs.declared.side.Side.{Side}
use Rattle.motion.specs.declared.side.Side.TheVariants.{Starboard, Port}
use Rattle.manoeuvre.specs.Trials.{trials}
use Rattle.clearance.specs.declared.contact.Moving.{Moving}
use Rattle.avoidance.specs.declared.search.Chosen.{Chosen}
use Rattle.avoidance.specs.Search.{chosen, chosen_at, first, both, between, trial_clears_computed, smallest}
use Rattle.avoidance.specs.Seeds.{only}

or_nothing : (c : Option Chosen) → option_or c None ≡ c
or_nothing None = refl
or_nothing (Some x) = refl

alone : (side : Side) (clears : Side → Float → Option Clearance) (m : Float) → both (only side) clears m ≡ chosen side m (clears side m)
unfolding both
alone Starboard clears m = or_nothing (chosen Starboard m (clears Starboard m))
alone Port clears m = refl

pub trials_alone : (own : Vessel) (scene : List Moving) (floor : Float) (side : Side) (least most : Float)
    → smallest own floor scene (only side) least most ≡ first (trial_clears_computed own floor scene side) side (trials least most)
unfolding smallest between first
trials_alone own scene floor side least most =
    let clears = trial_clears_computed own floor scene in
    agree (both (only side) clears) (chosen_at (clears side) side) (trials least most) (λ m h. alone side clears m)
