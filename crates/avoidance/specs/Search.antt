-- The choice among the trials of both sides (01, 'Trial list': 'for each permitted side, starboard
-- first … the first grid trial that clears. The smaller choice wins, starboard on equality. A trial
-- is a side and a magnitude').
use Rattle.std.specs.Prelude.{Bool, cond, List, Float, None, Some}
use Rattle.std.specs.Option.{option_or}
use Rattle.std.specs.Float.Ieee.{neg, lt}
use Rattle.laws.specs.First as Listed
use Rattle.motion.specs.declared.units.Distance.{Distance}
use Rattle.motion.specs.declared.vessel.Vessel.{Vessel}
use Rattle.motion.specs.Vessel.{velocity}
use Rattle.clearance.specs.declared.contact.Target.{Target}
use Rattle.clearance.specs.declared.contact.Moving.{Moving}
use Rattle.avoidance.specs.declared.search.Chosen.{Chosen}
use Rattle.clearance.specs.declared.Clearance.{Clearance}
use Rattle.std.specs.declared.option.Option.{Option}
use Rattle.clearance.specs.Clearing.{altered, clears, clears_computed}
use Rattle.motion.specs.declared.side.Side.{Side}
use Rattle.motion.specs.declared.side.Side.TheVariants.{Starboard, Port}
use Rattle.manoeuvre.specs.Trials.{trials}
use Rattle.motion.specs.declared.side.BySide.{BySide}

-- the alteration of a trial, positive to starboard (the Rust multiplies by 1 or -1, which rounds
-- nothing)
abbrev pub signed : Side → Float → Float
signed Starboard magnitude = magnitude
signed Port magnitude = neg magnitude

-- a trial that clears is a choice
abbrev pub chosen : Side → Float → Option Clearance → Option Chosen
chosen side magnitude None = None
chosen side magnitude (Some clearance) = Some (record { side = side; magnitude = record { 0 = magnitude }; clearance = clearance })

-- ---- the first trial of a list that clears, on one side
abbrev pub chosen_at : (Float → Option Clearance) → Side → Float → Option Chosen
chosen_at clears side magnitude = chosen side magnitude (clears magnitude)

unfoldable pub first : (Float → Option Clearance) → Side → List Float → Option Chosen
first clears side magnitudes = Listed.first (chosen_at clears side) magnitudes

-- starboard's choice and port's: the smaller, starboard on equality
abbrev pub smaller : Option Chosen → Option Chosen → Option Chosen
smaller None port = port
smaller (Some s) None = Some s
smaller (Some s) (Some p) = cond (lt p.magnitude.0 s.magnitude.0) (Some p) (Some s)

-- the choice of a side, where it is permitted
unfoldable pub side_choice : Bool → (Float → Option Clearance) → Side → List Float → Option Chosen
side_choice permitted clears side magnitudes = cond permitted (first clears side magnitudes) None

-- of the first that clears on each permitted side, the smaller
unfoldable pub choice : BySide Bool → (Side → Float → Option Clearance) → List Float → Option Chosen
choice sides clears magnitudes =
    smaller (side_choice sides.starboard (clears Starboard) Starboard magnitudes)
    (side_choice sides.port (clears Port) Port magnitudes)

-- for own craft among targets: a trial clears by `clears`, and the magnitudes are the trial list
unfoldable pub trial_clears : Vessel → List Target → Distance → Side → Float → Option Clearance
trial_clears own targets desired side magnitude = clears own (signed side magnitude) targets desired

unfoldable pub search : Vessel → List Target → Distance → BySide Bool → Float → Float → Option Chosen
search own targets desired sides least most = choice sides (trial_clears own targets desired) (trials least most)

-- ---- what is computed: by magnitude, starboard first
abbrev pub tried : Bool → Side → Float → Option Clearance → Option Chosen
tried permitted side magnitude clearance = cond permitted (chosen side magnitude clearance) None

unfoldable pub both : BySide Bool → (Side → Float → Option Clearance) → Float → Option Chosen
both sides clears magnitude =
    option_or (tried sides.starboard Starboard magnitude (clears Starboard magnitude))
    (tried sides.port Port magnitude (clears Port magnitude))

unfoldable pub between : BySide Bool → (Side → Float → Option Clearance) → List Float → Option Chosen
between sides clears magnitudes = Listed.first (both sides clears) magnitudes

unfoldable pub trial_clears_computed : Vessel → Float → List Moving → Side → Float → Option Clearance
trial_clears_computed own floor scene side magnitude = clears_computed (velocity (altered own (signed side magnitude))) floor scene

unfoldable pub tried_both : Vessel → Float → List Moving → BySide Bool → Float → Option Chosen
tried_both own floor scene sides magnitude = both sides (trial_clears_computed own floor scene) magnitude

unfoldable pub smallest : Vessel → Float → List Moving → BySide Bool → Float → Float → Option Chosen
smallest own floor scene sides least most = between sides (trial_clears_computed own floor scene) (trials least most)
