-- Whether the traffic is clear on a course (avoidance.rs, `clears`; 01, 'Trial list': 'a trial
-- clears if no contact, by `closest_point_of_approach` on the altered course, closes under desired
-- minus 1e-9. A contact's passing distance is its CPA on that course if closing there, else its
-- present range. The limiting contact is the first with the least passing distance').
use Rattle.std.specs.Prelude.{◌≡◌, cond, List, [], ◌∷◌, map, ℕ, suc, ◌<◌, length, slice_index_or, Float, None, Some}
use Rattle.std.specs.Option.{unwrap_or}
use Rattle.std.specs.Float.{binary64}
use Rattle.std.specs.Float.Ieee.{lt, of_bits}
use Rattle.laws.specs.Ops.{◌⊕◌, ◌⊖◌}
use Rattle.math.specs.Fold.{whole_fold}
use Rattle.motion.specs.declared.units.Distance.{Distance}
use Rattle.motion.specs.declared.vessel.Vessel.{Vessel}
use Rattle.motion.specs.declared.vessel.Components.{Components}
use Rattle.std.specs.declared.option.Option.{Option}
use Rattle.clearance.specs.declared.contact.Target.{Target}
use Rattle.clearance.specs.declared.contact.Moving.{Moving}
pub use Rattle.clearance.specs.Contact.{cleared, cleared_answer}
unfoldable pub use Rattle.clearance.specs.Contact.{contact_clears, moving, contact_clears_computed}
use Rattle.clearance.specs.declared.Clearance.{Clearance}

-- 1e-9: an exact answer lands on the distance that is wanted
abbrev pub tolerance : Float
tolerance = of_bits binary64 0x3e11_2e0b_e826_d695

-- the largest f64
abbrev pub largest : Float
largest = of_bits binary64 0x7fef_ffff_ffff_ffff

-- own craft with her course altered, positive to starboard
unfoldable pub altered : Vessel → Float → Vessel
altered own alteration = record { course = record { 0 = whole_fold (own.course.0 ⊕ alteration) }; speed = own.speed }

-- desired minus 1e-9
unfoldable pub floor_of : Distance → Float
floor_of desired = desired.0 ⊖ tolerance

-- ---- all contacts: the first that passes closest, by its place in the list

abbrev pub least : Distance → ℕ → Clearance
least d place = record { distance = d; limiting = Some place }

-- the one that passes closest so far, and one more at a place: of equals the earlier
unfoldable pub nearer : Option Clearance → ℕ → Distance → Clearance
nearer None place d = least d place
nearer (Some l) place d = cond (lt d.0 l.distance.0) (least d place) l

-- the largest f64 and nobody without contacts
abbrev pub nobody : Clearance
nobody = record { distance = record { 0 = largest }; limiting = None }

-- over a list, from a place on: one that blocks decides
unfoldable pub tally : ℕ → Option Clearance → List (Option Distance) → Option Clearance
tally place closest [] = Some (unwrap_or closest nobody)
tally place closest (None ∷ ps) = None
tally place closest (Some d ∷ ps) = tally (suc place) (Some (nearer closest place d)) ps

unfoldable pub clearing : List (Option Distance) → Option Clearance
clearing ps = tally 0 None ps

-- whether own craft, altered, clears every target
unfoldable pub clears : Vessel → Float → List Target → Distance → Option Clearance
clears own alteration targets desired = clearing (map (contact_clears (altered own alteration) (floor_of desired)) targets)

-- ---- what is computed: by `contact_clears_computed` of each contact

-- the contact at a place blocks
abbrev pub Blocks : Components → Float → List Moving → ℕ → Type 0
Blocks own floor ms place = (place < length ms) × ((m : Moving) → contact_clears_computed own floor (slice_index_or ms place m) ≡ None)

unfoldable pub clears_computed : Components → Float → List Moving → Option Clearance
clears_computed own floor ms = clearing (map (contact_clears_computed own floor) ms)
