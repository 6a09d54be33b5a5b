-- The laws of the three goals of the search (src/lib.rt, `Goal`): a step that is found is the one
-- that the definition names, and the definition names one.
use Rattle.std.specs.Prelude.{◌≡◌, ℕ, ◌*◌, ◌^◌, ◌≤◌, ◌<◌}
use lib.Dec.{lit<}
use Rattle.grid.specs.Search.{greatest_to, Found}
use Rattle.grid.specs.Grid.{last_step}
use Rattle.grid.specs.Arcsine.{at_most, arcsine_steps, fits_in, upper_steps}
use Rattle.grid.specs.Arctangent.{not_above, arctangent_steps}
use Rattle.grid.proofs.Searching.{found_is}
use Rattle.grid.proofs.Lower.{at_most_falls, at_most-zero, arcsine_found}
use Rattle.grid.proofs.Upper.{upper_is, upper_found}
use Rattle.grid.proofs.Octant.{arctangent_is, arctangent_found}

pub at_most_only : (x A : ℕ) → Found last_step (at_most x) A → A ≡ greatest_to 49 last_step (at_most x)
at_most_only x A r = found_is 49 last_step (at_most x) (at_most_falls x) (at_most-zero x) (lit< tt) A r

pub at_most_named : (x : ℕ) → Found last_step (at_most x) (greatest_to 49 last_step (at_most x))
unfolding arcsine_steps
at_most_named x = arcsine_found x

pub fits_in_only : (e f : ℕ) → 0 < f → 2 ^ 54 ≤ e * (f * f) → (A : ℕ) → Found last_step (fits_in e f) A → A ≡ greatest_to 49 last_step (fits_in e f)
unfolding upper_steps
fits_in_only e f p h A r = upper_is e f p h A r

pub fits_in_named : (e f : ℕ) → 2 ^ 54 ≤ e * (f * f) → Found last_step (fits_in e f) (greatest_to 49 last_step (fits_in e f))
unfolding upper_steps
fits_in_named e f h = upper_found e f h

pub not_above_only : (u w : ℕ) → 2 ^ 57 ≤ u → w ≤ u → (A : ℕ) → Found last_step (not_above u w) A → A ≡ greatest_to 49 last_step (not_above u w)
unfolding arctangent_steps
not_above_only u w h k A r = arctangent_is u w h k A r

pub not_above_named : (u w : ℕ) → Found last_step (not_above u w) (greatest_to 49 last_step (not_above u w))
unfolding arctangent_steps
not_above_named u w = arctangent_found u w
