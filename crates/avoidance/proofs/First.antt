-- The first trial of a list that clears, on one side: it is of the list, and it is the first element's where that clears.
use Rattle.std.specs.Prelude.{None, Some}
use mathlib.Core.Path.{◌≡◌, refl, ap, subst}
use mathlib.Core.List.{List, Memᴰ}
use lib.Ieee.{Float}
use Rattle.laws.specs.Ascending.{Ascending}
use Rattle.laws.proofs.First.{Below, ascending_in_order, least}
use Rattle.motion.specs.declared.side.Side.{Side}
use Rattle.std.specs.declared.option.Option.{Option}
use Rattle.clearance.specs.declared.Clearance.{Clearance}
use Rattle.avoidance.specs.declared.search.Chosen.{Chosen}
use Rattle.avoidance.specs.Search.{chosen, chosen_at, first}

abbrev which : Chosen → Option Chosen → Chosen
which other None = other
which other (Some c) = c

pub not_found : (c : Chosen) → None ≡ Some c → ⊥
not_found c e = cc

pub same_choice : (c d : Chosen) → Some c ≡ Some d → c ≡ d
same_choice c d e = ap (which c) e

-- what is chosen at a magnitude has it
pub of_magnitude : (side : Side) (m : Float) (k : Option Clearance) (c : Chosen) → chosen side m k ≡ Some c → m ≡ c.magnitude.0
of_magnitude side m None c e = absurd (not_found c e)
of_magnitude side m (Some p) c e = ap (λ c. c.magnitude.0) (same_choice (record { side = side; magnitude = record { 0 = m }; clearance = p }) c e)

pub no_clearance : (side : Side) (m : Float) (k : Option Clearance) → chosen side m k ≡ None → k ≡ None
no_clearance side m None e = refl
no_clearance side m (Some p) e = cc

pub listed : (clears : Float → Option Clearance) (side : Side) (ms : List Float) → Ascending ms → (c : Chosen) → first clears side ms ≡ Some c → Memᴰ c.magnitude.0 ms
unfolding first
listed clears side ms up c e =
    let l = least (chosen_at clears side) Below ms (ascending_in_order ms up) c e in
    subst (λ m. Memᴰ m ms) (of_magnitude side l.it (clears l.it) c l.answer) l.listed
