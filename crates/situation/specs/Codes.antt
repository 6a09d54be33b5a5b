-- Categories and visibilities by number (01, 'Encounter sheet and its program': 'categories: 0
-- power, 1 sailing, tack unknown, 2 port tack, 3 starboard tack, 4 fishing, 5 draught, 6
-- restricted, 7 not under command'; 'visibility (0 in sight, 1 restricted)').
use Rattle.std.specs.Prelude.{ℕ, cond, ◌==◌}
use Rattle.situation.specs.declared.party.Tack.TheVariants as Tack
use Rattle.situation.specs.declared.party.VesselCategory.{VesselCategory}
use Rattle.situation.specs.declared.party.VesselCategory.TheVariants.{PowerDriven, Sailing, Fishing, ConstrainedByDraught, RestrictedInAbilityToManoeuvre, NotUnderCommand}
use Rattle.situation.specs.declared.party.Visibility.{Visibility}
use Rattle.situation.specs.declared.party.Visibility.TheVariants.{InSight, Restricted}

unfoldable pub category_of : ℕ → VesselCategory
category_of code =
    cond (code == 0) PowerDriven
    (cond (code == 1) (Sailing Tack.Unknown)
    (cond (code == 2) (Sailing Tack.Port)
    (cond (code == 3) (Sailing Tack.Starboard)
    (cond (code == 4) Fishing
    (cond (code == 5) ConstrainedByDraught
    (cond (code == 6) RestrictedInAbilityToManoeuvre NotUnderCommand))))))

unfoldable pub visibility_of : ℕ → Visibility
visibility_of code = cond (code == 0) InSight Restricted
