-- Who keeps out of the way: Rule 18's table is the order of ranks, and what the code of the rules owes.
use mathlib.Core.Path.{◌≡◌, refl, sym, ap, ◌∙◌}
use Prim.Native.Nat.{ℕ, ◌≤◌, ◌<◌}
use lib.Dec.{ltb}
use Rattle.std.specs.Option.{unwrap_or}
use borrow.Author.Tests.{lt-ltb, le-ltb}
use Rattle.situation.specs.declared.party.VesselCategory.{VesselCategory}
use Rattle.situation.specs.declared.party.VesselCategory.TheVariants.{PowerDriven, Sailing, Fishing, ConstrainedByDraught, RestrictedInAbilityToManoeuvre}
use Rattle.situation.specs.declared.party.VesselCategory.TheVariants.{NotUnderCommand}
use Rattle.colregs.specs.declared.geometry.Wind.{Wind}
use Rattle.colregs.specs.declared.answer.Encounter.{Encounter}
use Rattle.colregs.specs.declared.answer.Responsibility.TheVariants.{GiveWay, StandOn}
use Rattle.colregs.specs.declared.answer.Rule.TheVariants.{Rule12, Rule18}
use Rattle.colregs.specs.declared.answer.Decision.{Decision}
use Rattle.situation.specs.Situation.{precedence}
use Rattle.colregs.specs.Said.{said}
use Rattle.colregs.specs.Colregs.{Says, silent, says, keeps_clear, rule12, rule18, unless_silent, decided, one_rank, ranks_first}

-- what a rule says, before the rules after it
first : (text : Says) (rest : Decision) → unwrap_or (said Rule12 text) rest ≡ unless_silent text Rule12 rest
first silent rest = refl
first (says duty) rest = refl

-- of two vessels the one of the lower rank keeps out of the way
pub rank : (a b : VesselCategory) → keeps_clear a b ≡ ltb (precedence a) (precedence b)
rank PowerDriven PowerDriven = refl
rank PowerDriven (Sailing other) = refl
rank PowerDriven Fishing = refl
rank PowerDriven ConstrainedByDraught = refl
rank PowerDriven RestrictedInAbilityToManoeuvre = refl
rank PowerDriven NotUnderCommand = refl
rank (Sailing tack) PowerDriven = refl
rank (Sailing tack) (Sailing other) = refl
rank (Sailing tack) Fishing = refl
rank (Sailing tack) ConstrainedByDraught = refl
rank (Sailing tack) RestrictedInAbilityToManoeuvre = refl
rank (Sailing tack) NotUnderCommand = refl
rank Fishing PowerDriven = refl
rank Fishing (Sailing other) = refl
rank Fishing Fishing = refl
rank Fishing ConstrainedByDraught = refl
rank Fishing RestrictedInAbilityToManoeuvre = refl
rank Fishing NotUnderCommand = refl
rank ConstrainedByDraught PowerDriven = refl
rank ConstrainedByDraught (Sailing other) = refl
rank ConstrainedByDraught Fishing = refl
rank ConstrainedByDraught ConstrainedByDraught = refl
rank ConstrainedByDraught RestrictedInAbilityToManoeuvre = refl
rank ConstrainedByDraught NotUnderCommand = refl
rank RestrictedInAbilityToManoeuvre PowerDriven = refl
rank RestrictedInAbilityToManoeuvre (Sailing other) = refl
rank RestrictedInAbilityToManoeuvre Fishing = refl
rank RestrictedInAbilityToManoeuvre ConstrainedByDraught = refl
rank RestrictedInAbilityToManoeuvre RestrictedInAbilityToManoeuvre = refl
rank RestrictedInAbilityToManoeuvre NotUnderCommand = refl
rank NotUnderCommand PowerDriven = refl
rank NotUnderCommand (Sailing other) = refl
rank NotUnderCommand Fishing = refl
rank NotUnderCommand ConstrainedByDraught = refl
rank NotUnderCommand RestrictedInAbilityToManoeuvre = refl
rank NotUnderCommand NotUnderCommand = refl

module _ (e : Encounter) (own target : VesselCategory) (w : Wind) (o t : ℕ) (is-own : o ≡ precedence own) (is-target : t ≡ precedence target) where
  own_clear : keeps_clear own target ≡ ltb o t
  own_clear = rank own target ∙ ap (λ n. ltb n (precedence target)) (sym is-own) ∙ ap (λ n. ltb o n) (sym is-target)

  target_clear : keeps_clear target own ≡ ltb t o
  target_clear = rank target own ∙ ap (λ n. ltb n (precedence own)) (sym is-target) ∙ ap (λ n. ltb t n) (sym is-own)

  pub lower : o < t → ◌≡◌ {A = Decision} (record { responsibility = GiveWay; rule = Rule18 }) (decided (ranks_first e own target w))
  unfolding decided rule18
  lower lt = rw own_clear rw (lt-ltb o t lt) refl

  module _ (not_lower : t ≤ o) where
    pub higher : t < o → ◌≡◌ {A = Decision} (record { responsibility = StandOn; rule = Rule18 }) (decided (ranks_first e own target w))
    unfolding decided rule18
    higher lt = rw own_clear rw (le-ltb o t not_lower) rw target_clear rw (lt-ltb t o lt) refl

    pub equal : o ≤ t → unwrap_or (said Rule12 (rule12 own target w)) (decided (one_rank e)) ≡ decided (ranks_first e own target w)
    unfolding decided rule18
    equal le = rw own_clear rw (le-ltb o t not_lower) rw target_clear rw (le-ltb t o le) (first (rule12 own target w) (decided (one_rank e)))
