-- A test that holds for all values of what it takes, where these are few: each is tried. So it is with
-- tests that are true or false, categories, what the wind says, visibilities and encounters.
use mathlib.Core.Bool.{Bool, true, false, ◌&&◌}
use Prim.Native.Nat.{ℕ, zero, suc}
use lib.Dec.{T}
use lib.Ieee.Fits.{and_l, and_r}
use Rattle.situation.specs.declared.party.Tack.{Tack}
use Rattle.situation.specs.declared.party.VesselCategory.{VesselCategory}
use Rattle.situation.specs.declared.party.VesselCategory.TheVariants.{PowerDriven, Sailing, Fishing, ConstrainedByDraught, RestrictedInAbilityToManoeuvre}
use Rattle.situation.specs.declared.party.VesselCategory.TheVariants.{NotUnderCommand}
use Rattle.colregs.specs.declared.geometry.Windward.{Windward}
use Rattle.colregs.specs.declared.geometry.Wind.{Wind}
use Rattle.situation.specs.declared.party.Visibility.{Visibility}
use Rattle.situation.specs.declared.party.Visibility.TheVariants.{InSight, Restricted}
use Rattle.motion.specs.declared.side.Side.TheVariants.{Port, Starboard}
use Rattle.colregs.specs.declared.answer.Encounter.{Encounter}
use Rattle.colregs.specs.declared.answer.Encounter.TheVariants.{Overtaking, BeingOvertaken, HeadOn, Crossing}

-- ---- n tests
abbrev pub Tests_of : ℕ → Type 0
Tests_of zero = Bool
Tests_of (suc n) = Bool → Tests_of n

abbrev pub all : (n : ℕ) → Tests_of n → Bool
all zero P = P
all (suc n) P = all n (P true) && all n (P false)

abbrev pub Always : (n : ℕ) → Tests_of n → Type 0
Always zero P = T P
Always (suc n) P = (b : Bool) → Always n (P b)

pub either_value : (n : ℕ) (P : Bool → Tests_of n) → Always n (P true) → Always n (P false) → (b : Bool) → Always n (P b)
either_value n P h k true = h
either_value n P h k false = k

pub always : (n : ℕ) (P : Tests_of n) → T (all n P) → Always n P
always zero P h = h
always (suc n) P h =
    either_value n P (always n (P true) (and_l (all n (P true)) _ h)) (always n (P false) (and_r (all n (P true)) _ h))

abbrev pub all_tacks : (Tack → Bool) → Bool
all_tacks P = P Tack.Port && (P Tack.Starboard && P Tack.Unknown)

pub any_tack : (P : Tack → Bool) → T (all_tacks P) → (t : Tack) → T (P t)
any_tack P h Tack.Port = and_l (P Tack.Port) _ h
any_tack P h Tack.Starboard = and_l (P Tack.Starboard) _ (and_r (P Tack.Port) _ h)
any_tack P h Tack.Unknown = and_r (P Tack.Starboard) _ (and_r (P Tack.Port) _ h)

-- what the wind says of both, in all ways
abbrev wind_by : (Wind → Bool) → Windward → Bool → Bool
wind_by P windward seen = P (record { windward = windward; seen_to_windward = seen })

abbrev pub all_winds : (Wind → Bool) → Bool
all_winds P = all 1 (wind_by P Windward.Own) && (all 1 (wind_by P Windward.Target) && all 1 (wind_by P Windward.Unknown))

pub any_wind : (P : Wind → Bool) → T (all_winds P) → (w : Wind) → T (P w)
any_wind P h w = go w.windward
  where
    rest : T (all 1 (wind_by P Windward.Target) && all 1 (wind_by P Windward.Unknown))
    rest = and_r (all 1 (wind_by P Windward.Own)) _ h

    go : (windward : Windward) → T (wind_by P windward w.seen_to_windward)
    go Windward.Own = always 1 (wind_by P Windward.Own) (and_l (all 1 (wind_by P Windward.Own)) _ h) w.seen_to_windward
    go Windward.Target = always 1 (wind_by P Windward.Target) (and_l (all 1 (wind_by P Windward.Target)) _ rest) w.seen_to_windward
    go Windward.Unknown = always 1 (wind_by P Windward.Unknown) (and_r (all 1 (wind_by P Windward.Target)) _ rest) w.seen_to_windward

abbrev pub all_categories : (VesselCategory → Bool) → Bool
all_categories P =
    all_tacks (λ t. P (Sailing t))
    && (P PowerDriven && (P Fishing && (P ConstrainedByDraught && (P RestrictedInAbilityToManoeuvre && P NotUnderCommand))))

pub any_category : (P : VesselCategory → Bool) → T (all_categories P) → (c : VesselCategory) → T (P c)
any_category P h = go (all_tacks (λ t. P (Sailing t))) (any_tack (λ t. P (Sailing t))) h
  where
    go : (b : Bool) → (T b → (t : Tack) → T (P (Sailing t)))
        → T (b && (P PowerDriven && (P Fishing && (P ConstrainedByDraught && (P RestrictedInAbilityToManoeuvre && P NotUnderCommand)))))
        → (c : VesselCategory) → T (P c)
    go b f h (Sailing t) = f (and_l b _ h) t
    go b f h PowerDriven = and_l (P PowerDriven) _ (and_r b _ h)
    go b f h Fishing = and_l (P Fishing) _ (and_r (P PowerDriven) _ (and_r b _ h))
    go b f h ConstrainedByDraught = and_l (P ConstrainedByDraught) _ (and_r (P Fishing) _ (and_r (P PowerDriven) _ (and_r b _ h)))
    go b f h RestrictedInAbilityToManoeuvre =
        and_l (P RestrictedInAbilityToManoeuvre) _ (and_r (P ConstrainedByDraught) _ (and_r (P Fishing) _ (and_r (P PowerDriven) _ (and_r b _ h))))
    go b f h NotUnderCommand =
        and_r (P RestrictedInAbilityToManoeuvre) _ (and_r (P ConstrainedByDraught) _ (and_r (P Fishing) _ (and_r (P PowerDriven) _ (and_r b _ h))))

abbrev pub all_pairs : (VesselCategory → VesselCategory → Wind → Bool) → Bool
all_pairs P = all_categories (λ own. all_categories (λ other. all_winds (λ w. P own other w)))

pub any_pair : (P : VesselCategory → VesselCategory → Wind → Bool) → T (all_pairs P) → (own other : VesselCategory) (w : Wind) → T (P own other w)
any_pair P h own other w =
    any_wind (λ w. P own other w)
    (any_category (λ other. all_winds (λ w. P own other w)) (any_category (λ own. all_categories (λ other. all_winds (λ w. P own other w))) h own) other) w

-- ---- visibilities and kinds of encounter
abbrev pub all_visibilities : (Visibility → Bool) → Bool
all_visibilities P = P InSight && P Restricted

pub any_visibility : (P : Visibility → Bool) → T (all_visibilities P) → (v : Visibility) → T (P v)
any_visibility P h InSight = and_l (P InSight) _ h
any_visibility P h Restricted = and_r (P InSight) _ h

abbrev pub all_encounters : (Encounter → Bool) → Bool
all_encounters P = P Overtaking && (P BeingOvertaken && (P HeadOn && (P (Crossing Port) && P (Crossing Starboard))))

pub any_encounter : (P : Encounter → Bool) → T (all_encounters P) → (e : Encounter) → T (P e)
any_encounter P h Overtaking = and_l (P Overtaking) _ h
any_encounter P h BeingOvertaken = and_l (P BeingOvertaken) _ (and_r (P Overtaking) _ h)
any_encounter P h HeadOn = and_l (P HeadOn) _ (and_r (P BeingOvertaken) _ (and_r (P Overtaking) _ h))
any_encounter P h (Crossing Port) = and_l (P (Crossing Port)) _ (and_r (P HeadOn) _ (and_r (P BeingOvertaken) _ (and_r (P Overtaking) _ h)))
any_encounter P h (Crossing Starboard) = and_r (P (Crossing Port)) _ (and_r (P HeadOn) _ (and_r (P BeingOvertaken) _ (and_r (P Overtaking) _ h)))
