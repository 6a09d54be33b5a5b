-- COLREGs 1972, Rules 12 to 19, by their text alone: what each paragraph asks of own vessel, over
-- the facts of a situation (Geometry.antt). Nothing of the Rust's is in it. Where the rules leave a
-- figure to judgement, document 01's stands: 22.5 degrees abaft the beam and 6 degrees of 'nearly
-- ahead' (the widths), and 90 degrees for the beam.
--
-- Where a paragraph speaks of what the facts do not hold, a reading is taken (docs/DIFFERENCES.md,
-- 'Outside the facts'): there is risk of collision exactly while the range closes, which is also
-- what 'approaching', 'meeting' and 'coming up' say; what is asked 'if the circumstances admit' or
-- 'so far as possible' is asked; to alter to port for a vessel on own starboard side is to cross
-- ahead of her; a vessel that stands on may act by Rule 17(a)(ii).
use Rattle.std.specs.Prelude.{Bool, true, false, ◌&&◌, ◌||◌, not, cond, ℕ, eqb, List, [], ◌∷◌, Float, None, Some}
use Rattle.std.specs.Float.Ieee.{lt, le}
use Rattle.std.specs.declared.option.Option.{Option}
use Rattle.laws.specs.Ops.{◌⊕◌}
use Rattle.math.specs.Sign.{abs}
use Rattle.math.specs.Fold.{zero, half_turn}
use Rattle.situation.specs.declared.party.Tack.{Tack}
use Rattle.situation.specs.declared.party.VesselCategory.{VesselCategory}
use Rattle.situation.specs.declared.party.VesselCategory.TheVariants.{PowerDriven, Sailing, Fishing, ConstrainedByDraught}
use Rattle.situation.specs.declared.party.VesselCategory.TheVariants.{RestrictedInAbilityToManoeuvre, NotUnderCommand}
use Rattle.situation.specs.declared.party.Visibility.{Visibility}
use Rattle.situation.specs.declared.party.Visibility.TheVariants.{InSight, Restricted}
use Rattle.situation.specs.declared.config.ColregsConfig.{ColregsConfig}
use Rattle.situation.specs.Arguments.{quarter_turn}
use Rattle.colregs.specs.declared.geometry.Windward.{Windward}
use Rattle.colregs.specs.declared.geometry.Wind.{Wind}
use Rattle.colregs.specs.declared.geometry.Geometry.{Geometry}
use Rattle.colregs.specs.declared.answer.Responsibility.{Responsibility}
use Rattle.colregs.specs.declared.answer.Responsibility.TheVariants.{GiveWay, StandOn, Both, Undetermined}

-- ---- the rules' terms, for own vessel and the other
pub record Terms : Type 0 where
  -- the range closes
  pub closing : Bool
  -- Rule 13(b): own vessel is overtaking the other; the other is overtaking own vessel
  pub overtaking : Bool
  pub overtaken : Bool
  -- Rule 14(b): each sees the other ahead or nearly ahead
  pub ahead : Bool
  -- the other is on own starboard side; on own port side; own vessel is on the other's starboard side
  pub to_starboard : Bool
  pub to_port : Bool
  pub from_starboard : Bool
  -- the other is forward of own beam
  pub forward : Bool

-- 'from a direction more than 22.5 degrees abaft her beam'
unfoldable pub more_abaft : ColregsConfig → Float → Bool
more_abaft config angle = lt (quarter_turn ⊕ config.overtaking_abaft_beam.0) (abs angle)

unfoldable pub nearly_ahead : ColregsConfig → Float → Bool
nearly_ahead config angle = le (abs angle) config.head_on_half_width.0

-- a side, without right ahead and right astern
unfoldable pub on_starboard : Float → Bool
on_starboard angle = lt zero angle && lt (abs angle) half_turn

unfoldable pub on_port : Float → Bool
on_port angle = lt angle zero && lt (abs angle) half_turn

unfoldable pub terms : ColregsConfig → Geometry → Terms
terms config f = record {
  closing = f.closing;
  overtaking = f.closing && more_abaft config f.aspect;
  overtaken = f.closing && more_abaft config f.relative;
  ahead = nearly_ahead config f.relative && nearly_ahead config f.aspect;
  to_starboard = on_starboard f.relative;
  to_port = on_port f.relative;
  from_starboard = on_starboard f.aspect;
  forward = lt (abs f.relative) quarter_turn;
}

-- ---- what is asked: own vessel's duty, Undetermined where the rules give none, and whether she is
-- left free to alter to starboard and to port. A paragraph that does not apply asks nothing.
pub record Asks : Type 0 where
  pub duty : Responsibility
  pub starboard : Bool
  pub port : Bool

abbrev pub asks : Responsibility → Bool → Bool → Asks
asks duty starboard port = record { duty = duty; starboard = starboard; port = port }

abbrev pub freely : Responsibility → Option Asks
freely duty = Some (asks duty true true)

-- ---- Rule 13(a): a vessel overtaking another keeps out of the way of the one overtaken
abbrev pub by13 : Terms → Option Asks
by13 t = cond t.overtaking (freely GiveWay) (cond t.overtaken (freely StandOn) None)

-- ---- Rule 18: whether the first keeps out of the way of the second
-- (a) a power-driven vessel of one not under command, restricted in her ability to manoeuvre,
-- fishing, sailing
abbrev pub power_keeps_out : VesselCategory → Bool
power_keeps_out NotUnderCommand = true
power_keeps_out RestrictedInAbilityToManoeuvre = true
power_keeps_out Fishing = true
power_keeps_out (Sailing tack) = true
power_keeps_out PowerDriven = false
power_keeps_out ConstrainedByDraught = false

-- (b) a sailing vessel of the first three
abbrev pub sailing_keeps_out : VesselCategory → Bool
sailing_keeps_out NotUnderCommand = true
sailing_keeps_out RestrictedInAbilityToManoeuvre = true
sailing_keeps_out Fishing = true
sailing_keeps_out (Sailing tack) = false
sailing_keeps_out PowerDriven = false
sailing_keeps_out ConstrainedByDraught = false

-- (c) a vessel fishing of the first two
abbrev pub fishing_keeps_out : VesselCategory → Bool
fishing_keeps_out NotUnderCommand = true
fishing_keeps_out RestrictedInAbilityToManoeuvre = true
fishing_keeps_out Fishing = false
fishing_keeps_out (Sailing tack) = false
fishing_keeps_out PowerDriven = false
fishing_keeps_out ConstrainedByDraught = false

-- a vessel constrained by her draught is power-driven (Rule 3(h)); (d)(i), not to impede her safe
-- passage, is no keeping out of the way and changes no duty
abbrev pub keeps_out : VesselCategory → VesselCategory → Bool
keeps_out PowerDriven other = power_keeps_out other
keeps_out ConstrainedByDraught other = power_keeps_out other
keeps_out (Sailing tack) other = sailing_keeps_out other
keeps_out Fishing other = fishing_keeps_out other
keeps_out RestrictedInAbilityToManoeuvre other = false
keeps_out NotUnderCommand other = false

-- and by Rule 17(a)(i) the other keeps her course and speed
abbrev pub by18 : VesselCategory → VesselCategory → Option Asks
by18 own other = cond (keeps_out own other) (freely GiveWay) (cond (keeps_out other own) (freely StandOn) None)

-- ---- Rule 12(a): two sailing vessels
-- (ii) the wind on the same side: the one to windward keeps out of the way
abbrev pub same_side : Windward → Responsibility
same_side Windward.Own = GiveWay
same_side Windward.Target = StandOn
same_side Windward.Unknown = Undetermined

-- a tack that is not known: what is asked on either, where that is the same
abbrev pub code : Responsibility → ℕ
code GiveWay = 0
code StandOn = 1
code Both = 2
code Undetermined = 3

abbrev pub either_way : Responsibility → Responsibility → Responsibility
either_way a b = cond (eqb (code a) (code b)) a Undetermined

-- (iii) the wind on own port side, and one seen to windward whose tack is not known: own vessel
-- keeps out of the way
abbrev pub to_windward : Bool → Responsibility → Responsibility
to_windward seen rest = cond seen GiveWay rest

-- (i) the wind on different sides: the one with the wind on her port side keeps out of the way
abbrev pub tacks : Tack → Tack → Wind → Responsibility
tacks Tack.Port Tack.Starboard w = GiveWay
tacks Tack.Starboard Tack.Port w = StandOn
tacks Tack.Port Tack.Port w = same_side w.windward
tacks Tack.Starboard Tack.Starboard w = same_side w.windward
tacks Tack.Port Tack.Unknown w = to_windward w.seen_to_windward (either_way (same_side w.windward) GiveWay)
tacks Tack.Starboard Tack.Unknown w = either_way StandOn (same_side w.windward)
tacks Tack.Unknown Tack.Port w = either_way (same_side w.windward) StandOn
tacks Tack.Unknown Tack.Starboard w = either_way GiveWay (same_side w.windward)
tacks Tack.Unknown Tack.Unknown w = Undetermined

abbrev pub sailing_by12 : Bool → Tack → VesselCategory → Wind → Option Asks
sailing_by12 closing own (Sailing other) w = cond closing (freely (tacks own other w)) None
sailing_by12 closing own PowerDriven w = None
sailing_by12 closing own Fishing w = None
sailing_by12 closing own ConstrainedByDraught w = None
sailing_by12 closing own RestrictedInAbilityToManoeuvre w = None
sailing_by12 closing own NotUnderCommand w = None

abbrev pub by12 : Bool → VesselCategory → VesselCategory → Wind → Option Asks
by12 closing (Sailing own) other w = sailing_by12 closing own other w
by12 closing PowerDriven other w = None
by12 closing Fishing other w = None
by12 closing ConstrainedByDraught other w = None
by12 closing RestrictedInAbilityToManoeuvre other w = None
by12 closing NotUnderCommand other w = None

-- ---- Rules 14, 15 and 17: two power-driven vessels
abbrev pub power_driven : VesselCategory → Bool
power_driven PowerDriven = true
power_driven ConstrainedByDraught = true
power_driven (Sailing tack) = false
power_driven Fishing = false
power_driven RestrictedInAbilityToManoeuvre = false
power_driven NotUnderCommand = false

abbrev pub two_power_driven : VesselCategory → VesselCategory → Bool
two_power_driven own other = power_driven own && power_driven other

-- 14(a), (b): meeting on reciprocal or nearly reciprocal courses, each alters to starboard
abbrev pub by14 : VesselCategory → VesselCategory → Terms → Option Asks
by14 own other t = cond (two_power_driven own other && (t.closing && t.ahead)) (Some (asks Both true false)) None

-- 15: crossing, which is neither overtaking nor meeting so: the one that has the other on her own
-- starboard side keeps out of the way, and does not cross ahead
abbrev pub by15 : VesselCategory → VesselCategory → Terms → Option Asks
by15 own other t = cond (two_power_driven own other && (t.closing && t.to_starboard)) (Some (asks GiveWay true false)) None

-- 17(a)(i): where that is the other, own vessel keeps her course and speed; (c) and does not alter to
-- port for a vessel on her own port side
abbrev pub by17 : VesselCategory → VesselCategory → Terms → Option Asks
by17 own other t = cond (two_power_driven own other && (t.closing && t.from_starboard)) (Some (asks StandOn true (not t.to_port))) None

-- ---- Rule 19(d): each acts in ample time, and avoids (i) an alteration to port for a vessel forward
-- of the beam, other than one being overtaken, (ii) one towards a vessel abeam or abaft the beam
abbrev pub by19 : Terms → Option Asks
by19 t = cond t.closing (Some (asks Both (t.forward || not t.to_starboard) (cond t.forward t.overtaking (not t.to_port)))) None

-- ---- the order: vessels not in sight of one another, Rule 19; else Rule 13 'notwithstanding', then
-- 18 'except where Rule 13 requires otherwise', then the others
abbrev pub paragraphs : Visibility → VesselCategory → VesselCategory → Wind → Terms → List (Option Asks)
paragraphs Restricted own other w t = by19 t ∷ []
paragraphs InSight own other w t =
    by13 t ∷ by18 own other ∷ by12 t.closing own other w ∷ by14 own other t ∷ by15 own other t ∷ by17 own other t ∷ []

abbrev pub or_next : Option Asks → Asks → Asks
or_next (Some a) rest = a
or_next None rest = rest

unfoldable pub first_asked : List (Option Asks) → Asks
first_asked [] = asks Undetermined true true
first_asked (p ∷ ps) = or_next p (first_asked ps)

unfoldable pub text : ColregsConfig → Geometry → Asks
text config f = first_asked (paragraphs f.visibility f.own f.target f.wind (terms config f))
