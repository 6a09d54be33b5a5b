-- The ways in which the Rust's ruling departs from the rules' text (Text.antt): a closed list of cases,
-- each with its condition over the facts and with what the ruling says instead. There is no other:
-- proofs/Departing.antt, `by_text_or_departs`. docs/DIFFERENCES.md has the cases in this order.
use Rattle.std.specs.Prelude.{Bool, true, false, ◌&&◌, ◌||◌, not, cond, ℕ, eqb, T}
use mathlib.Core.List.{List, [], ◌∷◌, Memᴰ}
use Rattle.std.specs.Float.Ieee.{lt}
use Rattle.math.specs.Sign.{abs}
use Rattle.math.specs.Fold.{zero, half_turn}
use Rattle.situation.specs.declared.party.Tack.{Tack}
use Rattle.situation.specs.declared.party.VesselCategory.{VesselCategory}
use Rattle.situation.specs.declared.party.VesselCategory.TheVariants.{PowerDriven, Sailing, Fishing, ConstrainedByDraught}
use Rattle.situation.specs.declared.party.VesselCategory.TheVariants.{RestrictedInAbilityToManoeuvre, NotUnderCommand}
use Rattle.situation.specs.declared.party.Visibility.{Visibility}
use Rattle.situation.specs.declared.party.Visibility.TheVariants.{InSight, Restricted}
use Rattle.situation.specs.declared.config.ColregsConfig.{ColregsConfig}
use Rattle.colregs.specs.declared.geometry.Wind.{Wind}
use Rattle.colregs.specs.declared.geometry.Geometry.{Geometry}
use Rattle.colregs.specs.declared.answer.Responsibility.{Responsibility}
use Rattle.colregs.specs.declared.answer.Responsibility.TheVariants.{GiveWay, StandOn, Both, Undetermined}
use Rattle.colregs.specs.declared.answer.Ruling.{Ruling}
use Rattle.colregs.specs.Colregs.{dead_ahead, to_starboard, sailing_vessels, keeps_clear, is_stand_on}
use Rattle.colregs.specs.Text.{Terms, terms, Asks, asks, code, tacks, keeps_out}

-- what a ruling asks, in the text's form
abbrev pub asked : Ruling → Asks
asked r = asks r.responsibility r.manoeuvre.starboard r.manoeuvre.port

-- ---- the tests that the Rust makes beside the rules' terms
pub record Tests : Type 0 where
  -- own vessel is the faster
  pub faster : Bool
  -- the other is within 1e-9 degrees of right ahead, or right astern
  pub in_line : Bool
  -- the side that she counts as being on is starboard: ahead, by the side on which she has own vessel;
  -- and where she lies abeam or abaft in restricted visibility
  pub starboard : Bool
  pub abaft_starboard : Bool

unfoldable pub tests : Geometry → Tests
tests f = record {
  faster = lt f.target_speed.0 f.own_speed.0;
  in_line = lt (abs f.relative) dead_ahead || not (lt (abs f.relative) half_turn);
  starboard = cond (lt (abs f.relative) dead_ahead) (lt f.aspect zero) (lt zero f.relative);
  abaft_starboard = to_starboard f.relative;
}

-- ---- pairs of categories
abbrev pub category_number : VesselCategory → ℕ
category_number PowerDriven = 0
category_number (Sailing tack) = 1
category_number Fishing = 2
category_number ConstrainedByDraught = 3
category_number RestrictedInAbilityToManoeuvre = 4
category_number NotUnderCommand = 5

abbrev pub is_power : VesselCategory → Bool
is_power c = eqb (category_number c) 0

abbrev pub is_sailing : VesselCategory → Bool
is_sailing c = eqb (category_number c) 1

abbrev pub is_fishing : VesselCategory → Bool
is_fishing c = eqb (category_number c) 2

abbrev pub is_draught : VesselCategory → Bool
is_draught c = eqb (category_number c) 3

abbrev pub is_restricted : VesselCategory → Bool
is_restricted c = eqb (category_number c) 4

abbrev pub is_out_of_command : VesselCategory → Bool
is_out_of_command c = eqb (category_number c) 5

-- one of them, in either order
abbrev pub one_of_each : (VesselCategory → Bool) → (VesselCategory → Bool) → VesselCategory → VesselCategory → Bool
one_of_each p q own other = p own && q other || q own && p other

abbrev pub both_are : (VesselCategory → Bool) → VesselCategory → VesselCategory → Bool
both_are p own other = p own && p other

-- two of one category that is neither power-driven nor sailing
abbrev pub two_others : VesselCategory → VesselCategory → Bool
two_others own other = both_are is_fishing own other || (both_are is_restricted own other || both_are is_out_of_command own other)

abbrev pub two_of_power : VesselCategory → VesselCategory → Bool
two_of_power own other = both_are is_power own other || both_are is_draught own other

-- two between which the Rust's order of categories does not decide
abbrev pub one_rank : VesselCategory → VesselCategory → Bool
one_rank own other = two_of_power own other || (both_are is_sailing own other || two_others own other)

-- ---- two sailing vessels, by tacks
abbrev pub tack_of : VesselCategory → Tack
tack_of (Sailing tack) = tack
tack_of PowerDriven = Tack.Unknown
tack_of Fishing = Tack.Unknown
tack_of ConstrainedByDraught = Tack.Unknown
tack_of RestrictedInAbilityToManoeuvre = Tack.Unknown
tack_of NotUnderCommand = Tack.Unknown

-- the text's duty and the Rust's
abbrev pub by_tacks : VesselCategory → VesselCategory → Wind → Responsibility
by_tacks own other w = tacks (tack_of own) (tack_of other) w

abbrev pub ruled_by_tacks : VesselCategory → VesselCategory → Wind → Responsibility
ruled_by_tacks own other w = sailing_vessels (tack_of own) (tack_of other) w

abbrev pub is_duty : Responsibility → Responsibility → Bool
is_duty a b = eqb (code a) (code b)

-- ---- a case: its condition, and what the ruling says where it holds, over the visibility, the
-- categories of own vessel and the other, the wind, the rules' terms and the Rust's tests
pub record Case : Type 0 where
  pub condition : Visibility → VesselCategory → VesselCategory → Wind → Terms → Tests → Bool
  pub instead : Visibility → VesselCategory → VesselCategory → Wind → Terms → Tests → Asks

-- in sight of one another, and neither overtaking
abbrev pub is_in_sight : Visibility → Bool
is_in_sight InSight = true
is_in_sight Restricted = false

abbrev pub beside13 : Visibility → Terms → Bool
beside13 v t = is_in_sight v && (not t.overtaking && not t.overtaken)

-- what the ruling is: by Rules 14, 15 and 17, whatever the vessels are and the range does
abbrev pub by_geometry : Terms → Tests → Asks
by_geometry t x = cond t.ahead (asks Both true false) (asks (cond x.starboard GiveWay StandOn) true false)

-- by the order of categories, where the test says that own vessel is the higher
abbrev pub by_order : Bool → Terms → Asks
by_order higher t = cond higher (asks StandOn true t.ahead) (asks GiveWay true true)

-- by Rule 12
abbrev pub by_duty : Responsibility → Terms → Asks
by_duty duty t = asks duty true (not (is_stand_on duty && not t.ahead))

-- by Rule 19 for a vessel that is not overtaken
abbrev pub by_place : Terms → Tests → Asks
by_place t x = asks Both (t.forward || not x.abaft_starboard) (not t.forward && x.abaft_starboard)

-- ---- the cases
-- 13(a): each comes up from abaft the other's beam, and own vessel is not the faster: she is overtaken
abbrev pub each_from_abaft : Case
each_from_abaft = record {
  condition = λ v own other w t x. t.overtaking && (t.overtaken && not x.faster);
  instead = λ v own other w t x. cond (is_in_sight v) (asks StandOn true true) (by_place t x);
}

-- 18(d)(i): one is power-driven, the other constrained by her draught, who counts as above her
abbrev pub draught_over_power : Case
draught_over_power = record {
  condition = λ v own other w t x. beside13 v t && one_of_each is_draught is_power own other;
  instead = λ v own other w t x. by_order (is_draught own) t;
}

-- 18(a), (d)(i): one is constrained by her draught, the other sailing or fishing, likewise
abbrev pub draught_over_sail_and_fishing : Case
draught_over_sail_and_fishing = record {
  condition = λ v own other w t x.
      beside13 v t && (one_of_each is_draught is_sailing own other || one_of_each is_draught is_fishing own other);
  instead = λ v own other w t x. by_order (is_draught own) t;
}

-- 18(a) to (c): one is not under command, the other restricted in her ability to manoeuvre, likewise
abbrev pub command_over_restricted : Case
command_over_restricted = record {
  condition = λ v own other w t x. beside13 v t && one_of_each is_out_of_command is_restricted own other;
  instead = λ v own other w t x. by_order (is_out_of_command own) t;
}

-- 14(a), 15: two fishing, two restricted or two not under command have Rules 14, 15 and 17 applied
abbrev pub two_of_another_category : Case
two_of_another_category = record {
  condition = λ v own other w t x. beside13 v t && (t.closing && two_others own other);
  instead = λ v own other w t x. by_geometry t x;
}

-- 12(a), 14(a), 15: the range does not close, and these rules are applied
abbrev pub not_closing : Case
not_closing = record {
  condition = λ v own other w t x. beside13 v t && (not t.closing && one_rank own other);
  instead = λ v own other w t x. cond (is_sailing own) (by_duty (ruled_by_tacks own other w) t) (by_geometry t x);
}

-- 12(a)(i), (ii): a tack is not known, and on either the same is asked: undetermined
abbrev pub either_tack : Case
either_tack = record {
  condition = λ v own other w t x.
      beside13 v t && (t.closing && (both_are is_sailing own other && not (is_duty (by_tacks own other w) (ruled_by_tacks own other w))));
  instead = λ v own other w t x. asks Undetermined true true;
}

-- 17(c): a vessel that stands on by Rule 12 or 18 in a crossing is kept from altering to port
abbrev pub stand_on_not_to_port : Case
stand_on_not_to_port = record {
  condition = λ v own other w t x.
      beside13 v t && (not t.ahead && (keeps_clear other own && keeps_out other own
      || t.closing && (both_are is_sailing own other && is_stand_on (ruled_by_tacks own other w))));
  instead = λ v own other w t x. asks StandOn true false;
}

-- 15, 17(c): right ahead or right astern the other counts as on a side
abbrev pub ahead_or_astern : Case
ahead_or_astern = record {
  condition = λ v own other w t x. beside13 v t && (t.closing && (two_of_power own other && (not t.ahead && x.in_line)));
  instead = λ v own other w t x. by_geometry t x;
}

-- 15, 17(a)(i): neither has the other on her starboard side, and own vessel stands on
abbrev pub neither_to_starboard : Case
neither_to_starboard = record {
  condition = λ v own other w t x.
      beside13 v t && (t.closing && (two_of_power own other
      && (not t.ahead && (not x.in_line && (not t.to_starboard && not t.from_starboard)))));
  instead = λ v own other w t x. asks StandOn true false;
}

-- 19(d)(ii): right astern the other counts as on a side
abbrev pub astern_unseen : Case
astern_unseen = record {
  condition = λ v own other w t x. not (is_in_sight v) && (t.closing && (not t.forward && x.in_line));
  instead = λ v own other w t x. by_place t x;
}

-- 19(d): the range does not close, and the rule is applied
abbrev pub not_closing_unseen : Case
not_closing_unseen = record {
  condition = λ v own other w t x. not (is_in_sight v) && not t.closing;
  instead = λ v own other w t x. by_place t x;
}

abbrev pub cases : List Case
cases =
    each_from_abaft
    ∷ draught_over_power
    ∷ draught_over_sail_and_fishing
    ∷ command_over_restricted
    ∷ two_of_another_category
    ∷ not_closing
    ∷ either_tack
    ∷ stand_on_not_to_port
    ∷ ahead_or_astern
    ∷ neither_to_starboard
    ∷ astern_unseen
    ∷ not_closing_unseen
    ∷ []

-- ---- in a situation
unfoldable pub applies : Case → ColregsConfig → Geometry → Bool
applies k config f = k.condition f.visibility f.own f.target f.wind (terms config f) (tests f)

unfoldable pub instead : Case → ColregsConfig → Geometry → Asks
instead k config f = k.instead f.visibility f.own f.target f.wind (terms config f) (tests f)

pub record Departs (config : ColregsConfig) (f : Geometry) : Type 0 where
  pub case : Case
  pub listed : Memᴰ case cases
  pub holds : T (applies case config f)
