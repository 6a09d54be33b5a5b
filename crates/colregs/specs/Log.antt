-- What a reader of rulings may rely on: one kind of encounter, a rule that decides, the sides that
-- are permitted.
use Rattle.std.specs.Prelude.{◌≡◌, Bool, true, false, ◌&&◌, ◌||◌, not, cond, T, List, [], ◌∷◌, Float}
use Rattle.situation.specs.declared.config.ColregsConfig.{ColregsConfig}
use Rattle.colregs.specs.declared.geometry.Geometry.{Geometry}
use Rattle.motion.specs.declared.side.Side.{Side}
use Rattle.motion.specs.declared.side.Side.TheVariants.{Port, Starboard}
use Rattle.colregs.specs.declared.answer.Encounter.{Encounter}
use Rattle.colregs.specs.declared.answer.Encounter.TheVariants.{Overtaking, BeingOvertaken, HeadOn, Crossing}
use Rattle.colregs.specs.declared.answer.Responsibility.{Responsibility}
use Rattle.colregs.specs.declared.answer.Responsibility.TheVariants.{GiveWay, StandOn, Both, Undetermined}
use Rattle.colregs.specs.declared.answer.Rule.{Rule}
use Rattle.colregs.specs.declared.answer.Rule.TheVariants.{Rule12, Rule13, Rule14, Rule15, Rule17, Rule18, Rule19}
use Rattle.colregs.specs.declared.answer.Ruling.{Ruling}
use Rattle.colregs.specs.Colregs.{Says, silent, says, Clause, own_overtakes, target_overtakes, is_head_on, side_of, forward_of_beam, to_starboard}
use Rattle.colregs.specs.Colregs.{is_overtaking}

-- ---- exactly one kind of encounter
abbrev pub same_side : Side → Side → Bool
same_side Port Port = true
same_side Port Starboard = false
same_side Starboard Port = false
same_side Starboard Starboard = true

abbrev pub nobody_overtakes : ColregsConfig → Geometry → Bool
nobody_overtakes config f = not (own_overtakes config f) && not (target_overtakes config f)

-- whether an encounter is of a kind, by that kind's own test
abbrev pub is_kind : ColregsConfig → Geometry → Encounter → Bool
is_kind config f Overtaking = own_overtakes config f
is_kind config f BeingOvertaken = target_overtakes config f
is_kind config f HeadOn = nobody_overtakes config f && is_head_on config f
is_kind config f (Crossing side) = nobody_overtakes config f && (not (is_head_on config f) && same_side side (side_of f))

pub record OneKind (config : ColregsConfig) (f : Geometry) : Type 0 where
  pub kind : Encounter
  pub holds : T (is_kind config f kind)
  pub only : (e : Encounter) → T (is_kind config f e) → e ≡ kind

-- ---- some rule speaks
abbrev pub speaks : Says → Bool
speaks silent = false
speaks (says duty) = true

abbrev pub some_speaks : List Clause → Bool
some_speaks [] = false
some_speaks (c ∷ cs) = speaks c.text || some_speaks cs

-- ---- the sides that are permitted
pub record Row : Type 0 where
  pub rule : Rule
  pub duty : Responsibility
  pub encounter : Encounter
  pub starboard : Bool
  pub port : Bool

abbrev pub row : Rule → Responsibility → Encounter → Bool → Bool → Row
row rule duty encounter starboard port = record { rule = rule; duty = duty; encounter = encounter; starboard = starboard; port = port }

-- the row of a ruling
unfoldable pub row_of : Ruling → Row
row_of r = row r.rule r.responsibility r.encounter r.manoeuvre.starboard r.manoeuvre.port

pub data In (r : Row) : List Row → Type 0 where
  here : {rs : List Row} → In r (r ∷ rs)
  there : {s : Row} {rs : List Row} → In r rs → In r (s ∷ rs)

-- vessels in sight of one another: every combination that occurs
abbrev pub in_sight : List Row
in_sight =
    row Rule13 GiveWay Overtaking true true
    ∷ row Rule13 StandOn BeingOvertaken true true
    ∷ row Rule18 GiveWay HeadOn true true
    ∷ row Rule18 GiveWay (Crossing Port) true true
    ∷ row Rule18 GiveWay (Crossing Starboard) true true
    ∷ row Rule18 StandOn HeadOn true true
    ∷ row Rule18 StandOn (Crossing Port) true false
    ∷ row Rule18 StandOn (Crossing Starboard) true false
    ∷ row Rule12 GiveWay HeadOn true true
    ∷ row Rule12 GiveWay (Crossing Port) true true
    ∷ row Rule12 GiveWay (Crossing Starboard) true true
    ∷ row Rule12 StandOn HeadOn true true
    ∷ row Rule12 StandOn (Crossing Port) true false
    ∷ row Rule12 StandOn (Crossing Starboard) true false
    ∷ row Rule12 Undetermined HeadOn true true
    ∷ row Rule12 Undetermined (Crossing Port) true true
    ∷ row Rule12 Undetermined (Crossing Starboard) true true
    ∷ row Rule14 Both HeadOn true false
    ∷ row Rule15 GiveWay (Crossing Starboard) true false
    ∷ row Rule17 StandOn (Crossing Port) true false
    ∷ []

-- restricted visibility, by where the target lies: forward of the beam, or to starboard or to port
-- of it or abaft
abbrev pub restricted : Encounter → Float → Row
restricted e relative =
    cond (forward_of_beam relative) (row Rule19 Both e true (is_overtaking e))
    (cond (to_starboard relative) (row Rule19 Both e false true) (row Rule19 Both e true false))
