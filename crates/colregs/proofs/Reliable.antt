-- Rulings can be relied on: one kind of encounter, a rule that decides, the permitted sides as the tables have them, at least one of them.
use mathlib.Core.Path.{◌≡◌, refl, sym, ap, ◌∙◌, subst}
use mathlib.Core.Bool.{Bool, true, false, ◌&&◌, ◌||◌, not, cond}
use lib.Dec.{T}
use mathlib.Core.List.{List, [], ◌∷◌}
use Prim.Native.Nat.{ℕ, zero, suc}
use lib.Ieee.{Float}
use Rattle.laws.proofs.Bools.{or_right}
use Rattle.situation.specs.declared.party.Visibility.{Visibility}
use Rattle.situation.specs.declared.party.Visibility.TheVariants.{InSight, Restricted}
use Rattle.situation.specs.declared.party.VesselCategory.{VesselCategory}
use Rattle.situation.specs.declared.party.VesselCategory.TheVariants.{PowerDriven, Sailing, Fishing, ConstrainedByDraught, RestrictedInAbilityToManoeuvre}
use Rattle.situation.specs.declared.party.VesselCategory.TheVariants.{NotUnderCommand}
use Rattle.situation.specs.declared.party.Tack.{Tack}
use Rattle.colregs.specs.declared.geometry.Windward.{Windward}
use Rattle.colregs.specs.declared.geometry.Wind.{Wind}
use Rattle.situation.specs.declared.config.ColregsConfig.{ColregsConfig}
use Rattle.colregs.specs.declared.geometry.Geometry.{Geometry}
use Rattle.motion.specs.declared.side.Side.{Side}
use Rattle.motion.specs.declared.side.Side.TheVariants.{Port, Starboard}
use Rattle.colregs.specs.declared.answer.Encounter.{Encounter}
use Rattle.colregs.specs.declared.answer.Encounter.TheVariants.{Overtaking, BeingOvertaken, HeadOn, Crossing}
use Rattle.colregs.specs.declared.answer.Responsibility.{Responsibility}
use Rattle.colregs.specs.declared.answer.Responsibility.TheVariants.{GiveWay, StandOn, Both, Undetermined}
use Rattle.colregs.specs.declared.answer.Rule.{Rule}
use Rattle.colregs.specs.declared.answer.Rule.TheVariants.{Rule12, Rule13, Rule14, Rule15, Rule17, Rule18, Rule19}
use Rattle.colregs.specs.Colregs.{Says, silent, says, clause, own_overtakes, target_comes_up, target_overtakes, is_head_on, side_of, encounter_of, keeps_clear}
use Rattle.colregs.specs.Colregs.{rule13, rule18, rule12, rule19, under_sail, windward_gives_way, port_tack_keeps_clear, sailing_vessels, decided}
use Rattle.colregs.specs.Colregs.{unless_silent, one_rank, ranks_first, clauses_in_sight, clauses, permitted, forward_of_beam, to_starboard, is_overtaking}
use Rattle.colregs.specs.Colregs.{permits_starboard, permits_port, rule19_starboard, rule19_port, rule17_port, ruling_for, ruling_of}
use Rattle.colregs.specs.Log.{same_side, is_kind, OneKind, speaks, some_speaks, Row, row, row_of, In, here, there, in_sight, restricted}

-- ---- exactly one kind
same_side_lem : (a b : Side) → T (same_side a b) → a ≡ b
same_side_lem Port Port h = refl
same_side_lem Starboard Starboard h = refl
same_side_lem Port Starboard h = absurd h
same_side_lem Starboard Port h = absurd h

same_self : (a : Side) → T (same_side a a)
same_self Port = tt
same_self Starboard = tt

-- over the tests themselves: own overtakes, the target comes up, head_on, and the side
module _ (side : Side) where
  abbrev kind : Bool → Bool → Bool → Encounter
  kind own up head = cond own Overtaking (cond (up && not own) BeingOvertaken (cond head HeadOn (Crossing side)))

  abbrev test : Bool → Bool → Bool → Encounter → Bool
  test own up head Overtaking = own
  test own up head BeingOvertaken = up && not own
  test own up head HeadOn = (not own && not (up && not own)) && head
  test own up head (Crossing s) = (not own && not (up && not own)) && (not head && same_side s side)

  holds_by : (own up head : Bool) → T (test own up head (kind own up head))
  holds_by true up head = tt
  holds_by false true head = tt
  holds_by false false true = tt
  holds_by false false false = same_self side

  only_by : (own up head : Bool) (e : Encounter) → T (test own up head e) → e ≡ kind own up head
  only_by true up head Overtaking h = refl
  only_by true true head BeingOvertaken h = absurd h
  only_by true false head BeingOvertaken h = absurd h
  only_by true up head HeadOn h = absurd h
  only_by true up head (Crossing s) h = absurd h
  only_by false up head Overtaking h = absurd h
  only_by false true head BeingOvertaken h = refl
  only_by false false head BeingOvertaken h = absurd h
  only_by false true head HeadOn h = absurd h
  only_by false false true HeadOn h = refl
  only_by false false false HeadOn h = absurd h
  only_by false true head (Crossing s) h = absurd h
  only_by false false true (Crossing s) h = absurd h
  only_by false false false (Crossing s) h = ap Crossing (same_side_lem s side h)

module _ (config : ColregsConfig) (f : Geometry) where
  tests : (e : Encounter) → test (side_of f) (own_overtakes config f) (target_comes_up config f) (is_head_on config f) e ≡ is_kind config f e
  unfolding target_overtakes
  tests Overtaking = refl
  tests BeingOvertaken = refl
  tests HeadOn = refl
  tests (Crossing s) = refl

  pub one-kind : OneKind config f
  unfolding encounter_of target_overtakes
  one-kind = record {
    kind = encounter_of config f;
    holds = subst T (tests (encounter_of config f)) (holds_by (side_of f) (own_overtakes config f) (target_comes_up config f) (is_head_on config f));
    only = λ e h. only_by (side_of f) (own_overtakes config f) (target_comes_up config f) (is_head_on config f) e (subst T (sym (tests e)) h);
  }

-- ---- some rule speaks
pub the_rules_decide : (e : Encounter) (f : Geometry) → T (some_speaks (clauses e f))
the_rules_decide e f = or_right (speaks (rule19 f.visibility)) (some_speaks (clauses_in_sight e f)) (go e)
  where
    ranks : (e : Encounter) → T (some_speaks (one_rank e)) → T (some_speaks (ranks_first e f.own f.target f.wind))
    ranks e h = or_right (speaks (rule18 f.own f.target)) _ (or_right (speaks (rule12 f.own f.target f.wind)) _ h)

    go : (e : Encounter) → T (some_speaks (clauses_in_sight e f))
    go Overtaking = tt
    go BeingOvertaken = tt
    go HeadOn = ranks HeadOn tt
    go (Crossing Starboard) = ranks (Crossing Starboard) tt
    go (Crossing Port) = ranks (Crossing Port) tt

-- ---- what Rules 18 and 12 may say
data By18 : Says → Type 0 where
  gives : By18 (says GiveWay)
  stands : By18 (says StandOn)
  nothing : By18 silent

data By12 : Says → Type 0 where
  gives : By12 (says GiveWay)
  stands : By12 (says StandOn)
  unsaid : By12 (says Undetermined)
  nothing : By12 silent

by_rank_lem : (a b : Bool) → By18 (cond a (says GiveWay) (cond b (says StandOn) silent))
by_rank_lem true b = gives
by_rank_lem false true = stands
by_rank_lem false false = nothing

by_18 : (own target : VesselCategory) → By18 (rule18 own target)
unfolding rule18
by_18 own target = by_rank_lem (keeps_clear own target) (keeps_clear target own)

by_windward_lem : (w : Windward) → By12 (says (windward_gives_way w))
by_windward_lem Windward.Own = gives
by_windward_lem Windward.Target = stands
by_windward_lem Windward.Unknown = unsaid

by_sight_lem : (seen : Bool) → By12 (says (port_tack_keeps_clear seen))
by_sight_lem true = gives
by_sight_lem false = unsaid

by_tacks_lem : (own target : Tack) (w : Wind) → By12 (says (sailing_vessels own target w))
by_tacks_lem Tack.Port Tack.Starboard w = gives
by_tacks_lem Tack.Starboard Tack.Port w = stands
by_tacks_lem Tack.Port Tack.Port w = by_windward_lem w.windward
by_tacks_lem Tack.Starboard Tack.Starboard w = by_windward_lem w.windward
by_tacks_lem Tack.Port Tack.Unknown w = by_sight_lem w.seen_to_windward
by_tacks_lem Tack.Starboard Tack.Unknown w = unsaid
by_tacks_lem Tack.Unknown target w = unsaid

sails : (P : Tack → Says) → ((t : Tack) → By12 (P t)) → (c : VesselCategory) → By12 (under_sail P c)
sails P h (Sailing tack) = h tack
sails P h PowerDriven = nothing
sails P h Fishing = nothing
sails P h ConstrainedByDraught = nothing
sails P h RestrictedInAbilityToManoeuvre = nothing
sails P h NotUnderCommand = nothing

by_12 : (own target : VesselCategory) (w : Wind) → By12 (rule12 own target w)
by_12 own target w =
    sails (λ a. under_sail (λ b. says (sailing_vessels a b w)) target) (λ a. sails (λ b. says (sailing_vessels a b w)) (λ b. by_tacks_lem a b w) target) own

-- ---- the tables of sides
abbrev nth : ℕ → List Row → Row
nth n [] = row Rule13 Undetermined Overtaking false false
nth zero (r ∷ rs) = r
nth (suc n) (r ∷ rs) = nth n rs

abbrev has : ℕ → List Row → Bool
has n [] = false
has zero (r ∷ rs) = true
has (suc n) (r ∷ rs) = has n rs

within : (n : ℕ) (rs : List Row) → T (has n rs) → In (nth n rs) rs
within n [] h = absurd h
within zero (r ∷ rs) h = here
within (suc n) (r ∷ rs) h = there (within n rs h)

module _ (relative : Float) where
  -- the row of a ruling by Rules 18, 12 and the geometry
  abbrev ranked : Encounter → Says → Says → Row
  ranked e s18 s12 = row_of (ruling_for e (unless_silent s18 Rule18 (unless_silent s12 Rule12 (decided (one_rank e)))) relative)

  head_on : (s18 s12 : Says) → By18 s18 → By12 s12 → In (ranked HeadOn s18 s12) in_sight
  unfolding row_of ruling_for permitted decided rule17_port
  head_on _ _ gives q = within 2 in_sight tt
  head_on _ _ stands q = within 5 in_sight tt
  head_on _ _ nothing gives = within 8 in_sight tt
  head_on _ _ nothing stands = within 11 in_sight tt
  head_on _ _ nothing unsaid = within 14 in_sight tt
  head_on _ _ nothing nothing = within 17 in_sight tt

  to_port : (s18 s12 : Says) → By18 s18 → By12 s12 → In (ranked (Crossing Port) s18 s12) in_sight
  unfolding row_of ruling_for permitted decided rule17_port
  to_port _ _ gives q = within 3 in_sight tt
  to_port _ _ stands q = within 6 in_sight tt
  to_port _ _ nothing gives = within 9 in_sight tt
  to_port _ _ nothing stands = within 12 in_sight tt
  to_port _ _ nothing unsaid = within 15 in_sight tt
  to_port _ _ nothing nothing = within 19 in_sight tt

  to_starboard_lem : (s18 s12 : Says) → By18 s18 → By12 s12 → In (ranked (Crossing Starboard) s18 s12) in_sight
  unfolding row_of ruling_for permitted decided rule17_port
  to_starboard_lem _ _ gives q = within 4 in_sight tt
  to_starboard_lem _ _ stands q = within 7 in_sight tt
  to_starboard_lem _ _ nothing gives = within 10 in_sight tt
  to_starboard_lem _ _ nothing stands = within 13 in_sight tt
  to_starboard_lem _ _ nothing unsaid = within 16 in_sight tt
  to_starboard_lem _ _ nothing nothing = within 18 in_sight tt

  seen : (e : Encounter) (own target : VesselCategory) (w : Wind)
      → In (row_of (ruling_for e (decided (clause Rule13 (rule13 e) ∷ ranks_first e own target w)) relative)) in_sight
  unfolding row_of ruling_for permitted decided rule17_port
  seen Overtaking own target w = within 0 in_sight tt
  seen BeingOvertaken own target w = within 1 in_sight tt
  seen HeadOn own target w = head_on (rule18 own target) (rule12 own target w) (by_18 own target) (by_12 own target w)
  seen (Crossing Port) own target w = to_port (rule18 own target) (rule12 own target w) (by_18 own target) (by_12 own target w)
  seen (Crossing Starboard) own target w = to_starboard_lem (rule18 own target) (rule12 own target w) (by_18 own target) (by_12 own target w)

-- a ruling's row, by the visibility
module _ (config : ColregsConfig) (f : Geometry) where
  abbrev row_by : Visibility → Row
  row_by v = row_of (ruling_for (encounter_of config f) (decided (clause Rule19 (rule19 v) ∷ clauses_in_sight (encounter_of config f) f)) f.relative)

  ruled : row_of (ruling_of config f) ≡ row_by f.visibility
  unfolding ruling_of
  ruled = refl

  in-sight-is : row_by InSight ≡ row_of (ruling_for (encounter_of config f) (decided (clauses_in_sight (encounter_of config f) f)) f.relative)
  unfolding decided
  in-sight-is = refl

  -- vessels in sight of one another: the ruling is a row of the table
  pub in-sight-listed : f.visibility ≡ InSight → In (row_of (ruling_of config f)) in_sight
  in-sight-listed h = subst (λ r. In r in_sight) (sym (ruled ∙ ap row_by h ∙ in-sight-is)) (seen f.relative (encounter_of config f) f.own f.target f.wind)

  -- restricted visibility: the ruling is the row of the target's place
  restricted_by : (e : Encounter) (forward starboard : Bool)
      → row Rule19 Both e (forward || not starboard) (cond forward (is_overtaking e) starboard)
      ≡ cond forward (row Rule19 Both e true (is_overtaking e)) (cond starboard (row Rule19 Both e false true) (row Rule19 Both e true false))
  restricted_by e true starboard = refl
  restricted_by e false true = refl
  restricted_by e false false = refl

  restricted_is : row_by Restricted ≡ restricted (encounter_of config f) f.relative
  unfolding decided ruling_for row_of permitted rule19_starboard rule19_port
  restricted_is = restricted_by (encounter_of config f) (forward_of_beam f.relative) (to_starboard f.relative)

  pub restricted_listed : f.visibility ≡ Restricted → row_of (ruling_of config f) ≡ restricted (encounter_of config f) f.relative
  restricted_listed h = ruled ∙ ap row_by h ∙ restricted_is

-- ---- a ruling permits a side
some_side : (rule : Rule) (e : Encounter) (duty : Responsibility) (relative : Float) → T (permits_starboard rule relative || permits_port rule e duty relative)
unfolding rule19_starboard rule19_port
some_side Rule12 e duty relative = tt
some_side Rule13 e duty relative = tt
some_side Rule14 e duty relative = tt
some_side Rule15 e duty relative = tt
some_side Rule17 e duty relative = tt
some_side Rule18 e duty relative = tt
some_side Rule19 e duty relative = go (forward_of_beam relative) (to_starboard relative)
  where
    go : (forward starboard : Bool) → T ((forward || not starboard) || cond forward (is_overtaking e) starboard)
    go true starboard = tt
    go false true = tt
    go false false = tt

pub permits_a_side : (config : ColregsConfig) (f : Geometry) → T ((ruling_of config f).manoeuvre.starboard || (ruling_of config f).manoeuvre.port)
unfolding ruling_of ruling_for permitted
permits_a_side config f =
    let e = encounter_of config f in
    let d = decided (clauses e f) in
    some_side d.rule e d.responsibility f.relative
