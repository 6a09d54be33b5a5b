-- Either the ruling asks what the text asks, or a case of departure holds (`by_text_or_departs`); and
-- where a case holds the ruling is what the case says (`instead_is`). The facts enter as tests, true
-- or false, and both are found by trying all of these. The one fact on floats: where the contact is
-- beside the line of own course, one and only one of the tests of her side holds.
use Rattle.std.specs.List.{list_all, list_any}
use mathlib.Core.Path.{◌≡◌, refl, sym, ap, ◌∙◌, subst}
use mathlib.Core.Bool.{Bool, true, false, ◌&&◌, ◌||◌, not, cond, beq}
use Prim.Native.Nat.{ℕ, ◌*◌}
use mathlib.Core.Logic.{◌⊎◌, inl, inr}
use mathlib.Core.List.{List, [], ◌∷◌, Memᴰ}
use lib.Dec.{T, eqb}
use lib.Ieee.{Float, nan, inf, fin, up, down, level, is_nan, of_bits, lt, le, eq}
use lib.IntN.{pos}
use lib.Ieee.Bits.{is_true}
use lib.Ieee.Fits.{and_l, and_r, and_i}
use Rattle.laws.proofs.Bools.{fails, refuted, or_elim, and-true}
use Rattle.laws.proofs.Order.{eq-lt, eq_sym, le_not_lt, le-or-lt}
use Rattle.math.specs.Sign.{abs}
use Rattle.math.specs.Fold as Fold
use Rattle.math.specs.Fold.{half_turn}
use Rattle.situation.specs.Arguments.{quarter_turn}
use Rattle.situation.specs.declared.party.Visibility.{Visibility}
use Rattle.situation.specs.declared.party.Visibility.TheVariants.{InSight, Restricted}
use Rattle.situation.specs.declared.party.VesselCategory.{VesselCategory}
use Rattle.situation.specs.declared.config.ColregsConfig.{ColregsConfig}
use Rattle.colregs.specs.declared.geometry.Wind.{Wind}
use Rattle.colregs.specs.declared.geometry.Geometry.{Geometry}
use Rattle.motion.specs.declared.side.Side.TheVariants.{Port, Starboard}
use Rattle.colregs.specs.declared.answer.Encounter.{Encounter}
use Rattle.colregs.specs.declared.answer.Encounter.TheVariants.{Overtaking, BeingOvertaken, HeadOn, Crossing}
use Rattle.colregs.specs.declared.answer.Responsibility.{Responsibility}
use Rattle.colregs.specs.declared.answer.Responsibility.TheVariants.{GiveWay, StandOn, Both, Undetermined}
use Rattle.colregs.specs.declared.answer.Decision.{Decision}
use Rattle.colregs.specs.declared.answer.Rule.{Rule}
use Rattle.colregs.specs.declared.answer.Rule.TheVariants.{Rule12, Rule13, Rule14, Rule15, Rule17, Rule18, Rule19}
use Rattle.colregs.specs.Colregs.{dead_ahead, to_starboard, abaft, own_comes_up, target_comes_up, own_overtakes, target_overtakes, is_head_on, side_of}
use Rattle.colregs.specs.Colregs.{encounter_of, rule13, rule18, rule19, clause, ranks_first, clauses, decided, permitted, forward_of_beam, is_overtaking}
use Rattle.colregs.specs.Colregs.{is_crossing, is_stand_on, permits_starboard, permits_port, rule19_starboard, rule19_port, rule17_port, ruling_for, ruling_of}
use Rattle.colregs.specs.Text.{Terms, terms, more_abaft, nearly_ahead, on_starboard, on_port, Asks, asks, code, paragraphs, first_asked, text}
use Rattle.colregs.proofs.Trying.{all, always, all_pairs, any_pair}
use Rattle.colregs.specs.Departs.{asked, Tests, tests, Case, cases, applies, instead, Departs}

-- ---- the ruling over terms and tests
module _ (own other : VesselCategory) (w : Wind) (t : Terms) (x : Tests) where
  abbrev overtakes : Bool
  overtakes = t.overtaking && (not t.overtaken || x.faster)

  abbrev kind : Encounter
  kind = cond overtakes Overtaking (cond (t.overtaken && not overtakes) BeingOvertaken (cond t.ahead HeadOn (Crossing (cond x.starboard Starboard Port))))

  abbrev decision : Visibility → Decision
  decision v = decided (clause Rule19 (rule19 v) ∷ clause Rule13 (rule13 kind) ∷ ranks_first kind own other w)

  abbrev to_starboard_by : Rule → Bool
  to_starboard_by Rule12 = true
  to_starboard_by Rule13 = true
  to_starboard_by Rule14 = true
  to_starboard_by Rule15 = true
  to_starboard_by Rule17 = true
  to_starboard_by Rule18 = true
  to_starboard_by Rule19 = t.forward || not x.abaft_starboard

  abbrev to_port_by : Rule → Responsibility → Bool
  to_port_by Rule14 duty = false
  to_port_by Rule15 duty = false
  to_port_by Rule19 duty = cond t.forward (is_overtaking kind) x.abaft_starboard
  to_port_by Rule12 duty = not (is_stand_on duty && is_crossing kind)
  to_port_by Rule13 duty = not (is_stand_on duty && is_crossing kind)
  to_port_by Rule17 duty = not (is_stand_on duty && is_crossing kind)
  to_port_by Rule18 duty = not (is_stand_on duty && is_crossing kind)

  abbrev ruled : Visibility → Asks
  ruled v = asks (decision v).responsibility (to_starboard_by (decision v).rule) (to_port_by (decision v).rule (decision v).responsibility)

module _ (config : ColregsConfig) (f : Geometry) where
  here_starboard : (r : Rule) → permits_starboard r f.relative ≡ to_starboard_by f.own f.target f.wind (terms config f) (tests f) r
  unfolding terms tests rule19_starboard forward_of_beam
  here_starboard Rule12 = refl
  here_starboard Rule13 = refl
  here_starboard Rule14 = refl
  here_starboard Rule15 = refl
  here_starboard Rule17 = refl
  here_starboard Rule18 = refl
  here_starboard Rule19 = refl

  here_port : (r : Rule) (duty : Responsibility)
      → permits_port r (encounter_of config f) duty f.relative ≡ to_port_by f.own f.target f.wind (terms config f) (tests f) r duty
  unfolding terms tests rule19_port rule17_port forward_of_beam encounter_of own_overtakes target_overtakes own_comes_up target_comes_up abaft more_abaft is_head_on nearly_ahead side_of
  here_port Rule12 duty = refl
  here_port Rule13 duty = refl
  here_port Rule14 duty = refl
  here_port Rule15 duty = refl
  here_port Rule17 duty = refl
  here_port Rule18 duty = refl
  here_port Rule19 duty = refl

  here_decided : decided (clauses (encounter_of config f) f) ≡ decision f.own f.target f.wind (terms config f) (tests f) f.visibility
  unfolding terms tests encounter_of own_overtakes target_overtakes own_comes_up target_comes_up abaft more_abaft is_head_on nearly_ahead side_of
  here_decided = refl

  pub ruled_is : asked (ruling_of config f) ≡ ruled f.own f.target f.wind (terms config f) (tests f) f.visibility
  unfolding ruling_of ruling_for permitted
  ruled_is =
      let d = decided (clauses (encounter_of config f) f) in
      ap (λ b. asks d.responsibility b (permits_port d.rule (encounter_of config f) d.responsibility f.relative)) (here_starboard d.rule)
      ∙ ap (λ b. asks d.responsibility (to_starboard_by f.own f.target f.wind (terms config f) (tests f) d.rule) b) (here_port d.rule d.responsibility)
      ∙ ap (λ d. asks d.responsibility (to_starboard_by f.own f.target f.wind (terms config f) (tests f) d.rule)
      (to_port_by f.own f.target f.wind (terms config f) (tests f) d.rule d.responsibility)) here_decided

-- ---- what is asked, compared
abbrev pub same_bool : Bool → Bool → Bool
same_bool true b = b
same_bool false b = not b

abbrev pub same : Asks → Asks → Bool
same a b = eqb (code a.duty) (code b.duty) && (same_bool a.starboard b.starboard && same_bool a.port b.port)

is_same_bool : (a b : Bool) → T (same_bool a b) → a ≡ b
is_same_bool true true h = refl
is_same_bool true false h = elim h [ ]
is_same_bool false true h = elim h [ ]
is_same_bool false false h = refl

pub is_same_duty : (a b : Responsibility) → T (eqb (code a) (code b)) → a ≡ b
is_same_duty GiveWay GiveWay h = refl
is_same_duty GiveWay StandOn h = elim h [ ]
is_same_duty GiveWay Both h = elim h [ ]
is_same_duty GiveWay Undetermined h = elim h [ ]
is_same_duty StandOn GiveWay h = elim h [ ]
is_same_duty StandOn StandOn h = refl
is_same_duty StandOn Both h = elim h [ ]
is_same_duty StandOn Undetermined h = elim h [ ]
is_same_duty Both GiveWay h = elim h [ ]
is_same_duty Both StandOn h = elim h [ ]
is_same_duty Both Both h = refl
is_same_duty Both Undetermined h = elim h [ ]
is_same_duty Undetermined GiveWay h = elim h [ ]
is_same_duty Undetermined StandOn h = elim h [ ]
is_same_duty Undetermined Both h = elim h [ ]
is_same_duty Undetermined Undetermined h = refl

is_same : (a b : Asks) → T (same a b) → a ≡ b
is_same a b h =
    let sides = and_r (eqb (code a.duty) (code b.duty)) _ h in
    ap (λ d. asks d a.starboard a.port) (is_same_duty a.duty b.duty (and_l (eqb (code a.duty) (code b.duty)) _ h))
    ∙ ap (λ s. asks b.duty s a.port) (is_same_bool a.starboard b.starboard (and_l (same_bool a.starboard b.starboard) _ sides))
    ∙ ap (λ s. asks b.duty b.starboard s) (is_same_bool a.port b.port (and_r (same_bool a.starboard b.starboard) _ sides))

-- ---- some case, and every case, of a list
pub record Found (P : Case → Bool) (ks : List Case) : Type 0 where
  pub case : Case
  pub listed : Memᴰ case ks
  pub holds : T (P case)

found : (P : Case → Bool) (ks : List Case) → T (list_any P ks) → Found P ks
found P [] h = elim h [ ]
found P (k ∷ ks) h =
    or_elim (P k) (list_any P ks) (λ t. record { case = k; listed = Memᴰ.head refl; holds = t })
    (λ t. let o = found P ks t in record { case = o.case; listed = Memᴰ.tail o.listed; holds = o.holds }) h

every_holds : (P : Case → Bool) (ks : List Case) → T (list_all P ks) → (k : Case) → Memᴰ k ks → T (P k)
every_holds P [] h k m = elim m [ ]
every_holds P (j ∷ ks) h k (Memᴰ.head e) = subst (λ k. T (P k)) (sym e) (and_l (P j) _ h)
every_holds P (j ∷ ks) h k (Memᴰ.tail m) = every_holds P ks (and_r (P j) _ h) k m

-- ---- both theorems over terms and tests: the text or a case, and what the ruling says in each case
abbrev settled : Visibility → VesselCategory → VesselCategory → Wind → Terms → Tests → Bool
settled v own other w t x =
    same (ruled own other w t x v) (first_asked (paragraphs v own other w t)) || list_any (λ k. k.condition v own other w t x) cases

abbrev follows : Visibility → VesselCategory → VesselCategory → Wind → Terms → Tests → Case → Bool
follows v own other w t x k = not (k.condition v own other w t x) || same (ruled own other w t x v) (k.instead v own other w t x)

abbrev good : Visibility → VesselCategory → VesselCategory → Wind → Terms → Tests → Bool
good v own other w t x = settled v own other w t x && list_all (follows v own other w t x) cases

abbrev terms_by : Bool → Bool → Bool → Bool → Bool → Bool → Bool → Bool → Terms
terms_by c o d a s p q f = record { closing = c; overtaking = o; overtaken = d; ahead = a; to_starboard = s; to_port = p; from_starboard = q; forward = f }

abbrev tests_by : Bool → Bool → Bool → Bool → Tests
tests_by faster in_line starboard abaft = record { faster = faster; in_line = in_line; starboard = starboard; abaft_starboard = abaft }

-- in sight, neither overtaking; forward, faster and the side abaft do not count
module _ (forward faster abaft : Bool) where
  abbrev seen_at : Bool → Bool → Bool → Bool → Bool → Bool → Bool → VesselCategory → VesselCategory → Wind → Bool
  seen_at i c a s q r p own other w = good InSight own other w (terms_by c false false a s p q forward) (tests_by faster i r abaft)

  abbrev in_line_at : Bool → Bool → Bool → Bool → Bool → Bool → Bool
  in_line_at c a s q r p = all_pairs (seen_at true c a s q r p)

  -- beside the line the side that counts is the one she is on
  abbrev aside_at : Bool → Bool → Bool → Bool → Bool
  aside_at c a s q = all_pairs (seen_at false c a s q s (not s))

  in_line_seen : T (all 6 in_line_at)
  unfolding first_asked rule18 decided
  in_line_seen = tt

  aside_seen : T (all 4 aside_at)
  unfolding first_asked rule18 decided
  aside_seen = tt

  seen : (own other : VesselCategory) (w : Wind) (i c a s q r p : Bool) → (i ≡ false → (r ≡ s) × (p ≡ not s)) → T (seen_at i c a s q r p own other w)
  seen own other w true c a s q r p h = any_pair (seen_at true c a s q r p) (always 6 in_line_at in_line_seen c a s q r p) own other w
  seen own other w false c a s q r p h =
      subst (λ r. T (seen_at false c a s q r p own other w)) (sym (h refl).0)
      (subst (λ p. T (seen_at false c a s q s p own other w)) (sym (h refl).1)
      (any_pair (seen_at false c a s q s (not s)) (always 4 aside_at aside_seen c a s q) own other w))

-- where one vessel overtakes the other, in sight, nothing else counts
overtaking_seen : (own other : VesselCategory) (w : Wind) (c a s p q forward : Bool) (o d faster i r abaft : Bool) → T (o || d)
    → T (good InSight own other w (terms_by c o d a s p q forward) (tests_by faster i r abaft))
unfolding first_asked decided
overtaking_seen own other w c a s p q forward true true true i r abaft h = tt
overtaking_seen own other w c a s p q forward true true false i r abaft h = tt
overtaking_seen own other w c a s p q forward true false faster i r abaft h = tt
overtaking_seen own other w c a s p q forward false true faster i r abaft h = tt
overtaking_seen own other w c a s p q forward false false faster i r abaft h = elim h [ ]

-- not in sight: by closing, the beam and the side; a vessel that does not close overtakes nobody
module _ (own other : VesselCategory) (w : Wind) (q r : Bool) where
  abbrev unseen_at : Bool → Bool → Bool → Bool → Bool → Bool → Bool → Bool → Bool → Bool → Bool
  unseen_at i f c o d faster a s p z = good Restricted own other w (terms_by c (c && o) (c && d) a s p q f) (tests_by faster i r z)

  abbrev aside_unseen_at : Bool → Bool → Bool → Bool → Bool → Bool → Bool
  aside_unseen_at c o d faster a s = unseen_at false false c o d faster a s (not s) s

  in_line_unseen : T (all 9 (unseen_at true))
  unfolding first_asked decided
  in_line_unseen = tt

  -- forward of the beam sides do not count
  forward_unseen : T (all 8 (unseen_at false true))
  unfolding first_asked decided
  forward_unseen = tt

  aside_unseen : T (all 6 aside_unseen_at)
  unfolding first_asked decided
  aside_unseen = tt

  unseen : (i f c o d faster a s p z : Bool) → (i ≡ false → f ≡ false → (z ≡ s) × (p ≡ not s)) → T (unseen_at i f c o d faster a s p z)
  unseen true f c o d faster a s p z h = always 9 (unseen_at true) in_line_unseen f c o d faster a s p z
  unseen false true c o d faster a s p z h = always 8 (unseen_at false true) forward_unseen c o d faster a s p z
  unseen false false c o d faster a s p z h =
      subst (λ z. T (unseen_at false false c o d faster a s p z)) (sym (h refl refl).0)
      (subst (λ p. T (unseen_at false false c o d faster a s p s)) (sym (h refl refl).1)
      (always 6 aside_unseen_at aside_unseen c o d faster a s))

-- ---- the sides of a number that is not 0
level_sized : (s : Bool) (a b : ℕ) → T (level s a false b) → T (level false a false b)
level_sized s a b h = and_i (eqb a b) true (and_l (eqb a b) (beq s false || eqb a 0) h) tt

zero_sized : (x : Float) → T (eq x Fold.zero) → T (eq (abs x) Fold.zero)
unfolding eq abs of_bits
zero_sized nan h = elim h [ ]
zero_sized (inf s) h = elim h [ ]
zero_sized (fin s m e) h = level_sized s (m * up e * down (pos 0)) (0 * up (pos 0) * down e) h

not_zero : (x b : Float) → T (lt Fold.zero b) → lt (abs x) b ≡ false → le Fold.zero x ≡ lt Fold.zero x
unfolding le
not_zero x b p h =
    go (lt Fold.zero x) (eq Fold.zero x) (refuted (eq Fold.zero x) (λ t. fails h (eq-lt (abs x) Fold.zero b (zero_sized x (eq_sym Fold.zero x t)) p)))
  where
    go : (l e : Bool) → e ≡ false → l || e ≡ l
    go true e q = refl
    go false e q = q

below_zero : (x : Float) → T (not (is_nan x)) → lt x Fold.zero ≡ not (le Fold.zero x)
below_zero x n = go (le-or-lt Fold.zero x (unfold is_nan of_bits in tt) n)
  where
    go : T (le Fold.zero x) ⊎ T (lt x Fold.zero) → lt x Fold.zero ≡ not (le Fold.zero x)
    go (inl l) = refuted (lt x Fold.zero) (le_not_lt Fold.zero x l) ∙ sym (ap not (is_true (le Fold.zero x) l))
    go (inr l) = is_true (lt x Fold.zero) l ∙ sym (ap not (refuted (le Fold.zero x) (λ t. le_not_lt Fold.zero x t l)))

-- ---- the theorems
module _ (config : ColregsConfig) (f : Geometry) (number : T (not (is_nan f.relative))) where
  abbrev x : Float
  x = f.relative

  abbrev near : Bool
  near = lt (abs x) dead_ahead

  abbrev within : Bool
  within = lt (abs x) half_turn

  -- beside the line
  beside_line : near || not within ≡ false → (near ≡ false) × (within ≡ true)
  beside_line = go near within
    where
      go : (a b : Bool) → a || not b ≡ false → (a ≡ false) × (b ≡ true)
      go false true e = (refl, refl)
      go false false e = absurd (fails e tt)
      go true b e = absurd (fails e tt)

  sides : (b : Float) → T (lt Fold.zero b) → lt (abs x) b ≡ false → within ≡ true → on_port x ≡ not (on_starboard x)
  unfolding on_port on_starboard
  sides b p h k = rw k (and-true (lt x Fold.zero) ∙ below_zero x number ∙ ap not (not_zero x b p h ∙ sym (and-true (lt Fold.zero x))))

  counted : near || not within ≡ false → (cond near (lt f.aspect Fold.zero) (lt Fold.zero x) ≡ on_starboard x) × (on_port x ≡ not (on_starboard x))
  unfolding on_starboard
  counted e =
      let n = beside_line e in
      (rw (n.0, n.1) (sym (and-true (lt Fold.zero x))), sides dead_ahead (unfold lt of_bits in tt) n.0 n.1)

  counted_abaft : near || not within ≡ false → lt (abs x) quarter_turn ≡ false → (to_starboard x ≡ on_starboard x) × (on_port x ≡ not (on_starboard x))
  unfolding on_starboard
  counted_abaft e k =
      let n = beside_line e in
      (not_zero x quarter_turn (unfold lt of_bits in tt) k ∙ rw n.1 (sym (and-true (lt Fold.zero x))), sides quarter_turn (unfold lt of_bits in tt) k n.1)

  -- the terms and the tests
  abbrev c : Bool
  c = f.closing

  abbrev a : Bool
  a = nearly_ahead config x && nearly_ahead config f.aspect

  abbrev q : Bool
  q = on_starboard f.aspect

  abbrev forward : Bool
  forward = lt (abs x) quarter_turn

  abbrev faster : Bool
  faster = lt f.target_speed.0 f.own_speed.0

  abbrev i : Bool
  i = near || not within

  abbrev r : Bool
  r = cond near (lt f.aspect Fold.zero) (lt Fold.zero x)

  all_good : T (good f.visibility f.own f.target f.wind (terms config f) (tests f))
  unfolding terms tests
  all_good = go f.visibility
    where
      by13 : (o d : Bool) → T (good InSight f.own f.target f.wind (terms_by c o d a (on_starboard x) (on_port x) q forward) (tests f))
      by13 false false = seen forward faster (to_starboard x) f.own f.target f.wind i c a (on_starboard x) q r (on_port x) counted
      by13 true d = overtaking_seen f.own f.target f.wind c a (on_starboard x) (on_port x) q forward true d faster i r (to_starboard x) tt
      by13 false true = overtaking_seen f.own f.target f.wind c a (on_starboard x) (on_port x) q forward false true faster i r (to_starboard x) tt

      go : (v : Visibility) → T (good v f.own f.target f.wind (terms config f) (tests f))
      go InSight = by13 (c && more_abaft config f.aspect) (c && more_abaft config x)
      go Restricted =
          unseen f.own f.target f.wind q r i forward c (more_abaft config f.aspect) (more_abaft config x) faster a
          (on_starboard x) (on_port x) (to_starboard x) counted_abaft

  -- the ruling asks what the text asks, or a case of departure holds: there is no other
  pub by_text_or_departs : (asked (ruling_of config f) ≡ text config f) ⊎ Departs config f
  unfolding text applies
  by_text_or_departs =
      or_elim (same (ruled f.own f.target f.wind (terms config f) (tests f) f.visibility) (text config f)) _
      (λ t. inl (ruled_is config f ∙ is_same _ _ t))
      (λ t. let o = found (λ k. applies k config f) cases t in inr (record { case = o.case; listed = o.listed; holds = o.holds }))
      (and_l (settled f.visibility f.own f.target f.wind (terms config f) (tests f)) _ all_good)

  -- where a case holds, the ruling says what the case says
  pub instead_is : (k : Case) → Memᴰ k cases → T (applies k config f) → asked (ruling_of config f) ≡ instead k config f
  unfolding applies instead
  instead_is k m h =
      ruled_is config f ∙ is_same _ _ (given (k.condition f.visibility f.own f.target f.wind (terms config f) (tests f)) _ h
      (every_holds follow cases each k m))
    where
      follow : Case → Bool
      follow k = follows f.visibility f.own f.target f.wind (terms config f) (tests f) k

      each : T (list_all follow cases)
      each = and_r (settled f.visibility f.own f.target f.wind (terms config f) (tests f)) _ all_good

      given : (a b : Bool) → T a → T (not a || b) → T b
      given true b h k = k
      given false b h k = elim h [ ]
