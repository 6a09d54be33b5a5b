-- On accepted arguments every ruling permits slowing, so that all eight speeds are tried; and the speeds that are tried are those of the statement.
use Rattle.std.specs.Prelude.{Ok}
use mathlib.Core.Path.{◌≡◌, refl, sym, ap, ◌∙◌, subst}
use mathlib.Core.Bool.{true}
use mathlib.Core.List.{List, [], ◌∷◌, Memᴰ}
use Prim.Native.Nat.{ℕ}
use lib.Ieee.Bits.{is_true}
use Rattle.laws.specs.Fold.{fold}
use Rattle.std.specs.declared.option.Option.{Option}
use Rattle.motion.specs.declared.units.Direction.{Direction}
use Rattle.motion.specs.declared.units.Distance.{Distance}
use Rattle.motion.specs.declared.units.Speed.{Speed}
use Rattle.motion.specs.Check.{verdict}
use Rattle.situation.specs.declared.party.Party.{Party}
use Rattle.situation.specs.declared.party.Visibility.{Visibility}
use Rattle.situation.specs.Situation.{standard}
use Rattle.colregs.specs.Colregs.{ruling_of, ruling_answer}
use Rattle.colregs.specs.Geometry.{geometry_of}
use Rattle.colregs.proofs.Slowing.{every_ruling_permits_slowing}
use Rattle.manoeuvre.specs.declared.constraints.ManoeuvreConstraints.{ManoeuvreConstraints}
use Rattle.clearance.specs.declared.traffic.Entry.{Entry}
use Rattle.ruled_search.specs.Ruled.{situation_of, ruled_checks}
use Rattle.ruled_search.proofs.Accepted as Accepted
use Rattle.slowing_search.specs.Slowing.{trial_speed, down_from, trial_speeds, permits_slowing, join_slowing, all_permit_slowing}
use Rattle.slowing_search.specs.Pairs.{PermitsSlowing, TrialSpeed}
use Rattle.slowing_search.proofs.Speeds.{part_of_member, member_of_part}

module _ (own : Party) (count : ℕ) (entries : List Entry) (visibility : Visibility) (wind : Option Direction) (desired : Distance) (c : ManoeuvreConstraints)
    (h : verdict (ruled_checks own count entries wind desired c) (Ok tt) ≡ (Ok tt)) where
  -- one ruling
  pub permits : (e : Entry) → Memᴰ e entries → PermitsSlowing own entries visibility wind desired c e
  permits e m =
      let s = situation_of own visibility wind e in
      let r = ruling_of standard (geometry_of s) in
      let is = Accepted.ruled own count entries wind desired c h visibility e m in
      record { ruling = r; answer = is; permits = every_ruling_permits_slowing s standard r is }

  permits_it : (e : Entry) → Memᴰ e entries → permits_slowing (ruling_answer (situation_of own visibility wind e) standard) ≡ true
  permits_it e m = let p = permits e m in ap permits_slowing p.answer ∙ is_true p.ruling.manoeuvre.slow_down p.permits

  -- all of them
  all_true : (es : List Entry) → ((e : Entry) → Memᴰ e es → permits_slowing (ruling_answer (situation_of own visibility wind e) standard) ≡ true)
      → fold (join_slowing own visibility wind) true es ≡ true
  unfolding fold
  all_true [] k = refl
  all_true (e ∷ es) k = ap (λ b. fold (join_slowing own visibility wind) b es) (k e (Memᴰ.head refl)) ∙ all_true es (λ x m. k x (Memᴰ.tail m))

  pub all_eight : trial_speeds own.motion.speed (all_permit_slowing own visibility wind entries) ≡ down_from own.motion.speed 8
  unfolding trial_speeds all_permit_slowing
  all_eight = ap (λ b. trial_speeds own.motion.speed b) (all_true entries permits_it)

  -- ---- the speeds of the statement
  pub is_trial_speed : (s : Speed) → Memᴰ s (down_from own.motion.speed 8) → TrialSpeed own entries visibility wind desired c s
  is_trial_speed s m =
      let p = part_of_member own.motion.speed 8 s m in
      record { eighths = p.0; some = p.1; few = p.2; is = ap (λ s. s.0) p.3; slowing = λ less e i. permits e i }

  pub is_member : (s : Speed) → TrialSpeed own entries visibility wind desired c s → Memᴰ s (down_from own.motion.speed 8)
  is_member s t =
      let same : s ≡ trial_speed own.motion.speed t.eighths = ap (λ x. record { 0 = x }) t.is in
      subst (λ s. Memᴰ s (down_from own.motion.speed 8)) (sym same) (member_of_part own.motion.speed 8 t.eighths t.some t.few)
