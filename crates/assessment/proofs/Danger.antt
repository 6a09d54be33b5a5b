-- The most dangerous target is what document 01 says: of a list and one target more it is the former
-- one, if that outranks the new one, and else the new one.
use mathlib.Core.Path.{◌≡◌, refl, sym, ap, ◌∙◌, subst}
use mathlib.Core.Bool.{Bool, true, false, not, cond}
use mathlib.Core.Logic.{◌⊎◌, inl, inr, ⊎_elim}
use mathlib.Core.List.Memᴰ
use mathlib.Core.List.{List, [], ◌∷◌, ◌++◌, Memᴰ, append_assoc, append-nil}
use Prim.Native.Nat.{ℕ, ◌≤◌, ◌<◌}
use native.Mathlib.Nat.{le_refl}
use native.Mathlib.Omega.{arith}
use lib.Dec.{T, ltb, eqb, eqb→eq, ltb→lt, nltb→le}
use Rattle.std.proofs.Math.Arith.{le→nltb}
use lib.Ieee.Fits.{eq→eqb}
use Rattle.std.specs.Prelude.{None, Some}
use Rattle.std.specs.declared.option.Option.{Option}
use Rattle.laws.specs.Fold.{fold}
use Rattle.laws.proofs.Members.{mem_last}
use Rattle.math.specs.Clock.{is_before}
use Rattle.math.specs.declared.duration.Duration.{Duration}
use Rattle.assessment.specs.declared.assess.CollisionAssessment.{CollisionAssessment}
use Rattle.assessment.specs.declared.target.TargetAssessment.{TargetAssessment}
use Rattle.assessment.specs.Risk.{rank}
use Rattle.assessment.specs.Assess.{tcpa}
use Rattle.assessment.specs.Target.{outranks, time_of}
use Rattle.assessment.specs.Picture.{keep, most_dangerous}
use Rattle.assessment.specs.MostDangerous.{risk_rank, time_left, Dangerous, MostDangerous}

-- ---- a time that is not before another
abbrev NoLater : Duration → Duration → Type 0
NoLater b a = (b.secs < a.secs) ⊎ ((b.secs ≡ a.secs) × (b.nanos ≤ a.nanos))

told : (a b : Duration) → T (not (is_before a b)) → NoLater b a
unfolding is_before
told a b = go (eqb a.secs b.secs) (eqb→eq a.secs b.secs) (λ e. eq→eqb e)
  where
    go : (c : Bool) → (T c → a.secs ≡ b.secs) → (a.secs ≡ b.secs → T c) → T (not (cond c (ltb a.nanos b.nanos) (ltb a.secs b.secs))) → NoLater b a
    go true f g h = inr (sym (f tt), nltb→le a.nanos b.nanos h)
    go false f g h = inl (omega (arith, g, nltb→le a.secs b.secs h))

tell : (a b : Duration) → NoLater b a → T (not (is_before a b))
unfolding is_before
tell a b = go (eqb a.secs b.secs) (eqb→eq a.secs b.secs) (λ e. eq→eqb e)
  where
    go : (c : Bool) → (T c → a.secs ≡ b.secs) → (a.secs ≡ b.secs → T c) → NoLater b a → T (not (cond c (ltb a.nanos b.nanos) (ltb a.secs b.secs)))
    go true f g (inl p) = absurd (clash (f tt))
      where
        clash : a.secs ≡ b.secs → ⊥
        clash e = omega (arith, e, p)
    go true f g (inr p) = le→nltb a.nanos b.nanos p.1
    go false f g (inl p) = le→nltb a.secs b.secs (omega (arith, p))
    go false f g (inr p) = elim (g (sym p.0)) [ ]

earlier : (a b : Duration) → T (is_before a b) → NoLater a b
unfolding is_before
earlier a b = go (eqb a.secs b.secs) (eqb→eq a.secs b.secs)
  where
    go : (c : Bool) → (T c → a.secs ≡ b.secs) → T (cond c (ltb a.nanos b.nanos) (ltb a.secs b.secs)) → NoLater a b
    go true f h = inr (f tt, omega (arith, ltb→lt a.nanos b.nanos h))
    go false f h = inl (ltb→lt a.secs b.secs h)

no_later : (a b c : Duration) → NoLater a b → NoLater b c → NoLater a c
no_later a b c (inl p) (inl q) = inl (omega (arith, p, q))
no_later a b c (inl p) (inr q) = inl (omega (arith, p, q.0))
no_later a b c (inr p) (inl q) = inl (omega (arith, p.0, q))
no_later a b c (inr p) (inr q) = inr (p.0 ∙ q.0, omega (arith, p.1, q.1))

-- ---- what it is to outrank, and not to
module _ (a b : CollisionAssessment) where
  abbrev higher : ℕ
  higher = rank a.risk

  abbrev lower : ℕ
  lower = rank b.risk

  abbrev sooner : Bool
  sooner = is_before (time_of (tcpa a.cpa)) (time_of (tcpa b.cpa))

  outranking : T (outranks a b) → (lower < higher) ⊎ ((lower ≡ higher) × T sooner)
  unfolding outranks
  outranking = go (eqb higher lower) (eqb→eq higher lower)
    where
      go : (c : Bool) → (T c → higher ≡ lower) → T (cond c sooner (ltb lower higher)) → (lower < higher) ⊎ ((lower ≡ higher) × T sooner)
      go true f h = inr (sym (f tt), h)
      go false f h = inl (ltb→lt lower higher h)

  outranked : T (not (outranks a b)) → (higher < lower) ⊎ ((higher ≡ lower) × T (not sooner))
  unfolding outranks
  outranked = go (eqb higher lower) (eqb→eq higher lower) (λ e. eq→eqb e)
    where
      go : (c : Bool) → (T c → higher ≡ lower) → (higher ≡ lower → T c) → T (not (cond c sooner (ltb lower higher))) → (higher < lower) ⊎ ((higher ≡ lower) × T (not sooner))
      go true f g h = inr (f tt, h)
      go false f g h = inl (omega (arith, g, nltb→le lower higher h))

-- ---- one target more
module _ (ts : List TargetAssessment) (b e : TargetAssessment) (h : Dangerous ts b) where
  -- the former one stays
  stays : T (outranks b.assessment e.assessment) → Dangerous (ts ++ (e ∷ [])) b
  stays o =
      record {
        before = h.before;
        after = h.after ++ (e ∷ []);
        member = ap (λ l. l ++ (e ∷ [])) h.member ∙ append_assoc h.before (b ∷ h.after) (e ∷ []);
        highest_risk = λ x m. ⊎_elim (λ p. h.highest_risk x p) (λ q. subst (λ x. risk_rank x ≤ risk_rank b) (sym q) (at_most r)) (mem_last ts e m);
        least_time = λ x m k. ⊎_elim (λ p. h.least_time x p k)
            (λ q. subst (λ x. T (not (is_before (time_left x) (time_left b)))) (sym q)
            (tell (time_left e) (time_left b) (earlier (time_left b) (time_left e) (then r (ap risk_rank (sym q) ∙ k)))))
            (mem_last ts e m);
        last_listed = λ x m k. ⊎_elim (λ p. h.last_listed x p k) (λ q. subst (λ x. T (is_before (time_left b) (time_left x))) (sym q) (then r (ap risk_rank (sym q) ∙ k))) (mem_last h.after e m);
      }
    where
      r : (risk_rank e < risk_rank b) ⊎ ((risk_rank e ≡ risk_rank b) × T (is_before (time_left b) (time_left e)))
      r = outranking b.assessment e.assessment o

      at_most : (risk_rank e < risk_rank b) ⊎ ((risk_rank e ≡ risk_rank b) × T (is_before (time_left b) (time_left e))) → risk_rank e ≤ risk_rank b
      at_most (inl p) = omega (arith, p)
      at_most (inr p) = omega (arith, p.0)

      then : (risk_rank e < risk_rank b) ⊎ ((risk_rank e ≡ risk_rank b) × T (is_before (time_left b) (time_left e))) → risk_rank e ≡ risk_rank b → T (is_before (time_left b) (time_left e))
      then (inl p) k = absurd (clash p k)
        where
          clash : risk_rank e < risk_rank b → risk_rank e ≡ risk_rank b → ⊥
          clash p k = omega (arith, p, k)
      then (inr p) k = p.1

  -- the new one takes its place
  abbrev Outranked : Type 0
  Outranked = (risk_rank b < risk_rank e) ⊎ ((risk_rank b ≡ risk_rank e) × T (not (is_before (time_left b) (time_left e))))

  yields : T (not (outranks b.assessment e.assessment)) → Dangerous (ts ++ (e ∷ [])) e
  yields o =
      record {
        before = ts;
        after = [];
        member = refl;
        highest_risk = λ x m. ⊎_elim (λ p. over (h.highest_risk x p) r) (λ q. subst (λ x. risk_rank x ≤ risk_rank e) (sym q) (le_refl (risk_rank e))) (mem_last ts e m);
        least_time = λ x m k. ⊎_elim (λ p. behind x p k r) (λ q. subst (λ x. T (not (is_before (time_left x) (time_left e)))) (sym q) (tell (time_left e) (time_left e) (inr (refl, le_refl (time_left e).nanos)))) (mem_last ts e m);
        last_listed = λ x m k. elim m [ ];
      }
    where
      r : Outranked
      r = outranked b.assessment e.assessment o

      over : {n : ℕ} → n ≤ risk_rank b → Outranked → n ≤ risk_rank e
      over k (inl p) = omega (arith, k, p)
      over k (inr p) = omega (arith, k, p.0)

      behind : (x : TargetAssessment) → Memᴰ x ts → risk_rank x ≡ risk_rank e → Outranked → T (not (is_before (time_left x) (time_left e)))
      behind x m k (inl p) = absurd (clash (h.highest_risk x m))
        where
          clash : risk_rank x ≤ risk_rank b → ⊥
          clash l = omega (arith, l, k, p)
      behind x m k (inr p) =
          tell (time_left x) (time_left e)
          (no_later (time_left e) (time_left b) (time_left x) (told (time_left b) (time_left e) p.1)
          (told (time_left x) (time_left b) (h.least_time x m (k ∙ sym p.0))))

added : (ts : List TargetAssessment) (b : Option TargetAssessment) (e : TargetAssessment) → MostDangerous ts b → MostDangerous (ts ++ (e ∷ [])) (keep b e)
added ts None e h =
    record {
      before = ts;
      after = [];
      member = refl;
      highest_risk = λ x m. subst (λ x. risk_rank x ≤ risk_rank e) (sym (alone x m)) (le_refl (risk_rank e));
      least_time = λ x m k. subst (λ x. T (not (is_before (time_left x) (time_left e)))) (sym (alone x m)) (tell (time_left e) (time_left e) (inr (refl, le_refl (time_left e).nanos)));
      last_listed = λ x m k. elim m [ ];
    }
  where
    alone : (x : TargetAssessment) → Memᴰ x (ts ++ (e ∷ [])) → x ≡ e
    alone x m = Memᴰ.eq_of_singleton (subst (λ l. Memᴰ x (l ++ (e ∷ []))) h m)
added ts (Some b) e h = go (outranks b.assessment e.assessment) (λ o. stays ts b e h o) (λ o. yields ts b e h o)
  where
    go : (c : Bool) → (T c → Dangerous (ts ++ (e ∷ [])) b) → (T (not c) → Dangerous (ts ++ (e ∷ [])) e) → MostDangerous (ts ++ (e ∷ [])) (cond c (Some b) (Some e))
    go true f g = f tt
    go false f g = g tt

kept : (ts : List TargetAssessment) (b : Option TargetAssessment) (es : List TargetAssessment) → MostDangerous ts b → MostDangerous (ts ++ es) (fold keep b es)
unfolding fold
kept ts b [] h = subst (λ l. MostDangerous l b) (sym (append-nil ts)) h
kept ts b (e ∷ es) h = subst (λ l. MostDangerous l (fold keep (keep b e) es)) (append_assoc ts (e ∷ []) es) (kept (ts ++ (e ∷ [])) (keep b e) es (added ts b e h))

pub most_is : (ts : List TargetAssessment) → MostDangerous ts (most_dangerous ts)
unfolding most_dangerous
most_is ts = kept [] None ts refl
