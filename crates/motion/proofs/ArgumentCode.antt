-- What the code of checks owes: a list of checks is one part of it after another.
use Rattle.std.specs.Prelude.{◌≡◌, refl, List, [], ◌∷◌, ◌++◌, Bool, cond, true, false, Ok, Err}
use Rattle.std.specs.Result.{IsErrAnd, result_and}
use Rattle.std.proofs.lemmas.Result.{err_from_is_err_and}
use Rattle.std.specs.declared.result.Result.{Result}
use Rattle.elementary.specs.declared.error.Refusal.{Refusal}
use Rattle.motion.specs.Check.{Check, verdict, checked}

-- the verdict on a list is the one on its beginning, with what the rest says after it
pub verdict_joined : (a b : List Check) (rest : Result (Unit {0}) Refusal) → verdict (a ++ b) rest ≡ verdict a (verdict b rest)
unfolding verdict
verdict_joined [] b rest = refl
verdict_joined (c ∷ a) b rest = rw (verdict_joined a b rest) refl

-- what refuses at the beginning of a list refuses the list, whatever the rest says
pub refused : (a b : List Check) (rest : Result (Unit {0}) Refusal) (e : Refusal) → Err e ≡ checked a → Err e ≡ verdict (a ++ b) rest
unfolding verdict
refused [] b rest e h = cc
refused (c ∷ a) b rest e h = go c.good (refused a b rest e) h
  where
    go : (good : Bool) → (Err e ≡ checked a → Err e ≡ verdict (a ++ b) rest) → Err e ≡ cond good (checked a) (Err c.why) → Err e ≡ cond good (verdict (a ++ b) rest) (Err c.why)
    go true after k = after k
    go false after k = k

-- where the beginning is accepted, the rest of the list decides
pub accepted : (a b : List Check) (r rest : Result (Unit {0}) Refusal) → Ok tt ≡ checked a → r ≡ verdict b rest → r ≡ verdict (a ++ b) rest
unfolding verdict
accepted [] b r rest h e = e
accepted (c ∷ a) b r rest h e = go c.good (λ k. accepted a b r rest k e) h
  where
    go : (good : Bool) → (Ok tt ≡ checked a → r ≡ verdict (a ++ b) rest) → Ok tt ≡ cond good (checked a) (Err c.why) → r ≡ cond good (verdict (a ++ b) rest) (Err c.why)
    go true after k = after k
    go false after k = cc

-- what a function answers where it hands a refusal on
pub handed_on : {T : Type 0} (r : Result T Refusal) (e : Refusal) → IsErrAnd r (λ y. y ≡ e) → r ≡ Err e
handed_on r e h = let p = err_from_is_err_and r h in rw p.1 (rw p.2 refl)

-- the same where the beginning of a list of checks refuses
pub refused_by : (a b : List Check) (rest r : Result (Unit {0}) Refusal) (e : Refusal) → IsErrAnd r (λ y. y ≡ e) → Err e ≡ checked a → r ≡ verdict (a ++ b) rest
refused_by a b rest r e h k = rw (handed_on r e h) (refused a b rest e k)

-- a list of checks, and what is said after it
pub after : (a : List Check) (rest : Result (Unit {0}) Refusal) → result_and (checked a) rest ≡ verdict a rest
unfolding verdict
after [] rest = refl
after (c ∷ a) rest = go c.good (after a rest)
  where
    go : (good : Bool) → result_and (checked a) rest ≡ verdict a rest → result_and (cond good (checked a) (Err c.why)) rest ≡ cond good (verdict a rest) (Err c.why)
    go true e = e
    go false e = refl
