-- The search by halves finds the place where a test changes, and whatever passes the check of such a place is that place.
use mathlib.Core.Path.{◌≡◌, sym, ap, subst, ◌∙◌}
use mathlib.Core.Bool.{Bool, true, false, not, cond, ◌&&◌}
use Prim.Native.Nat.{ℕ, zero, suc, ◌+◌, ◌-◌, ◌^◌, ◌/◌, ◌≤◌, ◌<◌}
use native.Mathlib.Nat.{le_antisymm, pow-succ', add-zero, zero-add}
use native.Mathlib.Omega.{arith}
use lib.Dec.{T, T_not, not_T, leb, leb→le, le→leb}
use lib.Ieee.Fits.{and_i, and_l, and_r}
use Rattle.grid.specs.Search.{greatest, up_to, greatest_to, Found}

-- passes, and the next does not
pub record Last (test : ℕ → Bool) (A : ℕ) : Type 0 where
  pub passes : T (test A)
  pub next : T (not (test (A + 1)))

pub last : (f : ℕ) (test : ℕ → Bool) (lo : ℕ) → T (test lo) → T (not (test (lo + 2 ^ f))) → Last test (greatest f test lo)
unfolding greatest
last zero test lo p q = record { passes = p; next = q }
last (suc f) test lo p q = go (test (lo + 2 ^ f)) (λ t. t) (λ t. t) (λ a b. last f test (lo + 2 ^ f) a b) (λ b. last f test lo p b)
  where
    sum : lo + 2 ^ suc f ≡ lo + 2 ^ f + 2 ^ f
    sum = omega (arith, pow-succ' 2 f)

    go : (t : Bool) → (T t → T (test (lo + 2 ^ f))) → (T (not t) → T (not (test (lo + 2 ^ f))))
        → (T (test (lo + 2 ^ f)) → T (not (test (lo + 2 ^ f + 2 ^ f))) → Last test (greatest f test (lo + 2 ^ f))) → (T (not (test (lo + 2 ^ f))) → Last test (greatest f test lo)) → Last test (greatest f test (cond t (lo + 2 ^ f) lo))
    go true a b r r' = r (a tt) (subst (λ t. T (not (test t))) sum q)
    go false a b r r' = r' (b tt)

-- ---- a test that, where it passes, passes below as well
abbrev pub Falls : (ℕ → Bool) → Type 0
Falls test = (A : ℕ) → T (test (A + 1)) → T (test A)

below : (test : ℕ → Bool) → Falls test → (A k : ℕ) → T (test (A + k)) → T (test A)
below test h A zero t = subst (λ n. T (test n)) (add-zero A) t
below test h A (suc k) t = below test h A k (h (A + k) (subst (λ n. T (test n)) (omega arith) t))

not_less : (test : ℕ → Bool) → Falls test → (A B : ℕ) → Last test A → T (test B) → A < B → ⊥
not_less test h A B a b l = T_not (test (A + 1)) a.next (below test h (A + 1) (B - (A + 1)) (subst (λ n. T (test n)) (omega arith) b))

-- there is one such number
pub unique : (test : ℕ → Bool) → Falls test → (A B : ℕ) → Last test A → Last test B → A ≡ B
unique test h A B a b = le_antisymm (not_lt→le (not_less test h B A b a.passes)) (not_lt→le (not_less test h A B a b.passes))
  where
    not_lt→le : {m n : ℕ} → (n < m → ⊥) → m ≤ n
    not_lt→le {m} {n} f = omega arith

-- any check that finds such a number finds the greatest
pub is_greatest : (f : ℕ) (test : ℕ → Bool) → Falls test → T (test 0) → T (not (test (2 ^ f))) → (A : ℕ) → Last test A → A ≡ greatest f test 0
is_greatest f test h p q A a = unique test h A (greatest f test 0) a (last f test 0 p (subst (λ n. T (not (test n))) (sym (zero-add (2 ^ f))) q))

nand : (a b : Bool) → T (not (a && b)) → T a → T (not b)
nand true b p q = p
nand false b p q = absurd q

pub up_to_falls : (N : ℕ) (test : ℕ → Bool) → ((A : ℕ) → A < N → T (test (A + 1)) → T (test A)) → Falls (up_to N test)
unfolding up_to
up_to_falls N test h A t =
    let l = leb→le (A + 1) N (and_l (leb (A + 1) N) (test (A + 1)) t) in
    and_i (leb A N) (test A) (le→leb A N (omega arith)) (h A (omega arith) (and_r (leb (A + 1) N) (test (A + 1)) t))

found-last : (N : ℕ) (test : ℕ → Bool) (A : ℕ) → Found N test A → Last (up_to N test) A
unfolding up_to
found-last N test A r =
    record { passes = and_i (leb A N) (test A) (le→leb A N r.within) r.passes; next = not_T (leb (A + 1) N && test (A + 1)) (λ t. T_not (test (A + 1)) (r.next (omega (arith, leb→le (A + 1) N (and_l (leb (A + 1) N) (test (A + 1)) t)))) (and_r (leb (A + 1) N) (test (A + 1)) t)) }

last_found : (N : ℕ) (test : ℕ → Bool) (A : ℕ) → Last (up_to N test) A → Found N test A
unfolding up_to
last_found N test A r =
    record { within = leb→le A N (and_l (leb A N) (test A) r.passes); passes = and_r (leb A N) (test A) r.passes; next = λ l. nand (leb (A + 1) N) (test (A + 1)) r.next (le→leb (A + 1) N (omega arith)) }

starts : (N : ℕ) (test : ℕ → Bool) → T (test 0) → T (up_to N test 0)
unfolding up_to
starts N test p = and_i (leb 0 N) (test 0) (le→leb 0 N (omega arith)) p

ends : (f N : ℕ) (test : ℕ → Bool) → N < 2 ^ f → T (not (up_to N test (2 ^ f)))
unfolding up_to
ends f N test h = not_T (leb (2 ^ f) N && test (2 ^ f)) (λ t. never (2 ^ f) (leb→le (2 ^ f) N (and_l (leb (2 ^ f) N) (test (2 ^ f)) t)) h)
  where
    never : (m : ℕ) → m ≤ N → N < m → ⊥
    never m a b = omega arith

pub found : (f N : ℕ) (test : ℕ → Bool) → T (test 0) → N < 2 ^ f → Found N test (greatest_to f N test)
unfolding greatest_to
found f N test p h = last_found N test (greatest f (up_to N test) 0) (last f (up_to N test) 0 (starts N test p) (subst (λ n. T (not (up_to N test n))) (sym (zero-add (2 ^ f))) (ends f N test h)))

-- and what passes such a check is the greatest
pub found_is : (f N : ℕ) (test : ℕ → Bool) → ((A : ℕ) → A < N → T (test (A + 1)) → T (test A)) → T (test 0) → N < 2 ^ f → (A : ℕ) → Found N test A → A ≡ greatest_to f N test
unfolding greatest_to
found_is f N test h p k A r = is_greatest f (up_to N test) (up_to_falls N test h) (starts N test p) (ends f N test k) A (found-last N test A r)

-- ---- a turn of a loop that halves, after i of n turns: the test's answer t at lo + half / 2
one_less : (n i : ℕ) → i < n → n - i ≡ suc (n - (i + 1))
one_less n i h = omega arith

pub halved : (n i half : ℕ) → i < n → half ≡ 2 ^ (n - i) → half / 2 ≡ 2 ^ (n - (i + 1))
halved n i half h e = go (n - (i + 1)) (e ∙ ap (λ t. 2 ^ t) (one_less n i h))
  where
    go : (g : ℕ) → half ≡ 2 ^ suc g → half / 2 ≡ 2 ^ g
    go g e = omega (arith, pow-succ' 2 g)

pub turn : (n i : ℕ) (test : ℕ → Bool) (lo half B : ℕ) (t : Bool) → i < n → half ≡ 2 ^ (n - i) → greatest (n - i) test lo ≡ B → t ≡ test (lo + half / 2) → greatest (n - (i + 1)) test (cond t (lo + half / 2) lo) ≡ B
unfolding greatest
turn n i test lo half B t h e b u = go (n - (i + 1)) (halved n i half h e) (subst (λ f. greatest f test lo ≡ B) (one_less n i h) b)
  where
    go : (g : ℕ) → half / 2 ≡ 2 ^ g → greatest (suc g) test lo ≡ B → greatest g test (cond t (lo + half / 2) lo) ≡ B
    go g e b = rw (u, e) b

pub turned : (f : ℕ) (test : ℕ → Bool) (lo B : ℕ) → f ≤ 0 → greatest f test lo ≡ B → lo ≡ B
unfolding greatest
turned zero test lo B h e = e
turned (suc f) test lo B h e = omega arith
