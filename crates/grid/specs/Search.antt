-- The greatest of the numbers 0 to N that passes a test, by halves. Where the test, once it fails,
-- fails from there on, it is the place where the test changes: `Found` says so.
use Rattle.std.specs.Prelude.{Bool, not, cond, ◌&&◌, ℕ, zero, suc, ◌+◌, ◌^◌, ◌≤◌, ◌<◌, T, leb}

-- the test at lo + 2 ^ (f - 1), lo + 2 ^ (f - 2), ...: what passes is kept
unfoldable pub greatest : ℕ → (ℕ → Bool) → ℕ → ℕ
greatest zero test lo = lo
greatest (suc f) test lo = greatest f test (cond (test (lo + 2 ^ f)) (lo + 2 ^ f) lo)

-- ---- a test for the numbers up to N
unfoldable pub up_to : ℕ → (ℕ → Bool) → ℕ → Bool
up_to N test A = leb A N && test A

-- the greatest of 0 .. N that passes
unfoldable pub greatest_to : ℕ → ℕ → (ℕ → Bool) → ℕ
greatest_to f N test = greatest f (up_to N test) 0

-- A is at most N and passes, and the next does not, unless A is N
pub record Found (N : ℕ) (test : ℕ → Bool) (A : ℕ) : Type 0 where
  pub within : A ≤ N
  pub passes : T (test A)
  pub next : A < N → T (not (test (A + 1)))
