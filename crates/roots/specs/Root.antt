-- Square roots of whole numbers.
use Rattle.std.specs.Prelude.{cond, ℕ, zero, suc, ◌+◌, ◌*◌, ◌^◌, ◌≤◌, ◌<◌, leb}

-- r is the whole part of the square root of n
pub record IsRoot (n r : ℕ) : Type 0 where
  pub at_most : r * r ≤ n
  pub above : n < (r + 1) * (r + 1)

-- r is the whole number nearest to the square root of n: (r - 1/2)² < n < (r + 1/2)². As n is whole
-- there is no tie.
pub record NearestRoot (n r : ℕ) : Type 0 where
  pub low : r * r < n + r
  pub high : n ≤ r * r + r

-- the whole part of the root of n, for a root that is `from` plus a number of f bits
unfoldable pub bits : ℕ → ℕ → ℕ → ℕ
bits zero n from = from
bits (suc f) n from = bits f n (cond (leb ((from + 2 ^ f) * (from + 2 ^ f)) n) (from + 2 ^ f) from)

-- of an n below 2 ^ 108
unfoldable pub isqrt : ℕ → ℕ
unfolding bits
isqrt n = bits 54 n 0
