-- Numbers as document 01 prints them ('Encounter sheet and its program'): whole numbers in decimal,
-- quantities with three decimals. Bytes are ASCII: 48 is '0' and 46 the point.
use Rattle.std.specs.Prelude.{cond, List, [], ◌∷◌, ◌++◌, ℕ, zero, suc, ◌+◌, ◌/◌, ◌%◌, ltb}

abbrev pub last_digit : ℕ → ℕ
last_digit n = 48 + n % 10

-- the digits of n, the most significant first and no more than needed: what stands before the last
-- digit are those of n / 10, if n has more than one
unfoldable pub digits_up_to : ℕ → ℕ → List ℕ
digits_up_to zero n = []
digits_up_to (suc k) n = cond (ltb n 10) [] (digits_up_to k (n / 10)) ++ (last_digit n ∷ [])

-- 20 digits hold every number below 2 ^ 64
unfoldable pub decimal_of : ℕ → List ℕ
decimal_of n = digits_up_to 20 n

-- n thousandths: the whole part, a point, and three digits
unfoldable pub three_decimals : ℕ → List ℕ
three_decimals n = decimal_of (n / 1000) ++ (46 ∷ last_digit (n / 100) ∷ last_digit (n / 10) ∷ last_digit n ∷ [])
