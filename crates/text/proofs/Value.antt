-- The decimal digits of a number, read from the left, are that number; with some figures as printed.
use mathlib.Core.Path.{◌≡◌, refl, ◌∙◌}
use mathlib.Core.Bool.{Bool, true, false, cond}
use mathlib.Core.List.{List, [], ◌∷◌, ◌++◌}
use Prim.Native.Nat.{ℕ, zero, suc, ◌+◌, ◌*◌, ◌-◌, ◌/◌, ◌^◌, ◌<◌}
use native.Mathlib.Nat.{pow-succ'}
use native.Mathlib.Omega.{arith}
use borrow.Author.Tests.{lt-ltb, ltb-true}
use lib.Dec.{ltb}
use Rattle.text.specs.Text.{bytes}
use Rattle.text.specs.Decimal.{last_digit, digits_up_to, decimal_of, three_decimals}

-- v followed by the digits
unfoldable pub read_on : ℕ → List ℕ → ℕ
read_on v [] = v
read_on v (d ∷ ds) = read_on (v * 10 + (d - 48)) ds

read_last : (v d : ℕ) (ds : List ℕ) → read_on v (ds ++ (d ∷ [])) ≡ read_on v ds * 10 + (d - 48)
unfolding read_on
read_last v d [] = refl
read_last v d (x ∷ ds) = read_last (v * 10 + (x - 48)) d ds

reads_back : (k n : ℕ) → n < 10 ^ suc k → read_on 0 (digits_up_to (suc k) n) ≡ n
unfolding digits_up_to read_on
reads_back zero n h = rw (lt-ltb n 10 h) (omega arith)
reads_back (suc k) n h = read_last 0 (last_digit n) (cond (ltb n 10) [] (digits_up_to (suc k) (n / 10))) ∙ go (ltb n 10) (ltb-true n 10) (reads_back k (n / 10) (omega (arith, pow-succ' 10 (suc k))))
  where
    go : (b : Bool) → (b ≡ true → n < 10) → read_on 0 (digits_up_to (suc k) (n / 10)) ≡ n / 10 → read_on 0 (cond b [] (digits_up_to (suc k) (n / 10))) * 10 + (last_digit n - 48) ≡ n
    go true a e = omega (arith, a refl)
    go false a e = omega arith

pub decimal_value : (n : ℕ) → n < 2 ^ 64 → read_on 0 (decimal_of n) ≡ n
unfolding decimal_of
decimal_value n h = reads_back 19 n (omega arith)

-- as printed
pub figures : (decimal_of 0 ≡ bytes "0") × (decimal_of 10 ≡ bytes "10") × (decimal_of 18446744073709551615 ≡ bytes "18446744073709551615") × (three_decimals 0 ≡ bytes "0.000") × (three_decimals 1062 ≡ bytes "1.062") × (three_decimals 1024000 ≡ bytes "1024.000")
unfolding decimal_of digits_up_to three_decimals bytes
figures = (refl, refl, refl, refl, refl, refl)
