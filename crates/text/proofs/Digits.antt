-- The fewest digits that hold a number, as the toolchain's `io::decimal` gives them, are its decimal digits as defined here.
use mathlib.Core.Path.{◌≡◌, refl, ap}
use mathlib.Core.Bool.{Bool, true, false, cond}
use mathlib.Core.List.{List, [], ◌∷◌, ◌++◌}
use Prim.Native.Nat.{ℕ, zero, suc, ◌+◌, ◌-◌, ◌/◌, ◌%◌, ◌^◌, ◌≤◌, ◌<◌}
use native.Mathlib.Nat.{pow-succ', one-le-pow, pow-le-pow_right}
use native.Mathlib.Omega.{arith}
use borrow.Author.Tests.{lt-ltb, le-ltb, ltb-true, ltb-false}
use lib.Dec.{ltb}
use lib.ListN.{length, length-append}
use Rattle.io.specs.Digits.{hex_digit_ascii, last_digits, IsDigitCount}
use Rattle.text.specs.Decimal.{last_digit, digits_up_to, decimal_of, three_decimals}

last_glyph : (n : ℕ) → hex_digit_ascii (n % 10) ≡ last_digit n
last_glyph n = rw (lt-ltb (n % 10) 10 (omega arith)) refl

fewest_digits : (f k n : ℕ) → IsDigitCount 10 1 n k → k ≤ f → last_digits 10 k n ≡ digits_up_to f n
unfolding digits_up_to
fewest_digits f zero n h l = absurd (omega arith)
fewest_digits zero (suc k) n h l = absurd (omega arith)
fewest_digits (suc f) (suc zero) n h l = rw (last_glyph n, lt-ltb n 10 h.1) refl
fewest_digits (suc f) (suc (suc j)) n h l =
    let s : suc (suc j) - 1 ≡ suc j = omega arith in
    let big : 10 ^ suc j ≤ n = rw s at (h.2 (omega arith)) in
    let p = pow-succ' 10 j in
    let q = pow-succ' 10 (suc j) in
    let ten : 10 ≤ n = omega (arith, one-le-pow j 10 (omega arith)) in
    let less : n / 10 < 10 ^ suc j = omega (arith, h.1) in
    let least : 10 ^ j ≤ n / 10 = omega arith in
    let e : suc j - 1 ≡ j = omega arith in
    rw (last_glyph n, le-ltb n 10 ten) (ap (λ (d : List ℕ). d ++ (last_digit n ∷ [])) (fewest_digits f (suc j) (n / 10) (omega arith, less, λ _. rw e least) (omega arith)))

pub decimal_is : (k n : ℕ) → n < 2 ^ 64 → IsDigitCount 10 1 n k → last_digits 10 k n ≡ decimal_of n
unfolding decimal_of
decimal_is k n h f = fewest_digits 20 k n f (go (ltb 20 k) (ltb-true 20 k) (ltb-false 20 k))
  where
    never : 20 < k → ⊥
    never g = omega (arith, f.2 (omega arith), pow-le-pow_right {n = 10} (omega arith) {i = 20} {j = k - 1} (omega arith))

    go : (t : Bool) → (t ≡ true → 20 < k) → (t ≡ false → k ≤ 20) → k ≤ 20
    go true a b = absurd (never (a refl))
    go false a b = b refl

-- how long they are at most
digits_short : (k n : ℕ) → length (digits_up_to k n) ≤ k
unfolding digits_up_to
digits_short zero n = omega arith
digits_short (suc k) n = simp length-append (go (ltb n 10) (digits_short k (n / 10)))
  where
    go : (b : Bool) → length (digits_up_to k (n / 10)) ≤ k → length (cond b [] (digits_up_to k (n / 10))) + 1 ≤ suc k
    go true l = omega arith
    go false l = omega arith

pub decimal_short : (n : ℕ) → length (decimal_of n) ≤ 20
unfolding decimal_of
decimal_short n = digits_short 20 n

pub decimals_short : (n : ℕ) → length (three_decimals n) ≤ 24
unfolding three_decimals
decimals_short n = simp length-append (omega (arith, decimal_short (n / 1000)))
