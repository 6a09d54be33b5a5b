-- Every word becomes an f64 without loss (01): a count below 2^53, and so every 28-bit value, is exactly so many 1/1024.
use Rattle.std.proofs.Common.{◌≡◌, ℕ, ◌*◌, ◌^◌, ◌<◌, true, false, pos, refl, ap, true≢false, lt_trans, lt_of_le_of_lt, le_of_lt, mul-le-mul_right, arith, lit<}
use lib.Ieee.{Float, nan, inf, fin, binary64, up, down, div, round, of_int, of_bits}
use lib.Ieee.Exact.{HasValue, round_exact}
use lib.Ieee.Fits.{down_pos}
use Rattle.laws.proofs.Exact.{whole-value}
use Rattle.laws.proofs.Units.{rescale}
use Rattle.sheet.specs.Values.{scaled}

product : (v n d L J F : ℕ) → v * 1 ≡ n * d → L ≡ J * F → v * 1 * L ≡ n * J * (F * d)
product v n d L J F h k = omega (arith, ap (λ t. t * L) h, ap (λ t. n * d * t) k)

over : (v : Float) (n : ℕ) → n < 2 ^ 53 → HasValue v false n 1 → HasValue (div binary64 v (fin false 1 (pos 10))) false n 1024
unfolding div
over nan n h v = absurd v
over (inf t) n h v = absurd v
over (fin true m e) n h v = absurd (true≢false v.0)
over (fin false m e) n h v =
    rescale (round binary64 false (m * up e * 1) (1024 * down e)) false (m * up e * 1) (1024 * down e) n 1024 (positive (down e) (down_pos e)) (across (m * up e) (down e) v.1)
    (round_exact binary64 false (m * up e * 1) (1024 * down e) n 1064 (positive (down e) (down_pos e)) h
    (lt_of_le_of_lt (mul-le-mul_right (2 ^ 1064) (le_of_lt h)) (lit< tt))
    (product (m * up e) n (down e) (2 ^ 1074) (2 ^ 1064) 1024 v.1 refl))
  where
    positive : (d : ℕ) → 0 < d → 0 < 1024 * d
    positive d p = omega arith

    across : (w d : ℕ) → w * 1 ≡ n * d → n * (1024 * d) ≡ w * 1 * 1024
    across w d q = omega (arith, q)

pub exact : (n : ℕ) → n < 2 ^ 28 → HasValue (scaled n) false n 1024
unfolding scaled of_bits
exact n h = over (of_int binary64 (pos n)) n (lt_trans h (lit< tt)) (whole-value n (le_of_lt (lt_trans h (lit< tt))))
