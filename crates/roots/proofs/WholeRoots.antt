-- Whole square roots: there is one, `isqrt` finds it bit by bit, and the nearest whole number to a root is half of the root of the fourfold number, rounded.
use mathlib.Core.Path.{◌≡◌, subst}
use mathlib.Core.Bool.{Bool, true, false, not, cond}
use Prim.Native.Nat.{ℕ, zero, suc, ◌+◌, ◌*◌, ◌^◌, ◌/◌, ◌≤◌, ◌<◌}
use native.Mathlib.Nat.{pow-succ', mul-le-mul}
use native.Mathlib.Omega.{arith}
use lib.Dec.{T, leb, leb→le, nleb→lt}
use Rattle.laws.proofs.Numbers.{eq_by}
use Rattle.roots.specs.Root.{IsRoot, NearestRoot, bits, isqrt}

-- ---- the whole part
not_less : (n r s : ℕ) → IsRoot n r → IsRoot n s → r < s → ⊥
not_less n r s x y h = omega (arith, x.above, y.at_most, mul-le-mul h h)

pub root_unique : (n r s : ℕ) → IsRoot n r → IsRoot n s → r ≡ s
root_unique n r s x y = eq_by (not_less n r s x y) (not_less n s r y x)

bits_are : (f n lo : ℕ) → lo * lo ≤ n → n < (lo + 2 ^ f) * (lo + 2 ^ f) → IsRoot n (bits f n lo)
unfolding bits
bits_are zero n lo p q = record { at_most = p; above = q }
bits_are (suc f) n lo p q = go (leb ((lo + 2 ^ f) * (lo + 2 ^ f)) n) (leb→le ((lo + 2 ^ f) * (lo + 2 ^ f)) n) (nleb→lt ((lo + 2 ^ f) * (lo + 2 ^ f)) n) (λ a b. bits_are f n (lo + 2 ^ f) a b) (λ b. bits_are f n lo p b)
  where
    sum : lo + 2 ^ suc f ≡ lo + 2 ^ f + 2 ^ f
    sum = omega (arith, pow-succ' 2 f)

    square : ℕ → ℕ
    square t = t * t

    go : (t : Bool) → (T t → square (lo + 2 ^ f) ≤ n) → (T (not t) → n < square (lo + 2 ^ f))
        → (square (lo + 2 ^ f) ≤ n → n < square (lo + 2 ^ f + 2 ^ f) → IsRoot n (bits f n (lo + 2 ^ f))) → (n < square (lo + 2 ^ f) → IsRoot n (bits f n lo)) → IsRoot n (bits f n (cond t (lo + 2 ^ f) lo))
    go true a b r s = r (a tt) (subst (λ t. n < t * t) sum q)
    go false a b r s = s (b tt)

pub isqrt_is : (n : ℕ) → n < 2 ^ 108 → IsRoot n (isqrt n)
unfolding isqrt
isqrt_is n h = bits_are 54 n 0 (omega arith) h

-- ---- the nearest
pub nearest_root : (n s : ℕ) → 1 ≤ n → IsRoot (4 * n) s → NearestRoot n ((s + 1) / 2)
nearest_root n s h x = go ((s + 1) / 2) (omega arith) (omega arith) (one s x)
  where
    one : (s : ℕ) → IsRoot (4 * n) s → 1 ≤ s
    one s x = go s x.above
      where
        go : (s : ℕ) → 4 * n < (s + 1) * (s + 1) → 1 ≤ s
        go zero k = absurd (never k)
          where
            never : 4 * n < (0 + 1) * (0 + 1) → ⊥
            never k = omega arith
        go (suc s) k = omega arith

    go : (v : ℕ) → s ≤ 2 * v → 2 * v ≤ s + 1 → 1 ≤ s → NearestRoot n v
    go zero p q k = absurd (never p k)
      where
        never : s ≤ 2 * 0 → 1 ≤ s → ⊥
        never p k = omega arith
    go (suc w) p q k = record { low = low (omega arith); high = high p }
      where
        low : 2 * w + 1 ≤ s → suc w * suc w < n + suc w
        low g = omega (arith, mul-le-mul g g, x.at_most)

        high : s ≤ 2 * suc w → n ≤ suc w * suc w + suc w
        high g = omega (arith, mul-le-mul g g, x.above)

pub nearest_root_unique : (n r s : ℕ) → NearestRoot n r → NearestRoot n s → r ≡ s
nearest_root_unique n r s x y = eq_by (not_below n r s x y) (not_below n s r y x)
  where
    not_below : (n r s : ℕ) → NearestRoot n r → NearestRoot n s → r < s → ⊥
    not_below n r zero x y h = omega arith
    not_below n r (suc s) x y h = let k : r ≤ s = omega arith in omega (arith, x.high, y.low, mul-le-mul k k)
