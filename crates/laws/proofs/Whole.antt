-- The whole number nearest to n / u, ties to even. There is at most one, and it is the toolchain's `closest n u`.
use mathlib.Core.Path.{◌≡◌, refl, sym, subst}
use mathlib.Core.Bool.{not}
use mathlib.Core.Logic.{◌⊎◌, inl, inr}
use Prim.Native.Nat.{ℕ, zero, suc, ◌+◌, ◌*◌, ◌/◌, ◌%◌, ◌≤◌, ◌<◌, compare, Ordering}
use native.Mathlib.Nat.{mul-le-mul_right, le_of_mul-le-mul_right, div-add-mod', mod-lt}
use native.Mathlib.Omega.{arith}
use lib.Arith.{lt_of_le-ne}
use lib.Dec.{T, is_le, compare_is_eq, eqb, leb→le, nleb→lt, eqb→eq, eqb_refl}
use lib.Ieee.{nearest}
use lib.Ieee.Nearest.{closest}
use Rattle.laws.specs.Rounding.{NearestWhole}
use Rattle.laws.proofs.Numbers.{le_by, eq_by}

abbrev Compared : Ordering → ℕ → ℕ → Type 0
Compared Ordering.lt a b = a < b
Compared Ordering.eq a b = a ≡ b
Compared Ordering.gt a b = b < a

compared : (a b : ℕ) → Compared (compare a b) a b
compared a b = go (compare a b) (leb→le a b) (nleb→lt a b) (eqb→eq a b) (λ (e : a ≡ b). subst (λ (x : ℕ). T (eqb a x)) e (eqb_refl a))
  where
    go : (o : Ordering) → (T (is_le o) → a ≤ b) → (T (not (is_le o)) → b < a) → (T (compare_is_eq o) → a ≡ b) → (a ≡ b → T (compare_is_eq o)) → Compared o a b
    go Ordering.lt h k e n = lt_of_le-ne (h tt) n
    go Ordering.eq h k e n = e tt
    go Ordering.gt h k e n = k tt

-- w + w % 2 is w or the next number, and even
to_even : (w : ℕ) → ((w + w % 2 ≡ w) × (w % 2 ≡ 0)) ⊎ ((w + w % 2 ≡ suc w) × (suc w % 2 ≡ 0))
to_even w = go (w % 2) refl
  where
    go : (r : ℕ) → w % 2 ≡ r → ((w + r ≡ w) × (r ≡ 0)) ⊎ ((w + r ≡ suc w) × (suc w % 2 ≡ 0))
    go zero e = inl (omega arith, refl)
    go (suc zero) e = inr (omega arith, omega arith)
    go (suc (suc r)) e = absurd (never r e)
      where
        never : (r : ℕ) → w % 2 ≡ suc (suc r) → ⊥
        never r e = omega arith

-- n is w * u + r: below the half, above it, and at it
pub nearest_below : (n u w r : ℕ) → w * u + r ≡ n → r * 2 < u → NearestWhole n u w
nearest_below n u w r e h = record { over = omega arith; under = omega arith; even_over = λ k. absurd (no_over k); even_under = λ k. absurd (no_under k) }
  where
    no_over : 2 * (w * u) ≡ 2 * n + u → ⊥
    no_over k = omega arith

    no_under : 2 * n ≡ 2 * (w * u) + u → ⊥
    no_under k = omega arith

pub nearest_above : (n u w r : ℕ) → w * u + r ≡ n → r < u → u < r * 2 → NearestWhole n u (suc w)
nearest_above n u w r e l h = record { over = omega arith; under = omega arith; even_over = λ k. absurd (no_over k); even_under = λ k. absurd (no_under k) }
  where
    no_over : 2 * (suc w * u) ≡ 2 * n + u → ⊥
    no_over k = omega arith

    no_under : 2 * n ≡ 2 * (suc w * u) + u → ⊥
    no_under k = omega arith

pub nearest_tie : (n u w r : ℕ) → w * u + r ≡ n → r * 2 ≡ u → NearestWhole n u (w + w % 2)
nearest_tie n u w r e h = elim (to_even w) [
  | inl p ↦ subst (λ q. NearestWhole n u q) (sym p.0) (record { over = omega arith; under = omega arith; even_over = λ k. p.1; even_under = λ k. p.1 })
  | inr p ↦ subst (λ q. NearestWhole n u q) (sym p.0) (record { over = omega arith; under = omega arith; even_over = λ k. p.1; even_under = λ k. p.1 })
]

pub closest_is : (n u : ℕ) → 0 < u → NearestWhole n u (closest n u)
closest_is n u U = go (compare (n % u * 2) u) (compared (n % u * 2) u)
  where
    go : (o : Ordering) → Compared o (n % u * 2) u → NearestWhole n u (nearest (n / u) o)
    go Ordering.lt c = nearest_below n u (n / u) (n % u) (div-add-mod' n u) c
    go Ordering.eq c = nearest_tie n u (n / u) (n % u) (div-add-mod' n u) c
    go Ordering.gt c = nearest_above n u (n / u) (n % u) (div-add-mod' n u) (mod-lt n U) c

-- ---- at most one: two that differ are neighbours with n / u halfway between, and both even
not_below : (n u p q : ℕ) → 0 < u → NearestWhole n u p → NearestWhole n u q → p < q → ⊥
not_below n u p q U x y h = clash (x.even_under tie.0) (y.even_over tie.1) neighbours h
  where
    low : 2 * n ≤ 2 * (p * u) + u
    low = x.under

    high : 2 * (q * u) ≤ 2 * n + u
    high = y.over

    neighbours : q ≤ suc p
    neighbours = le_of_mul-le-mul_right {k = u} (go low high) U
      where
        go : 2 * n ≤ 2 * (p * u) + u → 2 * (q * u) ≤ 2 * n + u → q * u ≤ suc p * u
        go a b = omega arith

    tie : (2 * n ≡ 2 * (p * u) + u) × (2 * (q * u) ≡ 2 * n + u)
    tie = go low high (mul-le-mul_right u h)
      where
        go : 2 * n ≤ 2 * (p * u) + u → 2 * (q * u) ≤ 2 * n + u → suc p * u ≤ q * u → (2 * n ≡ 2 * (p * u) + u) × (2 * (q * u) ≡ 2 * n + u)
        go a b s = (omega (arith, s), omega (arith, s))

    clash : p % 2 ≡ 0 → q % 2 ≡ 0 → q ≤ suc p → p < q → ⊥
    clash a b c d = omega arith

pub nearest_unique : (n u p q : ℕ) → 0 < u → NearestWhole n u p → NearestWhole n u q → p ≡ q
nearest_unique n u p q U x y = eq_by (not_below n u p q U x y) (not_below n u q p U y x)

-- what is nearest is `closest`
pub is_closest : (n u q : ℕ) → 0 < u → NearestWhole n u q → q ≡ closest n u
is_closest n u q U x = nearest_unique n u q (closest n u) U x (closest_is n u U)

-- ---- an even number of units more, a bound, and zero
pub closest-add-even : (n u e : ℕ) → 0 < u → e % 2 ≡ 0 → closest (e * u + n) u ≡ e + closest n u
closest-add-even n u e U h = sym (is_closest (e * u + n) u (e + closest n u) U (go (closest n u) (closest_is n u U)))
  where
    go : (q : ℕ) → NearestWhole n u q → NearestWhole (e * u + n) u (e + q)
    go q x = record { over = omega (arith, x.over); under = omega (arith, x.under); even_over = λ k. even q (x.even_over (over k)); even_under = λ k. even q (x.even_under (under k)) }
      where
        even : (q : ℕ) → q % 2 ≡ 0 → (e + q) % 2 ≡ 0
        even q g = omega arith

        over : 2 * ((e + q) * u) ≡ 2 * (e * u + n) + u → 2 * (q * u) ≡ 2 * n + u
        over k = omega arith

        under : 2 * (e * u + n) ≡ 2 * ((e + q) * u) + u → 2 * n ≡ 2 * (q * u) + u
        under k = omega arith

pub closest-le : (n u c : ℕ) → 0 < u → n ≤ c * u → closest n u ≤ c
closest-le n u c U h = le_by (λ l. go (closest n u) l (closest_is n u U).over)
  where
    go : (q : ℕ) → c < q → 2 * (q * u) ≤ 2 * n + u → ⊥
    go q l k = omega (arith, mul-le-mul_right u l)

pub closest-zero : (n u : ℕ) → 0 < u → n * 2 < u → closest n u ≡ 0
closest-zero n u U h = sym (is_closest n u 0 U (nearest_below n u 0 n (omega arith) h))
