-- What is printed is the nearest number of thousandths: of every quantity from 0 up to 2 ^ 53, twice the distance from it to 1000 times the quantity is at most 1, and on a tie it is even.
use mathlib.Core.Path.{◌≡◌, sym, subst}
use mathlib.Core.Bool.{Bool, true, false, cond, ◌||◌, beq}
use Prim.Native.Nat.{ℕ, ◌*◌}
use native.Mathlib.Omega.{arith}
use lib.Dec.{T, eqb, eqb→eq}
use lib.Ieee.{Float, nan, inf, fin, up, down, lt, le, eq, of_bits}
use lib.Ieee.Fits.{and_l}
use lib.Ieee.Nearest.{closest}
use lib.Ieee.Positive.{num, den, den_pos}
use Rattle.laws.specs.Rounding.{NearestWhole}
use Rattle.laws.proofs.Bools.{holds}
use Rattle.laws.proofs.Order.{eq_sym}
use Rattle.laws.proofs.Whole.{closest_is, closest-zero}
use Rattle.text.specs.Thousandths.{none, limit, thousandths_of}

-- a zero of either sign has no size
no_size : (x : Float) → T (eq x none) → num x ≡ 0
unfolding eq of_bits
no_size nan p = absurd p
no_size (inf s) p = absurd p
no_size (fin s m e) p = size (m * up e) (down e) (eqb→eq (m * up e * 1) (0 * 1 * down e) (and_l (eqb (m * up e * 1) (0 * 1 * down e)) (beq s false || eqb (m * up e * 1) 0) p))
  where
    size : (a d : ℕ) → a * 1 ≡ 0 * 1 * d → a ≡ 0
    size a d h = omega arith

pub nearest_thousandth : (x : Float) → le none x ≡ true → lt x limit ≡ true → NearestWhole (num x * 1000) (den x) (thousandths_of x)
unfolding thousandths_of le
nearest_thousandth x p q = rw q (go (lt none x) (λ e. no_size x (eq_sym none x (holds e))) p)
  where
    go : (b : Bool) → (eq none x ≡ true → num x ≡ 0) → b || eq none x ≡ true → NearestWhole (num x * 1000) (den x) (cond b (closest (num x * 1000) (den x)) 0)
    go true z p = closest_is (num x * 1000) (den x) (den_pos x)
    go false z p = subst (λ n. NearestWhole (n * 1000) (den x) 0) (sym (z p)) (subst (NearestWhole 0 (den x)) (closest-zero 0 (den x) (den_pos x) (den_pos x)) (closest_is 0 (den x) (den_pos x)))
