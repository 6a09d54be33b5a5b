-- Facts on natural numbers that the toolchain's library leaves out.
use mathlib.Core.Path.{◌≡◌, ap, ◌∙◌}
use Prim.Native.Nat.{ℕ, ◌+◌, ◌*◌, ◌-◌, ◌≤◌, ◌<◌}
use native.Mathlib.Nat.{mul_comm, mul-sub}
use native.Mathlib.Omega.{arith}

-- by contradiction
pub le_by : {a b : ℕ} → (b < a → ⊥) → a ≤ b
le_by {a} {b} f = omega (arith, f)

pub lt_by : {a b : ℕ} → (b ≤ a → ⊥) → a < b
lt_by {a} {b} f = omega (arith, f)

pub eq_by : {a b : ℕ} → (a < b → ⊥) → (b < a → ⊥) → a ≡ b
eq_by {a} {b} f g = omega (arith, f, g)

-- differences
pub sub-add : (a b : ℕ) → b ≤ a → a ≡ a - b + b
sub-add a b h = omega arith

pub sub-mul : (a b c : ℕ) → (a - b) * c ≡ a * c - b * c
sub-mul a b c = mul_comm (a - b) c ∙ mul-sub c a b ∙ ap (λ k. k - c * b) (mul_comm c a) ∙ ap (λ k. a * c - k) (mul_comm c b)
