-- How near a rounded number is to the fraction n / u that it stands for.
use Rattle.std.specs.Prelude.{◌≡◌, ℕ, ◌+◌, ◌*◌, ◌%◌, ◌≤◌}

-- q is the whole number nearest to n / u, and the even one of two that are as near
pub record NearestWhole (n u q : ℕ) : Type 0 where
  pub over : 2 * (q * u) ≤ 2 * n + u
  pub under : 2 * n ≤ 2 * (q * u) + u
  pub even_over : 2 * (q * u) ≡ 2 * n + u → q % 2 ≡ 0
  pub even_under : 2 * n ≡ 2 * (q * u) + u → q % 2 ≡ 0

-- g is within one part in E of n / u: | g * u - n | ≤ n / E
pub record Near (E n u g : ℕ) : Type 0 where
  pub over : E * (g * u) ≤ (E + 1) * n
  pub under : E * n ≤ E * (g * u) + n

-- g is within one part in E of n / u and a half besides: | g * u - n | ≤ n / E + u / 2
pub record Close (E n u g : ℕ) : Type 0 where
  pub over : 2 * (E * (g * u)) ≤ 2 * (E + 1) * n + E * u
  pub under : 2 * (E * n) ≤ 2 * (E * (g * u)) + 2 * n + E * u
