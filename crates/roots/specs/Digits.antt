-- What the roots by whole numbers keep of a guess: its excess.
use Rattle.std.specs.Prelude.{◌≡◌, ℕ, ◌+◌, ◌*◌, ◌^◌, ◌<◌}

-- x is by how much r * r exceeds d * 2 ^ 52, plus 2 ^ 54; a 0 says nothing
pub record Excess (d r x : ℕ) : Type 0 where
  pub is : 0 < x → x + d * 2 ^ 52 ≡ r * r + 2 ^ 54
  pub few : x < 2 ^ 56
