-- Which values of 28 bits are accepted, in whole numbers of 1/1024: document 01's rows 1, 2 and 3
-- on a sheet's words, and request R-1's 'a wind of 360 or more gets number 1'.
use Rattle.std.specs.Prelude.{◌≡◌, [], ◌∷◌, ℕ, ◌*◌, ltb, leb, Some}
use Rattle.elementary.specs.declared.error.Refusal.TheVariants as Why
use Rattle.motion.specs.Check.{check, is_direction, is_speed, is_distance}
use Rattle.situation.specs.Arguments.{optional_checks}
use Rattle.sheet.specs.Values.{scaled, optional_wind}

pub record Accepted (n : ℕ) : Type 0 where
  pub direction : is_direction (record { 0 = scaled n }) ≡ ltb n (360 * 1024)
  pub speed : is_speed (record { 0 = scaled n }) ≡ leb n (1000 * 1024)
  pub distance : is_distance (record { 0 = scaled n }) ≡ leb n (10000 * 1024)
  pub wind : optional_checks (optional_wind (Some n)) ≡ check (ltb n (360 * 1024)) Why.Angle ∷ []
