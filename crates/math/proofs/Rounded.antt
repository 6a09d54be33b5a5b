-- The cast behind its test: in range it is the rounded value's, and out of range 0.
use Rattle.std.proofs.Common.{◌≡◌, ◌^◌, ◌<◌, true, false, ◌||◌, ℤ, pos, sym, refl, ap, ◌∙◌, w32, to_z, of_z}
use lib.Ieee.{Float, lt, to_signed}
use lib.Signed.{mag}
use mir.ValLaws.{to_z-of_z}
use Rattle.math.specs.Rounded.{i32_max, i32_min, round_to_i32}
use Rattle.math.specs.Whole.{round_half_away}

-- r is the rounded value
module _ (x r : Float) (e : r ≡ round_half_away x) where
  pub i32_outside : (lt i32_max r || lt r i32_min) ≡ true → pos 0 ≡ round_to_i32 x
  unfolding round_to_i32
  i32_outside p = rw (ap (λ y. lt i32_max y || lt y i32_min) (sym e) ∙ p) refl

  pub i32_inside : (lt i32_max r || lt r i32_min) ≡ false → (z : ℤ) → mag z < 2 ^ 31 → z ≡ to_signed 31 r → to_z w32 (of_z w32 z) ≡ round_to_i32 x
  unfolding round_to_i32
  i32_inside p z h f = to_z-of_z w32 z (record { sfits = h }) ∙ f ∙ ap (to_signed 31) e ∙ sym (rw (ap (λ y. lt i32_max y || lt y i32_min) (sym e) ∙ p) refl)
