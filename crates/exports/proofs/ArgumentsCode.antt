-- What the code of the arguments owes: a slice's end is the end of the list.
use mathlib.Core.Path.{◌≡◌, ap}
use mathlib.Core.List.{List}
use Prim.Native.Nat.{ℕ, ◌-◌, ◌/◌}
use native.Mathlib.Omega.{arith}
use lib.ListN.{length, take, drop, length-drop}
use lib.Seq.{take_all}
use Rattle.std.specs.Simd.{first_chunks}

module _ (ws : List ℕ) (before : ℕ) where
  after : take (length ws - before) (drop before ws) ≡ drop before ws
  after = take_all (length ws - before) (drop before ws) (omega (arith, length-drop before ws))

  pub whole : first_chunks 7 (length (take (length ws - before) (drop before ws)) / 7) (take (length ws - before) (drop before ws))
      ≡ first_chunks 7 (length (drop before ws) / 7) (drop before ws)
  whole = ap (λ l. first_chunks 7 (length l / 7) l) after
