use mathlib.Core.Path.{◌≡◌, ap, ◌∙◌}
use mathlib.Core.List.{◌++◌}
use Prim.Native.Nat.{◌+◌, ◌-◌, ◌≤◌}
use native.Mathlib.Omega.{arith}
use lib.ListN.{length, take, length-take}
use Rattle.text.specs.Text.{room, appended}
use Rattle.text.proofs.Appending.{fitting}
use Rattle.text.proofs.Held.{said_more, held_more}
use Rattle.text.proofs.Text.put.Goals as goal

module _ (c : goal.After-self-1) where
  put-length : length c.copy_from_slice.new.self ≡ c.min-n.result
  put-length =
      let copied = ap length c.copy_from_slice.ensures.after in
      omega (arith, copied, length-take c.min-n.result c.args.s.now, c.min-n.ensures)

  fits : c.self.inside.len + c.min-n.result ≤ room
  fits = omega (arith, c.min-n.ensures, c.self.invariant.within)

  room-left : room - c.self.inside.len + length (take c.self.inside.len c.self.inside.bytes) ≡ room
  room-left =
      omega (arith, length-take c.self.inside.len c.self.inside.bytes, c.self.invariant.full, c.self.invariant.within)

pub invariant_of-self : goal.invariant_of-self
invariant_of-self c = held_more c.self.inside c.self.invariant _ _ (put-length c) (fits c) _ (omega arith)

pub returns : goal.returns
returns c =
    said_more c.self.inside c.self.invariant _ _ (put-length c) (fits c) _
    ∙ ap (λ s. take c.self.inside.len c.self.inside.bytes ++ s) c.copy_from_slice.ensures.after
    ∙ fitting _ c.args.s.now (room - c.self.inside.len) _ (room-left c) c.min-n.ensures
    ∙ ap (λ t. appended t c.args.s.now) c.self.view_is
