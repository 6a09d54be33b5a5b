-- A text with bytes written after those that it says.
use mathlib.Core.Path.{◌≡◌, sym, ap, ◌∙◌}
use mathlib.Core.List.{List, ◌++◌}
use Prim.Native.Nat.{ℕ, ◌+◌, ◌-◌, ◌≤◌}
use native.Mathlib.Omega.{arith}
use lib.ListN.{length, take, drop, length-take, length-drop, length-append}
use borrow.Rule.Slice.PartMut.{put_mid}
use Rattle.std.proofs.lemmas.List.{drop-replicate, drop-drop}
use Rattle.std.proofs.lemmas.Slice.{take-put_mid, drop-put_mid}
use Rattle.text.specs.declared.Text.TheInside.{Inside}
use Rattle.text.specs.Text.{room}
use Rattle.text.specs.Held.{zeros, IsText}

module _ (t : Inside) (h : IsText t) (s : List ℕ) (n : ℕ) (p : length s ≡ n) (q : t.len + n ≤ room) where
  within : t.len ≤ length t.bytes
  within = omega (arith, h.full, h.within)

  pub said_more : (k : ℕ) → take (t.len + n) (put_mid t.len k t.bytes s) ≡ take t.len t.bytes ++ s
  said_more k = take-put_mid t.len k t.bytes s (t.len + n) (omega (arith, p)) within

  pub held_more : (k : ℕ) → k ≡ n → IsText (record { bytes = put_mid t.len k t.bytes s; len = t.len + n })
  held_more k e = record {
    full =
        let rest = drop t.len t.bytes in
        omega (
          arith,
          length-append (take t.len t.bytes) (s ++ drop k rest),
          length-append s (drop k rest),
          length-drop k rest,
          length-drop t.len t.bytes,
          length-take t.len t.bytes,
          h.full,
          h.within,
          p,
          q,
          e,
        );
    within = q;
    blank_after =
        drop-put_mid t.len k t.bytes s (t.len + n) (omega arith) within (omega (arith, p))
        ∙ sym (drop-drop n t.len t.bytes) ∙ ap (drop n) h.blank_after ∙ drop-replicate n (room - t.len) 0
        ∙ ap zeros (omega arith);
  }
