use Rattle.std.proofs.Common.{◌≡◌, ℕ, ◌+◌, ◌≤◌, List, ◌++◌, length, take, sym, ap, ◌∙◌, subst, arith, rules, length-take-le}
use Rattle.std.proofs.KnownBytes.{Consumes-trans}
use Rattle.std.proofs.Math.Seq.{take-append-add}
use Rattle.std.proofs.lemmas.List.{take-append-le}
use Rattle.std.specs.Io.KnownBytes.{Consumes}
use borrow.Rule.Slice.PartMut.{put_mid, post_of}
use Rattle.report.proofs.stream.read_full.Goals as goal

-- After a read into the rest of the buffer, what is read is what was read and what this read gave.
further : (a k m : ℕ) (xs ys : List ℕ) → a ≤ length xs → m ≤ length ys → take (a + m) (put_mid a k xs ys) ≡ take a xs ++ take m ys
further a k m xs ys h f =
    ap (λ n. take (n + m) (put_mid a k xs ys)) (sym (length-take-le a xs h))
    ∙ take-append-add (take a xs) (ys ++ post_of a k xs) m
    ∙ ap (λ (l : List ℕ). take a xs ++ l) (take-append-le m ys (post_of a k xs) f)

pub loop-done-preserved : goal.loop-done-preserved
loop-done-preserved g c =
    let at = c.loop-done.done in
    let within : at ≤ length c.loop-done.buf = omega arith in
    record {
      within = search rules;
      consumed = subst (Consumes _ _) (sym (further at _ c.in_ok-more.more c.loop-done.buf c.read.new.buf within c.in_ok-more.ensures.bound.0)) (Consumes-trans _ _ _ _ _ c.loop-done.invariant.consumed c.in_ok-more.ensures.bytes.0);
    }
