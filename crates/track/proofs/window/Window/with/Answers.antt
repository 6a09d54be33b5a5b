use Rattle.std.proofs.Common.{◌≡◌, ◌≤◌, [], ◌∷◌, ◌++◌, ℕ, ◌-◌, List, length, take, drop, ap, sym, ◌∙◌, rules}
use native.Mathlib.Omega.{arith}
use lib.ListN.{set, length-append}
use lib.Seq.{paste, take_all, length-take-le}
use Rattle.std.proofs.lemmas.List.{take_more_set}
use Rattle.track.specs.declared.window.Fix.{Fix}
use Rattle.track.specs.Limits.{max_track_history}
use Rattle.track.specs.Window as Spec
use Rattle.track.proofs.Latest.{latest-short, moved}
use Rattle.track.proofs.window.Window.with.Goals as goal

pub returns-then-window-lt-MAX_TRACK_HISTORY : goal.returns-then-window-lt-MAX_TRACK_HISTORY
returns-then-window-lt-MAX_TRACK_HISTORY c =
    let fs : List Fix = c.args.self.fixes in
    let n : ℕ = c.args.self.count in
    let room : length fs ≡ max_track_history = search rules in
    let few : length (take n fs ++ c.args.fix ∷ []) ≤ max_track_history =
    omega (arith, length-append (take n fs) (c.args.fix ∷ []), length-take-le n fs (omega arith), c.if-window-lt-MAX_TRACK_HISTORY.true) in
    take_more_set fs n c.args.fix (omega arith) ∙ sym (latest-short max_track_history _ few)

pub returns : goal.returns
returns c =
    let fs : List Fix = c.args.self.fixes in
    let n : ℕ = c.args.self.count in
    let room : length fs ≡ max_track_history = search rules in
    let full : n ≡ max_track_history = omega (arith, c.if-window-lt-MAX_TRACK_HISTORY.false, c.args.self.held) in
    let before : ℕ = max_track_history - 1 in
    let copied : c.copy_within.new.self ≡ paste fs 0 (drop 1 fs) before = c.copy_within.ensures.after ∙ ap (λ l. paste fs 0 (drop 1 fs) (l - 1)) room in
    (λ i. take (full i) (set (copied i) before c.args.fix))
    ∙ moved before fs c.args.fix room
    ∙ ap (λ l. Spec.latest max_track_history (l ++ c.args.fix ∷ [])) (sym (take_all n fs (omega arith)))
