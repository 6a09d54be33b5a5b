-- Appending piece by piece is appending the whole: what is cut of the pieces is cut of the whole. So a line is one piece, and that it fits is shown once.
use mathlib.Core.Path.{◌≡◌, refl, sym, ap, ◌∙◌}
use mathlib.Core.List.{List, [], ◌∷◌, ◌++◌, append_assoc, append-nil}
use Prim.Native.Nat.{ℕ, zero, suc, ◌+◌, ◌≤◌, min}
use native.Mathlib.Omega.{arith}
use lib.ListN.{length, take, length-take, length-append}
use lib.Seq.{take_all}
use Rattle.std.proofs.lemmas.List.{take_min}
use Rattle.std.proofs.Math.Seq.{take-append-add}
use Rattle.text.specs.Text.{room, appended}

cut : (n : ℕ) (x b : List ℕ) → take n (take n x ++ b) ≡ take n (x ++ b)
cut zero x b = refl
cut (suc n) [] b = refl
cut (suc n) (a ∷ x) b = ap (λ (l : List ℕ). a ∷ l) (cut n x b)

-- two pieces are one
pub appended_twice : (t a b : List ℕ) → appended (appended t a) b ≡ appended t (a ++ b)
unfolding appended
appended_twice t a b = cut room (t ++ a) b ∙ ap (take room) (append_assoc t a b)

-- one piece, then the rest
pub then : (t a b : List ℕ) {u r : List ℕ} → u ≡ appended t a → r ≡ appended u b → r ≡ appended t (a ++ b)
then t a b {u} {r} e q = rw (q, e, appended_twice t a b)

-- what fits is there whole, and no text is longer than the room
pub whole : (t s : List ℕ) → length t + length s ≤ room → appended t s ≡ t ++ s
unfolding appended
whole t s h = take_all room (t ++ s) (omega (arith, length-append t s))

pub within_room : (t s : List ℕ) → length (appended t s) ≤ room
unfolding appended
within_room t s = omega (arith, length-take room (t ++ s))

-- where k more bytes fit, as many of s are appended as there are, and k at most
pub fitting : (t s : List ℕ) (k n : ℕ) → k + length t ≡ room → n ≡ min k (length s) → t ++ take n s ≡ appended t s
unfolding appended
fitting t s k n h e =
    let r : room ≡ length t + k = omega arith in
    ap (λ n. t ++ take n s) e ∙ ap (λ l. t ++ l) (take_min k s) ∙ sym (take-append-add t s k) ∙ ap (λ n. take n (t ++ s)) (sym r)

pub nothing_appended : (t : List ℕ) → length t ≤ room → appended t [] ≡ t
unfolding appended
nothing_appended t h = rw append-nil (take_all room t h)
