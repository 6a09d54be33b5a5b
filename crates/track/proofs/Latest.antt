-- The last n of a list: all of it where it is short; the next ones after one more; and the last element.
use mathlib.Core.Path.{◌≡◌, refl, sym, ap, ◌∙◌}
use mathlib.Core.Bool.{Bool, true, false, true≢false}
use mathlib.Core.List.{List, [], ◌∷◌, ◌++◌}
use Prim.Native.Nat.{ℕ, suc, ◌+◌, ◌-◌, ◌≤◌, ◌<◌}
use native.Mathlib.Nat.{zero-add, zero-sub}
use native.Mathlib.Omega.{arith}
use lib.ListN.{length, length-append, length-drop, take, drop, get_or, set}
use lib.Seq.{paste, take-suc-set, take_all, drop-append-le, drop-drop, get_or-drop, get_or-append_seam}
use Rattle.std.specs.List.{slice_get}
use Rattle.std.specs.Prelude.{None, Some}
use Rattle.std.specs.declared.option.Option.{Option}
use Rattle.std.proofs.lemmas.List.Edits.{length-paste, take-paste}
use Rattle.std.proofs.lemmas.Option.{slice_get-get_or}
use Rattle.track.specs.Window.{latest}

module _ {A : Type 0} where
  abbrev is_there : Option A → Bool
  is_there None = false
  is_there (Some a) = true

  pub latest-short : (n : ℕ) (xs : List A) → length xs ≤ n → latest n xs ≡ xs
  unfolding latest
  latest-short n xs h = ap (λ k. drop k xs) (none (length xs) h)
    where
      none : (l : ℕ) → l ≤ n → l - n ≡ 0
      none l h = omega arith

  -- of the last n and one more, the last n are those of the whole list and one more
  pub latest_next : (n : ℕ) (xs : List A) (x : A) → latest n (latest n xs ++ x ∷ []) ≡ latest n (xs ++ x ∷ [])
  unfolding latest
  latest_next n xs x =
      ap (drop rest) (sym (drop-append-le k xs (x ∷ []) (below (length xs))))
      ∙ drop-drop rest k (xs ++ x ∷ [])
      ∙ ap (λ j. drop j (xs ++ x ∷ [])) count
    where
      k : ℕ
      k = length xs - n

      rest : ℕ
      rest = length (drop k xs ++ x ∷ []) - n

      below : (l : ℕ) → l - n ≤ l
      below l = omega arith

      sum : (l d a b : ℕ) → d ≡ l - (l - n) → a ≡ d + 1 → b ≡ l + 1 → (l - n) + (a - n) ≡ b - n
      sum l d a b p q r = omega arith

      count : k + rest ≡ length (xs ++ x ∷ []) - n
      count = sum (length xs) (length (drop k xs)) (length (drop k xs ++ x ∷ [])) (length (xs ++ x ∷ []))
          (length-drop k xs) (length-append (drop k xs) (x ∷ [])) (length-append xs (x ∷ []))

  -- ---- the newest is the last
  last_is : (xs : List A) (d : A) → 0 < length xs → slice_get xs (length xs - 1) ≡ Some (get_or xs (length xs - 1) d)
  last_is xs d h = slice_get-get_or xs (length xs - 1) d (omega arith)

  pub no_last : (xs : List A) → slice_get xs (length xs - 1) ≡ None → length xs ≡ 0
  no_last [] e = refl
  no_last (y ∷ ys) e = absurd (true≢false (ap is_there (sym (last_is (y ∷ ys) y (omega arith)) ∙ e)))

  pub last_of_more : (xs : List A) (x : A) → slice_get (xs ++ x ∷ []) (length (xs ++ x ∷ []) - 1) ≡ Some x
  last_of_more xs x =
      last_is (xs ++ x ∷ []) x (omega (arith, length-append xs (x ∷ [])))
      ∙ ap (λ k. Some (get_or (xs ++ x ∷ []) k x)) (place (length xs) (length (xs ++ x ∷ [])) (length-append xs (x ∷ [])))
      ∙ ap Some (get_or-append_seam xs x [] x)
    where
      place : (l m : ℕ) → m ≡ l + 1 → m - 1 ≡ l
      place l m h = omega arith

  pub last_of_latest : (n : ℕ) (xs : List A) → slice_get (latest (suc n) xs) (length (latest (suc n) xs) - 1) ≡ slice_get xs (length xs - 1)
  unfolding latest
  last_of_latest n [] = ap (λ k. let none : List A = drop k [] in slice_get none (length none - 1)) (zero-sub (suc n))
  last_of_latest n (y ∷ ys) =
      last_is (drop k xs) y (some (length xs) (length (drop k xs)) (length-drop k xs) above)
      ∙ ap Some (get_or-drop k xs (length (drop k xs) - 1) y ∙ ap (λ i. get_or xs i y) (place (length xs) (length (drop k xs)) (length-drop k xs) above))
      ∙ sym (last_is xs y above)
    where
      xs : List A
      xs = y ∷ ys

      k : ℕ
      k = length xs - suc n

      above : 0 < length xs
      above = omega arith

      some : (l m : ℕ) → m ≡ l - (l - suc n) → 0 < l → 0 < m
      some l m e h = omega arith

      place : (l m : ℕ) → m ≡ l - (l - suc n) → 0 < l → (l - suc n) + (m - 1) ≡ l - 1
      place l m e h = omega arith

  -- one more than there is room for: the first goes
  pub latest_full : (n : ℕ) (xs : List A) (x : A) → length xs ≡ suc n → latest (suc n) (xs ++ x ∷ []) ≡ drop 1 xs ++ x ∷ []
  unfolding latest
  latest_full n xs x h =
      ap (λ k. drop k (xs ++ x ∷ [])) (count (length xs) (length (xs ++ x ∷ [])) h (length-append xs (x ∷ [])))
      ∙ drop-append-le 1 xs (x ∷ []) (omega arith)
    where
      count : (l m : ℕ) → l ≡ suc n → m ≡ l + 1 → m - suc n ≡ 1
      count l m e f = omega arith

  -- which is all moved forward by one, and a write at the end
  pub moved : (n : ℕ) (xs : List A) (x : A) → length xs ≡ suc n → take (suc n) (set (paste xs 0 (drop 1 xs) n) n x) ≡ latest (suc n) (xs ++ x ∷ [])
  moved n xs x h =
      take-suc-set (paste xs 0 (drop 1 xs) n) n x (omega (arith, length-paste xs 0 (drop 1 xs) n (omega arith) (omega (arith, rest))))
      ∙ ap (λ l. l ++ x ∷ []) (ap (λ m. take m (paste xs 0 (drop 1 xs) n)) (sym (zero-add n)) ∙ taken)
      ∙ sym (latest_full n xs x h)
    where
      rest : length (drop 1 xs) ≡ length xs - 1
      rest = length-drop 1 xs

      taken : take (0 + n) (paste xs 0 (drop 1 xs) n) ≡ drop 1 xs
      taken = take-paste xs 0 (drop 1 xs) n (omega arith) (omega (arith, rest)) ∙ take_all n (drop 1 xs) (omega (arith, rest))
