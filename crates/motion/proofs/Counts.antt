-- A count may be beyond the list: it then takes the list whole, so that cutting it at the room, which is the length, changes nothing.
use mathlib.Core.Path.{◌≡◌, refl, sym, ap, ◌∙◌, subst}
use mathlib.Core.Bool.{Bool, true, false, not}
use mathlib.Core.List.{List}
use Prim.Native.Nat.{ℕ, ◌≤◌, ◌<◌, min}
use native.Mathlib.Omega.{arith}
use lib.Dec.{T, ltb, ltb→lt, nltb→le}
use lib.ListN.{length, take}
use lib.Seq.{take_all}

-- a count beyond the list takes it whole
pub take-held : {A : Type 0} (n : ℕ) (l : List A) → take (min n (length l)) l ≡ take n l
take-held n l = go (ltb n (length l)) refl
  where
    less : n < length l → min n (length l) ≡ n
    less h = omega arith

    more : length l ≤ n → min n (length l) ≡ length l
    more h = omega arith

    all : length l ≤ length l
    all = omega arith

    go : (b : Bool) → ltb n (length l) ≡ b → take (min n (length l)) l ≡ take n l
    go true e = ap (λ k. take k l) (less (ltb→lt n (length l) (subst T (sym e) tt)))
    go false e = let k = nltb→le n (length l) (subst (λ t. T (not t)) (sym e) tt) in ap (λ k. take k l) (more k) ∙ take_all (length l) l all ∙ sym (take_all n l k)

-- of a list that fills the room, a count cut at the room takes as much
pub take-room : {A : Type 0} (n count room : ℕ) (l : List A) → n ≡ min count room → length l ≡ room → take n l ≡ take count l
take-room n count room l is full = ap (λ k. take k l) (is ∙ ap (min count) (sym full)) ∙ take-held count l

-- a count cut at the room fits the room
pub fits : (n count room len : ℕ) → n ≡ min count room → len ≡ room → n ≤ len
fits n count room len is full = omega arith
