-- What a caller hands over are f64s: read off the ownership of an entry, and gathered over a list.
use mathlib.Core.Path.{◌≡◌, sym, ap, ◌∙◌, subst}
use mathlib.Core.Bool.{Bool, true}
use mathlib.Core.Logic.{⊎_elim}
use mathlib.Core.List.Memᴰ
use mathlib.Core.List.{List, [], ◌∷◌, ◌++◌, Memᴰ}
use Prim.Native.Nat.{ℕ, ◌+◌, ◌<◌}
use native.Mathlib.Numerals.{add-one}
use lib.ListN.{length, get_or, take}
use lib.Seq.{take-suc, take-length}
use lib.Dec.{T}
use mir.Val.{Val}
use denote.Shadow.{shadow}
use Rattle.clearance.specs.contracts.traffic.Entry.{the_row}
use Rattle.clearance.specs.declared.traffic.Entry.{Entry}
use Rattle.clearance.specs.Traffic.{HeldEntry, HeldEntries}

is_held : {b : Bool} → b ≡ true → T b
is_held e = subst T (sym e) tt

pub entry_held : (e : Entry) (vs : List Val) → shadow (the_row.own_val e vs) → HeldEntry e
entry_held e vs s = record {
  contact = record { bearing = is_held s.1.1.0.1.1.0.1.1.0.1; range = is_held s.1.1.0.1.1.1.0.1.1.0.1 };
  vessel = record { course = is_held s.1.1.1.0.1.1.0.1.1.0.1.1.0.1; speed = is_held s.1.1.1.0.1.1.0.1.1.1.0.1.1.0.1 };
}

one_more : (es : List Entry) (e : Entry) → HeldEntries es → HeldEntry e → HeldEntries (es ++ (e ∷ []))
one_more [] e hs h x m = ⊎_elim (λ is. subst HeldEntry (sym is) h) (λ r. absurd (Memᴰ.not-nil r)) (Memᴰ.cases_cons m)
one_more (y ∷ es) e hs h x m = ⊎_elim (λ is. hs x (Memᴰ.head is)) (λ r. one_more es e (λ z n. hs z (Memᴰ.tail n)) h x r) (Memᴰ.cases_cons m)

module _ (es : List Entry) where
  -- one entry more of the first
  pub first_more : (i : ℕ) (d : Entry) → i < length es → HeldEntries (take i es) → HeldEntry (get_or es i d) → HeldEntries (take (i + 1) es)
  first_more i d h hs k = subst HeldEntries (sym (ap (λ j. take j es) (add-one i) ∙ take-suc es i d h)) (one_more (take i es) (get_or es i d) hs k)

  pub all_held : (i : ℕ) → i ≡ length es → HeldEntries (take i es) → HeldEntries es
  all_held i e hs = subst HeldEntries (ap (λ i. take i es) e ∙ take-length es) hs
