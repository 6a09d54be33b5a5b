-- The rows of a sheet, read six words at a time: the same that are read by their places.
use mathlib.Core.Path.{◌≡◌, refl, sym, ap, ◌∙◌}
use mathlib.Core.List.{List, [], ◌∷◌, ◌++◌}
use Prim.Native.Nat.{ℕ, zero, suc, ◌+◌, ◌-◌, ◌*◌, ◌/◌, ◌≤◌, ◌<◌, min}
use native.Mathlib.Nat.{not-suc-le-zero, le_of_suc-le-suc}
use native.Mathlib.Omega.{arith}
use lib.ListN.{length, get_or, take, drop, length-drop}
use lib.Seq.{get_or-drop, take_all, take-suc}
use Rattle.motion.specs.Capacity.{max_contacts}
use Rattle.sheet_record.specs.Word.{value, header_length}
use Rattle.sheet_record.specs.declared.Row.{Row}
use Rattle.sheet_record.specs.Record.{contact_count, row_from, first_rows, rows_of}

abbrev pub row_of : ℕ → ℕ → ℕ → ℕ → ℕ → ℕ → Row
row_of a b c d e f = record { id = value a; bearing = value b; range = value c; course = value d; speed = value e; category = value f }

unfoldable pub groups : List ℕ → List Row
groups [] = []
groups (a ∷ []) = []
groups (a ∷ b ∷ []) = []
groups (a ∷ b ∷ c ∷ []) = []
groups (a ∷ b ∷ c ∷ d ∷ []) = []
groups (a ∷ b ∷ c ∷ d ∷ e ∷ []) = []
groups (a ∷ b ∷ c ∷ d ∷ e ∷ f ∷ ws) = row_of a b c d e f ∷ groups ws

as_many : (ws : List ℕ) → length (groups ws) ≡ length ws / 6
unfolding groups
as_many [] = refl
as_many (a ∷ []) = refl
as_many (a ∷ b ∷ []) = refl
as_many (a ∷ b ∷ c ∷ []) = refl
as_many (a ∷ b ∷ c ∷ d ∷ []) = refl
as_many (a ∷ b ∷ c ∷ d ∷ e ∷ []) = refl
as_many (a ∷ b ∷ c ∷ d ∷ e ∷ f ∷ ws) = omega (arith, as_many ws)

-- the row at a place of a list is the row at a place of its rest
shifted : (k i : ℕ) (ws : List ℕ) → row_from ws (k + i) ≡ row_from (drop k ws) i
unfolding row_from
shifted k i ws = simp (get_or-drop, further 1, further 2, further 3, further 4, further 5) refl
  where
    further : (j : ℕ) → k + i + j ≡ k + (i + j)
    further j = omega arith

-- the row of place n
nth : (n : ℕ) (ws : List ℕ) (d : Row) → n < length (groups ws) → row_from ws (6 * n) ≡ get_or (groups ws) n d
unfolding groups row_from
nth n [] d h = absurd (not-suc-le-zero h)
nth n (a ∷ []) d h = absurd (not-suc-le-zero h)
nth n (a ∷ b ∷ []) d h = absurd (not-suc-le-zero h)
nth n (a ∷ b ∷ c ∷ []) d h = absurd (not-suc-le-zero h)
nth n (a ∷ b ∷ c ∷ d1 ∷ []) d h = absurd (not-suc-le-zero h)
nth n (a ∷ b ∷ c ∷ d1 ∷ e ∷ []) d h = absurd (not-suc-le-zero h)
nth zero (a ∷ b ∷ c ∷ d1 ∷ e ∷ f ∷ ws) d h = refl
nth (suc n) (a ∷ b ∷ c ∷ d1 ∷ e ∷ f ∷ ws) d h = ap (row_from (a ∷ b ∷ c ∷ d1 ∷ e ∷ f ∷ ws)) next ∙ shifted 6 (6 * n) (a ∷ b ∷ c ∷ d1 ∷ e ∷ f ∷ ws) ∙ nth n ws d (le_of_suc-le-suc h)
  where
    next : 6 * suc n ≡ 6 + 6 * n
    next = omega arith

module _ (ws : List ℕ) where
  abbrev rest : List ℕ
  rest = drop (header_length ws) ws

  firsts : (n : ℕ) → n ≤ length (groups rest) → first_rows ws n ≡ take n (groups rest)
  unfolding first_rows
  firsts zero h = refl
  firsts (suc n) h =
      let d = row_from ws 0 in
      ap (λ l. l ++ (row_from ws (header_length ws + 6 * n) ∷ [])) (firsts n (omega (arith, h))) ∙ ap (λ r. take n (groups rest) ++ (r ∷ [])) (shifted (header_length ws) (6 * n) ws ∙ nth n rest d h) ∙ sym (take-suc (groups rest) n d h)

  -- all rows of a sheet that has no more than there is room for
  pub all_rows : contact_count ws ≤ max_contacts → rows_of ws ≡ groups rest
  unfolding rows_of contact_count
  all_rows few =
      ap (first_rows ws) many ∙ firsts (length (groups rest)) (omega arith) ∙ take_all (length (groups rest)) (groups rest) (omega arith)
    where
      many : min ((length ws - header_length ws) / 6) max_contacts ≡ length (groups rest)
      many = omega (arith, as_many rest, length-drop (header_length ws) ws, few)
