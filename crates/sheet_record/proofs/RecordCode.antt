-- The contacts, six words each, and the loop that reads them: the first i rows are the first i contacts.
use mathlib.Core.Path.{◌≡◌, refl, sym, ap, ◌∙◌}
use mathlib.Core.List.{List, [], ◌∷◌, ◌++◌, map}
use Prim.Native.Nat.{ℕ, zero, suc, ◌+◌, ◌*◌, ◌-◌, ◌/◌, ◌≤◌, ◌<◌, min}
use native.Mathlib.Nat.{le_of_suc-le-suc}
use native.Mathlib.Numerals.{add-one}
use native.Mathlib.Omega.{arith}
use lib.ListN.{length, get_or, take, drop, length-append, length-drop}
use lib.Seq.{take_all}
use Rattle.std.proofs.lemmas.List.{length-take, length-map, take-map, drop-map, drop-drop, get_or-take, get_or-drop}
use Rattle.std.specs.Int.{w32, from_le_bytes}
use Rattle.std.specs.Simd.{first_chunks}
use Rattle.motion.specs.Capacity.{max_contacts}
use Rattle.sheet_record.specs.Word.{value, header_length}
use Rattle.sheet_record.specs.declared.Row.{Row}
use Rattle.sheet_record.specs.Record.{value_at, row_from, first_rows, contact_count, rows_of, contact_at}

-- ---- six words at a time
chunk_at : (k i : ℕ) (bs d : List (List ℕ)) → i < k → get_or (first_chunks 6 k bs) i d ≡ take 6 (drop (6 * i) bs)
chunk_at zero i bs d h = absurd (omega (arith, h))
chunk_at (suc k) zero bs d h = refl
chunk_at (suc k) (suc i) bs d h = chunk_at k i (drop 6 bs) d (le_of_suc-le-suc h) ∙ ap (take 6) (drop-drop (6 * i) 6 bs ∙ ap (λ n. drop n bs) (next i))
  where
    next : (i : ℕ) → 6 + 6 * i ≡ 6 * suc i
    next i = omega arith

module _ (ws : List ℕ) where
  word : (m j : ℕ) → j < 6 → value_at (take 6 (drop m ws)) j ≡ value_at ws (m + j)
  word m j h = ap value (get_or-take 6 (drop m ws) j 0 h ∙ get_or-drop m ws j 0)

  row_at : (m : ℕ) → row_from (take 6 (drop m ws)) 0 ≡ row_from ws m
  unfolding row_from
  row_at m = rw (word m 0 (omega arith), word m 1 (omega arith), word m 2 (omega arith), word m 3 (omega arith), word m 4 (omega arith), word m 5 (omega arith), none m) refl
    where
      none : (m : ℕ) → m + 0 ≡ m
      none m = omega arith

  pub one_more : (rows : List Row) (i : ℕ) (row : Row) → row ≡ row_from ws (header_length ws + 6 * i) → rows ≡ first_rows ws i → rows ++ (row ∷ []) ≡ first_rows ws (i + 1)
  unfolding first_rows
  one_more rows i row e f = ap (λ l. l ++ (row ∷ [])) f ∙ ap (λ x. first_rows ws i ++ (x ∷ [])) e ∙ sym (ap (first_rows ws) (add-one i))

  pub as_many : (n : ℕ) → length (first_rows ws n) ≡ n
  unfolding first_rows
  as_many zero = refl
  as_many (suc n) = omega (arith, length-append (first_rows ws n) (row_from ws (header_length ws + 6 * n) ∷ []), as_many n)

  pub few-rows : length (rows_of ws) ≤ max_contacts
  unfolding rows_of
  few-rows = omega (arith, as_many (min (contact_count ws) max_contacts))

-- ---- the contacts: six words each of those after the header
module _ (ws : List ℕ) (bs : List (List ℕ)) (e : map (from_le_bytes w32) bs ≡ ws) (first : ℕ) (ef : first ≡ header_length ws) (header : ℕ) (eh : header ≡ min first (length bs)) (all : List (List (List ℕ)))
    (ea : all ≡ first_chunks 6 (length (take (length bs - header) (drop header bs)) / 6) (take (length bs - header) (drop header bs))) (el : length all ≡ length (take (length bs - header) (drop header bs)) / 6) where
  as_long : length bs ≡ length ws
  as_long = sym (length-map bs (from_le_bytes w32)) ∙ ap length e

  after : take (length bs - header) (drop header bs) ≡ drop header bs
  after = take_all (length bs - header) (drop header bs) (omega (arith, length-drop header bs))

  whole : length all ≡ (length bs - header) / 6
  whole = el ∙ ap (λ l. length l / 6) after ∙ ap (λ n. n / 6) (length-drop header bs)

  pub counted : length all ≡ contact_count ws
  unfolding contact_count
  counted = whole ∙ ap (λ n. (n - header) / 6) as_long ∙ count (header_length ws) (length ws) (eh ∙ ap (λ n. min n (length bs)) ef ∙ ap (min (header_length ws)) as_long)
    where
      count : (a b : ℕ) → header ≡ min a b → (b - header) / 6 ≡ (b - a) / 6
      count a b f = omega arith

  pub six_words : (i : ℕ) (other : List (List ℕ)) → i < length all → map (from_le_bytes w32) (get_or all i other) ≡ contact_at ws i
  six_words i other h =
      let k : i < (length bs - header) / 6 = omega (arith, whole, h) in
      let m = header + 6 * i in
      ap (map (from_le_bytes w32)) (ap (λ l. get_or l i other) ea ∙ chunk_at _ i (take (length bs - header) (drop header bs)) other (omega (arith, el, h)) ∙ ap (λ l. take 6 (drop (6 * i) l)) after ∙ ap (take 6) (drop-drop (6 * i) header bs))
      ∙ sym (take-map (from_le_bytes w32) 6 (drop m bs)) ∙ ap (take 6) (sym (drop-map (from_le_bytes w32) m bs) ∙ ap (drop m) e)
      ∙ ap (λ n. take 6 (drop (n + 6 * i) ws)) (is_header first (length bs) eh k ∙ ef)
    where
      is_header : (a b : ℕ) → header ≡ min a b → i < (b - header) / 6 → header ≡ a
      is_header a b f k = omega arith

-- ---- those that the loop goes over, as many as there is room for
module _ (ws : List ℕ) (all cs : List (List (List ℕ))) (en : length all ≡ contact_count ws)
    (ew : (i : ℕ) → (other : List (List ℕ)) → i < length all → map (from_le_bytes w32) (get_or all i other) ≡ contact_at ws i) (ec : cs ≡ take max_contacts all) where
  taken : length cs ≡ min max_contacts (length all)
  taken = ap length ec ∙ length-take max_contacts all

  pub made_row : (i : ℕ) (d : List (List ℕ)) (row : Row) → i < length cs → row ≡ row_from (map (from_le_bytes w32) (get_or cs i d)) 0 → row ≡ row_from ws (header_length ws + 6 * i)
  made_row i d row h r =
      r ∙ ap (λ c. row_from (map (from_le_bytes w32) c) 0) (ap (λ l. get_or l i d) ec ∙ get_or-take max_contacts all i d (omega (arith, taken, h)))
      ∙ ap (λ l. row_from l 0) (ew i d (omega (arith, taken, h))) ∙ row_at ws (header_length ws + 6 * i)

  pub all_read : (rows : List Row) (i : ℕ) → i ≡ length cs → rows ≡ first_rows ws i → rows ≡ rows_of ws
  unfolding rows_of
  all_read rows i f g = g ∙ ap (first_rows ws) (omega (arith, f, taken, en))
