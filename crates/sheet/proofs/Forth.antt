-- Encoding what was read gives the bytes back.
use Rattle.std.specs.Prelude.{None, Some, Err, Ok}
use mathlib.Core.Path.{◌≡◌, refl, sym, ap, ◌∙◌, subst}
use mathlib.Core.Bool.{Bool, true, false, not, ◌&&◌, cond}
use mathlib.Core.List.{List, [], ◌∷◌, ◌++◌, flat_map}
use Prim.Native.Nat.{ℕ, ◌/◌, ◌%◌, ◌≤◌, ◌<◌}
use native.Mathlib.Omega.{arith}
use lib.Dec.{T, eqb, leb, eqb→eq, leb→le, nleb→lt}
use lib.ListN.{length, get_or, take, drop, length-take, take-append-drop, get_or-eq_default}
use lib.Seq.{drop-cons, take-suc}
use lib.Ieee.Fits.{and_l, and_r}
use Rattle.motion.specs.Capacity.{max_contacts}
use Rattle.sheet_record.specs.Word.{words, word_of, kind, value, next_kind, in_order, has_wind, header_length, ordered, max_bytes, layout}
use Rattle.sheet_record.proofs.WordCode.{short}
use Rattle.std.specs.declared.result.Result.{Result}
use Rattle.elementary.specs.declared.error.Refusal.{Refusal}
use Rattle.elementary.specs.declared.error.Refusal.TheVariants as Why
use Rattle.sheet_record.specs.Record.{value_at, wind_of, header_of, contact_count, rows_of, readable}
use Rattle.sheet_record.specs.Encode.{word, word_bytes, wind_words, header_words, row_words, rows_words, bytes_of, encode}
use Rattle.sheet.specs.RoundTrip.{Bytes, WritesBack}
use Rattle.sheet.proofs.Groups.{groups, all_rows}

-- ---- a word of the kind that is due, and the order of those after it
abbrev due : ℕ → ℕ → Type 0
due k w = T (eqb (kind w) k)

same_word : (k w : ℕ) → due k w → word k (value w) ≡ w
same_word k w t = omega (arith, eqb→eq (kind w) k t)

-- if the kinds from k on are in order, the first is k and the rest goes on
first : (k w : ℕ) (ws : List ℕ) → T (in_order k (w ∷ ws)) → due k w
unfolding in_order
first k w ws t = and_l (eqb (kind w) k) (in_order (next_kind k) ws) t

after : (k w : ℕ) (ws : List ℕ) → T (in_order k (w ∷ ws)) → T (in_order (next_kind k) ws)
unfolding in_order
after k w ws t = and_r (eqb (kind w) k) (in_order (next_kind k) ws) t

-- ---- rows
rows_back : (ws : List ℕ) → T (in_order 9 ws) → rows_words (groups ws) ≡ ws
unfolding in_order groups rows_words flat_map row_words
rows_back [] t = refl
rows_back (a ∷ []) t = absurd (after 9 a [] t)
rows_back (a ∷ b ∷ []) t = absurd (after 10 b [] (after 9 a (b ∷ []) t))
rows_back (a ∷ b ∷ c ∷ []) t = absurd (after 11 c [] (after 10 b (c ∷ []) (after 9 a (b ∷ c ∷ []) t)))
rows_back (a ∷ b ∷ c ∷ d ∷ []) t = absurd (after 12 d [] (after 11 c (d ∷ []) (after 10 b (c ∷ d ∷ []) (after 9 a (b ∷ c ∷ d ∷ []) t))))
rows_back (a ∷ b ∷ c ∷ d ∷ e ∷ []) t = absurd (after 13 e [] (after 12 d (e ∷ []) (after 11 c (d ∷ e ∷ []) (after 10 b (c ∷ d ∷ e ∷ []) (after 9 a (b ∷ c ∷ d ∷ e ∷ []) t)))))
rows_back (a ∷ b ∷ c ∷ d ∷ e ∷ f ∷ ws) t =
    let t1 = after 9 a (b ∷ c ∷ d ∷ e ∷ f ∷ ws) t in
    let t2 = after 10 b (c ∷ d ∷ e ∷ f ∷ ws) t1 in
    let t3 = after 11 c (d ∷ e ∷ f ∷ ws) t2 in
    let t4 = after 12 d (e ∷ f ∷ ws) t3 in
    let t5 = after 13 e (f ∷ ws) t4 in
    let t6 = after 14 f ws t5 in
    rw (same_word 9 a (first 9 a (b ∷ c ∷ d ∷ e ∷ f ∷ ws) t), same_word 10 b (first 10 b (c ∷ d ∷ e ∷ f ∷ ws) t1), same_word 11 c (first 11 c (d ∷ e ∷ f ∷ ws) t2), same_word 12 d (first 12 d (e ∷ f ∷ ws) t3), same_word 13 e (first 13 e (f ∷ ws) t4), same_word 14 f (first 14 f ws t5)) (ap (λ (l : List ℕ). a ∷ b ∷ c ∷ d ∷ e ∷ f ∷ l) (rows_back ws t6))

-- ---- words with the kinds that are due
unfoldable spelled : ℕ → List ℕ → List ℕ
spelled k [] = []
spelled k (w ∷ ws) = word k (value w) ∷ spelled (next_kind k) ws

spelled_same : (k : ℕ) (ws : List ℕ) → T (in_order k ws) → spelled k ws ≡ ws
unfolding spelled
spelled_same k [] t = refl
spelled_same k (w ∷ ws) t = ap (λ v. v ∷ spelled (next_kind k) ws) (same_word k w (first k w ws t)) ∙ ap (λ (l : List ℕ). w ∷ l) (spelled_same (next_kind k) ws (after k w ws t))

-- ---- the header, and the rows after it
module _ (ws : List ℕ) (t : T (ordered ws)) (few : contact_count ws ≤ max_contacts) where
  header_ordered : T (in_order 0 (take 9 ws))
  unfolding ordered
  header_ordered = and_l (in_order 0 (take 9 ws)) (in_order 9 (drop (header_length ws) ws)) t

  rows-ordered : T (in_order 9 (drop (header_length ws) ws))
  unfolding ordered
  rows-ordered = and_r (in_order 0 (take 9 ws)) (in_order 9 (drop (header_length ws) ws)) t

  long : 9 ≤ length ws
  long = go (leb 9 (length ws)) refl
    where
      go : (b : Bool) → leb 9 (length ws) ≡ b → 9 ≤ length ws
      go true e = leb→le 9 (length ws) (subst T (sym e) tt)
      go false e = absurd (subst T (short 0 (take 9 ws) (omega (arith, nleb→lt 9 (length ws) (subst (λ b. T (not b)) (sym e) tt), length-take 9 ws))) header_ordered)

  abbrev nine : List ℕ
  nine = get_or ws 0 0 ∷ get_or ws 1 0 ∷ get_or ws 2 0 ∷ get_or ws 3 0 ∷ get_or ws 4 0 ∷ get_or ws 5 0 ∷ get_or ws 6 0 ∷ get_or ws 7 0 ∷ get_or ws 8 0 ∷ []

  are_nine : take 9 ws ≡ nine
  are_nine = rw (take-suc ws 8 0 (omega (arith, long)), take-suc ws 7 0 (omega (arith, long)), take-suc ws 6 0 (omega (arith, long)), take-suc ws 5 0 (omega (arith, long)), take-suc ws 4 0 (omega (arith, long)), take-suc ws 3 0 (omega (arith, long)), take-suc ws 2 0 (omega (arith, long)), take-suc ws 1 0 (omega (arith, long)), take-suc ws 0 0 (omega (arith, long))) refl

  nine_back : spelled 0 nine ≡ take 9 ws
  nine_back = spelled_same 0 nine (subst (λ l. T (in_order 0 l)) are_nine header_ordered) ∙ sym are_nine

  -- a word that tells the wind is there
  there : kind (get_or ws 9 0) ≡ 15 → 9 < length ws
  there e = go (leb (length ws) 9) refl
    where
      go : (b : Bool) → leb (length ws) 9 ≡ b → 9 < length ws
      go true q = absurd (omega (arith, ap kind (get_or-eq_default ws 0 (leb→le (length ws) 9 (subst T (sym q) tt))), e))
      go false q = nleb→lt (length ws) 9 (subst (λ b. T (not b)) (sym q) tt)

  wind_back : wind_words (wind_of ws) ++ drop (header_length ws) ws ≡ drop 9 ws
  wind_back = go (has_wind ws) refl
    where
      go : (b : Bool) → has_wind ws ≡ b → wind_words (cond b (Some (value_at ws 9)) None) ++ drop (cond b 10 9) ws ≡ drop 9 ws
      go true e =
          let due_15 : due 15 (get_or ws 9 0) = subst T (sym e) tt in
          ap (λ (w : ℕ). w ∷ drop 10 ws) (same_word 15 (get_or ws 9 0) due_15) ∙ sym (drop-cons ws 9 0 (there (eqb→eq (kind (get_or ws 9 0)) 15 due_15)))
      go false e = refl

  words_back : header_words (header_of ws) ++ rows_words (rows_of ws) ≡ ws
  unfolding header_of header_words spelled
  words_back =
      ap (λ l. header_words (header_of ws) ++ l) (ap rows_words (all_rows ws few) ∙ rows_back (drop (header_length ws) ws) rows-ordered)
      ∙ ap (λ l. spelled 0 nine ++ l) wind_back ∙ ap (λ l. l ++ drop 9 ws) nine_back ∙ take-append-drop 9 ws

-- ---- bytes
same_bytes : (a b c d : ℕ) → a < 256 → b < 256 → c < 256 → d < 256 → word_bytes (word_of a b c d) ≡ a ∷ b ∷ c ∷ d ∷ []
same_bytes a b c d ha hb hc hd = rw (first_byte, second_byte, third_byte, last_byte) refl
  where
    first_byte : word_of a b c d % 256 ≡ a
    first_byte = omega arith

    second_byte : word_of a b c d / 256 % 256 ≡ b
    second_byte = omega arith

    third_byte : word_of a b c d / 65536 % 256 ≡ c
    third_byte = omega arith

    last_byte : word_of a b c d / 16777216 ≡ d
    last_byte = omega arith

bytes_back : (s : List ℕ) → Bytes s → length s % 4 ≡ 0 → bytes_of (words s) ≡ s
unfolding words bytes_of flat_map
bytes_back [] v h = refl
bytes_back (a ∷ []) v h = absurd (never h)
  where
    never : 1 % 4 ≡ 0 → ⊥
    never h = omega arith
bytes_back (a ∷ b ∷ []) v h = absurd (never h)
  where
    never : 2 % 4 ≡ 0 → ⊥
    never h = omega arith
bytes_back (a ∷ b ∷ c ∷ []) v h = absurd (never h)
  where
    never : 3 % 4 ≡ 0 → ⊥
    never h = omega arith
bytes_back (a ∷ b ∷ c ∷ d ∷ s) v h =
    ap (λ l. l ++ bytes_of (words s)) (same_bytes a b c d v.0 v.1.0 v.1.1.0 v.1.1.1.0)
    ∙ ap (λ (l : List ℕ). a ∷ b ∷ c ∷ d ∷ l) (bytes_back s v.1.1.1.1 (omega arith))

-- ---- the sheet
abbrev IsYes : Result (Unit {0}) Refusal → Type 0
IsYes (Ok tt) = Unit
IsYes (Err why) = ⊥

in_order_lem : (l k : Bool) → IsYes (cond l (cond k (Ok tt) (Err Why.TooManyContacts)) (Err Why.Layout)) → T l × T k
in_order_lem true true y = (tt, tt)
in_order_lem true false y = absurd y
in_order_lem false k y = absurd y

module _ (s : List ℕ) (v : Bytes s) (yes : readable s ≡ (Ok tt)) where
  read : T (layout s) × T (leb (contact_count (words s)) max_contacts)
  unfolding readable
  read = in_order_lem (layout s) (leb (contact_count (words s)) max_contacts) (subst IsYes (sym yes) tt)

  abbrev t : T (layout s)
  t = read.0

  few : contact_count (words s) ≤ max_contacts
  few = leb→le (contact_count (words s)) max_contacts read.1

  aligned : length s % 4 ≡ 0
  unfolding layout
  aligned = eqb→eq (length s % 4) 0 (and_l (eqb (length s % 4) 0) (ordered (words s)) (and_r (leb (length s) max_bytes) (eqb (length s % 4) 0 && ordered (words s)) t))

  in-sequence : T (ordered (words s))
  unfolding layout
  in-sequence = and_r (eqb (length s % 4) 0) (ordered (words s)) (and_r (leb (length s) max_bytes) (eqb (length s % 4) 0 && ordered (words s)) t)

  pub writes_back : WritesBack s
  unfolding encode
  writes_back = ap bytes_of (words_back (words s) in-sequence few) ∙ bytes_back s v aligned
