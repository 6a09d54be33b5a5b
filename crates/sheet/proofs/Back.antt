-- Reading what was encoded gives the record back.
use Rattle.std.specs.Prelude.{None, Some}
use mathlib.Core.Path.{◌≡◌, refl, sym, ap, ◌∙◌}
use mathlib.Core.Bool.{Bool, true, false, cond}
use mathlib.Core.List.{List, [], ◌∷◌, ◌++◌, flat_map}
use Prim.Native.Nat.{ℕ, ◌+◌, ◌*◌, ◌/◌, ◌%◌, ◌≤◌, ◌<◌}
use native.Mathlib.Omega.{arith}
use lib.Dec.{eqb, lit≤}
use lib.ListN.{length, get_or, drop, length-append}
use lib.Seq.{drop-drop}
use borrow.Author.Tests.{eq-eqb, le-leb}
use Rattle.motion.specs.Capacity.{max_contacts}
use Rattle.sheet_record.specs.Word.{words, word_of, kind, value, in_order, has_wind, header_length, ordered, layout}
use Rattle.std.specs.declared.option.Option.{Option}
use Rattle.sheet_record.specs.declared.Header.{Header}
use Rattle.sheet_record.specs.declared.Row.{Row}
use Rattle.sheet_record.specs.Record.{header_of, contact_count, rows_of, readable}
use Rattle.sheet_record.specs.Encode.{word, wind_words, header_words, row_words, rows_words, bytes_of, encode}
use Rattle.sheet_record.proofs.EncodeCode.{bytes-length, rows-length, header_length_lem, wind_length}
use Rattle.sheet.specs.RoundTrip.{Value, WindValue, HeaderValues, AllRowValues, ReadsBack}
use Rattle.sheet.proofs.Groups.{groups, all_rows}

-- ---- a word
kind_of : (k v : ℕ) → kind (word k v) ≡ k
kind_of k v = omega arith

value_of : (k v : ℕ) → Value v → value (word k v) ≡ v
value_of k v h = omega arith

same_word : (w : ℕ) → w < 4294967296 → word_of (w % 256) (w / 256 % 256) (w / 65536 % 256) (w / 16777216) ≡ w
same_word w h = omega arith

word_fits : (k v : ℕ) → k ≤ 15 → word k v < 4294967296
word_fits k v h = omega arith

-- ---- words
abbrev Fit : List ℕ → Type 0
Fit [] = Unit
Fit (w ∷ ws) = (w < 4294967296) × Fit ws

same_words : (ws : List ℕ) → Fit ws → words (bytes_of ws) ≡ ws
unfolding words bytes_of flat_map
same_words [] h = refl
same_words (w ∷ ws) h = rw (same_word w h.0) (ap (λ (l : List ℕ). w ∷ l) (same_words ws h.1))

fit_rows : (rs : List Row) → Fit (rows_words rs)
unfolding rows_words flat_map row_words
fit_rows [] = tt
fit_rows (r ∷ rs) = (word_fits 9 r.id (lit≤ tt), (word_fits 10 r.bearing (lit≤ tt), (word_fits 11 r.range (lit≤ tt), (word_fits 12 r.course (lit≤ tt), (word_fits 13 r.speed (lit≤ tt), (word_fits 14 r.category (lit≤ tt), fit_rows rs))))))

fit_wind : (w : Option ℕ) (rs : List Row) → Fit (wind_words w ++ rows_words rs)
fit_wind None rs = fit_rows rs
fit_wind (Some n) rs = (word_fits 15 n (lit≤ tt), fit_rows rs)

fit_all : (h : Header) (rs : List Row) → Fit (header_words h ++ rows_words rs)
unfolding header_words
fit_all h rs = (word_fits 0 h.course (lit≤ tt), (word_fits 1 h.speed (lit≤ tt), (word_fits 2 h.category (lit≤ tt), (word_fits 3 h.visibility (lit≤ tt), (word_fits 4 h.desired (lit≤ tt), (word_fits 5 h.least (lit≤ tt), (word_fits 6 h.most (lit≤ tt), (word_fits 7 h.cpa_limit (lit≤ tt), (word_fits 8 h.tcpa_limit (lit≤ tt), fit_wind h.wind rs)))))))))

-- ---- rows
same_rows : (rs : List Row) → AllRowValues rs → groups (rows_words rs) ≡ rs
unfolding groups rows_words flat_map row_words
same_rows [] v = refl
same_rows (r ∷ rs) v =
    let x = v.0 in
    rw (value_of 9 r.id x.id, value_of 10 r.bearing x.bearing, value_of 11 r.range x.range, value_of 12 r.course x.course, value_of 13 r.speed x.speed, value_of 14 r.category x.category)
    (ap (λ (l : List Row). r ∷ l) (same_rows rs v.1))

-- ---- the order of the kinds
rows-ordered : (rs : List Row) → in_order 9 (rows_words rs) ≡ true
unfolding in_order rows_words flat_map row_words
rows-ordered [] = refl
rows-ordered (r ∷ rs) = rw (kind_of 9 r.id, kind_of 10 r.bearing, kind_of 11 r.range, kind_of 12 r.course, kind_of 13 r.speed, kind_of 14 r.category) (rows-ordered rs)

-- ---- the wind, which stands before the rows
abbrev told : Option ℕ → Bool
told None = false
told (Some n) = true

-- a row does not look like a wind
tells : (w : Option ℕ) (rs : List Row) → eqb (kind (get_or (wind_words w ++ rows_words rs) 0 0)) 15 ≡ told w
unfolding rows_words flat_map row_words
tells None [] = refl
tells None (r ∷ rs) = ap (λ k. eqb k 15) (kind_of 9 r.id)
tells (Some n) rs = ap (λ k. eqb k 15) (kind_of 15 n)

same_wind : (w : Option ℕ) (rs : List Row) → WindValue w → cond (told w) (Some (value (get_or (wind_words w ++ rows_words rs) 0 0))) None ≡ w
same_wind None rs v = refl
same_wind (Some n) rs v = ap Some (value_of 15 n v)

past_wind : (w : Option ℕ) (ws : List ℕ) (n : ℕ) → n ≡ length (wind_words w) → drop n (wind_words w ++ ws) ≡ ws
past_wind None ws n e = ap (λ n. drop n ws) e
past_wind (Some v) ws n e = ap (λ n. drop n (word 15 v ∷ ws)) e

one_word : (w : Option ℕ) → cond (told w) 10 9 ≡ 9 + length (wind_words w)
one_word None = refl
one_word (Some n) = refl

module _ (h : Header) (rs : List Row) where
  abbrev ws : List ℕ
  ws = header_words h ++ rows_words rs

  abbrev winds : List ℕ
  winds = wind_words h.wind

  windy : has_wind ws ≡ told h.wind
  unfolding header_words
  windy = tells h.wind rs

  begins : header_length ws ≡ 9 + length winds
  begins = ap (λ b. cond b 10 9) windy ∙ one_word h.wind

  dropped : drop (header_length ws) ws ≡ rows_words rs
  unfolding header_words
  dropped = ap (λ n. drop n ws) begins ∙ sym (drop-drop (length winds) 9 ws) ∙ past_wind h.wind (rows_words rs) (length winds) refl

  in-sequence : ordered ws ≡ true
  unfolding ordered in_order header_words
  in-sequence = rw (kind_of 0 h.course, kind_of 1 h.speed, kind_of 2 h.category, kind_of 3 h.visibility, kind_of 4 h.desired, kind_of 5 h.least, kind_of 6 h.most, kind_of 7 h.cpa_limit, kind_of 8 h.tcpa_limit) (ap (in_order 9) dropped ∙ rows-ordered rs)

  header : HeaderValues h → header_of ws ≡ h
  unfolding header_of header_words
  header v = rw (value_of 0 h.course v.course, value_of 1 h.speed v.speed, value_of 2 h.category v.category, value_of 3 h.visibility v.visibility, value_of 4 h.desired v.desired, value_of 5 h.least v.least, value_of 6 h.most v.most, value_of 7 h.cpa_limit v.cpa, value_of 8 h.tcpa_limit v.tcpa, tells h.wind rs, same_wind h.wind rs v.wind) refl

  many : length ws ≡ 9 + length winds + 6 * length rs
  many = omega (arith, length-append (header_words h) (rows_words rs), header_length_lem h, rows-length rs)

  counted : contact_count ws ≡ length rs
  unfolding contact_count
  counted = omega (arith, many, begins)

  module _ (few : length rs ≤ max_contacts) where
    size : length (encode h rs) ≡ 36 + 4 * length winds + 24 * length rs
    unfolding encode
    size = omega (arith, bytes-length ws, many)

    again : words (encode h rs) ≡ ws
    unfolding encode
    again = same_words ws (fit_all h rs)

    laid : layout (encode h rs) ≡ true
    unfolding layout
    laid = rw (le-leb (length (encode h rs)) 4096 (omega (arith, size, wind_length h.wind, few)), eq-eqb (length (encode h rs) % 4) 0 (omega (arith, size)), again) in-sequence

    pub reads_back : HeaderValues h → AllRowValues rs → ReadsBack h rs
    unfolding readable
    reads_back v vs = record {
      accepted = rw (laid, again, le-leb (contact_count ws) max_contacts (omega (arith, counted, few))) refl;
      header = ap header_of again ∙ header v;
      rows = ap rows_of again ∙ all_rows ws (omega (arith, counted, few)) ∙ ap groups dropped ∙ same_rows rs vs;
    }
