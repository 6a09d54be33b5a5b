-- The rows are appended one at a time, each as its bytes, which are the bytes of all their words.
use Rattle.std.specs.Prelude.{None, Some}
use mathlib.Core.Path.{◌≡◌, refl, sym, ap, ◌∙◌}
use mathlib.Core.List.{List, [], ◌∷◌, ◌++◌, flat_map}
use Prim.Native.Nat.{ℕ, ◌+◌, ◌*◌, ◌≤◌}
use native.Mathlib.Omega.{arith}
use lib.ListN.{length, length-append}
use Rattle.text.specs.Text.{appended}
use Rattle.text.proofs.Appending.{appended_twice, whole}
use Rattle.motion.specs.Capacity.{max_contacts}
use Rattle.std.specs.declared.option.Option.{Option}
use Rattle.sheet_record.specs.declared.Header.{Header}
use Rattle.sheet_record.specs.declared.Row.{Row}
use Rattle.sheet_record.specs.Encode.{word_bytes, wind_words, header_words, row_words, rows_words, bytes_of, encode}

-- word by word
pub next_word : (w : ℕ) (ws : List ℕ) → bytes_of (w ∷ ws) ≡ word_bytes w ++ bytes_of ws
unfolding bytes_of flat_map
next_word w ws = refl

pub no_word : bytes_of [] ≡ []
unfolding bytes_of flat_map
no_word = refl

pub bytes-append : (a b : List ℕ) → bytes_of (a ++ b) ≡ bytes_of a ++ bytes_of b
unfolding bytes_of flat_map
bytes-append [] b = refl
bytes-append (w ∷ a) b = ap (λ l. word_bytes w ++ l) (bytes-append a b)

-- the bytes of a row
abbrev pub row_bytes : Row → List ℕ
row_bytes r = bytes_of (row_words r)

rows-bytes : (rs : List Row) → flat_map row_bytes rs ≡ bytes_of (rows_words rs)
unfolding flat_map rows_words bytes_of
rows-bytes [] = refl
rows-bytes (r ∷ rs) = ap (λ l. row_bytes r ++ l) (rows-bytes rs) ∙ sym (bytes-append (row_words r) (rows_words rs))

-- ---- nothing is cut: four bytes a word, nine or ten words and six for each row
pub bytes-length : (ws : List ℕ) → length (bytes_of ws) ≡ 4 * length ws
unfolding bytes_of flat_map
bytes-length [] = refl
bytes-length (w ∷ ws) = omega (arith, bytes-length ws)

pub rows-length : (rs : List Row) → length (rows_words rs) ≡ 6 * length rs
unfolding rows_words flat_map row_words
rows-length [] = refl
rows-length (r ∷ rs) = omega (arith, rows-length rs)

pub header_length_lem : (h : Header) → length (header_words h) ≡ 9 + length (wind_words h.wind)
unfolding header_words
header_length_lem h = omega arith

pub wind_length : (w : Option ℕ) → length (wind_words w) ≤ 1
wind_length None = omega arith
wind_length (Some n) = omega arith

-- a header, and the rows one at a time
pub whole_sheet : (h : Header) (rs : List Row) (t u r : List ℕ) → length rs ≤ max_contacts → t ≡ [] → u ≡ appended t (bytes_of (header_words h)) → r ≡ appended u (flat_map row_bytes rs) → r ≡ encode h rs
unfolding encode
whole_sheet h rs t u r few et eu er =
    let a = bytes_of (header_words h) in
    let b = bytes_of (rows_words rs) in
    er ∙ ap (appended u) (rows-bytes rs) ∙ ap (λ u. appended u b) (eu ∙ ap (λ t. appended t a) et) ∙ appended_twice [] a b
    ∙ whole [] (a ++ b) (omega (arith, length-append a b, bytes-length (header_words h), header_length_lem h, wind_length h.wind, bytes-length (rows_words rs), rows-length rs, few))
    ∙ sym (bytes-append (header_words h) (rows_words rs))
