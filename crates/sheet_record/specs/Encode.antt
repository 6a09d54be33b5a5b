-- A sheet's record as its bytes (01, 'Encounter sheet and its program': 'little-endian 32-bit
-- words; the top 4 bits are the kind, the low 28 the value', and their order; R-1: 'an optional
-- word of kind F follows the TCPA limit'). The inverse of reading; of a value that is too large the
-- low 28 bits are kept.
use mathlib.Core.List.{List, [], ◌∷◌, ◌++◌, flat_map}
use Rattle.std.specs.Prelude.{ℕ, ◌+◌, ◌*◌, ◌/◌, ◌%◌, None, Some}
use Rattle.std.specs.declared.option.Option.{Option}
use Rattle.sheet_record.specs.declared.Header.{Header}
use Rattle.sheet_record.specs.declared.Row.{Row}

abbrev pub word : ℕ → ℕ → ℕ
word kind value = kind * 268435456 + value % 268435456

-- the least significant byte first
abbrev pub word_bytes : ℕ → List ℕ
word_bytes w = w % 256 ∷ w / 256 % 256 ∷ w / 65536 % 256 ∷ w / 16777216 ∷ []

-- where the wind comes from, if it is known
abbrev pub wind_words : Option ℕ → List ℕ
wind_words None = []
wind_words (Some n) = word 15 n ∷ []

unfoldable pub header_words : Header → List ℕ
header_words h =
    word 0 h.course
    ∷ word 1 h.speed
    ∷ word 2 h.category
    ∷ word 3 h.visibility
    ∷ word 4 h.desired
    ∷ word 5 h.least
    ∷ word 6 h.most
    ∷ word 7 h.cpa_limit
    ∷ word 8 h.tcpa_limit
    ∷ wind_words h.wind

unfoldable pub row_words : Row → List ℕ
row_words r =
    word 9 r.id
    ∷ word 10 r.bearing
    ∷ word 11 r.range
    ∷ word 12 r.course
    ∷ word 13 r.speed
    ∷ word 14 r.category
    ∷ []

unfoldable pub rows_words : List Row → List ℕ
rows_words rs = flat_map row_words rs

unfoldable pub bytes_of : List ℕ → List ℕ
bytes_of ws = flat_map word_bytes ws

unfoldable pub encode : Header → List Row → List ℕ
encode h rs = bytes_of (header_words h ++ rows_words rs)
