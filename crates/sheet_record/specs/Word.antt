-- A sheet's bytes as words (01, 'Encounter sheet and its program': 'little-endian 32-bit words; the
-- top 4 bits are the kind, the low 28 the value. … Order, kinds in hexadecimal: 0 own course, … 8
-- TCPA limit (seconds); per contact 9 id, … E category'; 'at most 4,096 bytes (more: 15)'; R-1: 'an
-- optional word of kind F follows the TCPA limit').
use Rattle.std.specs.Prelude.{Bool, ◌&&◌, cond, List, [], ◌∷◌, ℕ, ◌+◌, ◌*◌, ◌/◌, ◌%◌, eqb, ltb, leb, length, get_or, take, drop}
use Rattle.sheet_record.specs.declared.word.Kind.{Kind}

abbrev pub word_of : ℕ → ℕ → ℕ → ℕ → ℕ
word_of a b c d = a + b * 256 + c * 65536 + d * 16777216

-- four bytes each; what is left over makes no word
unfoldable pub words : List ℕ → List ℕ
words [] = []
words (a ∷ []) = []
words (a ∷ b ∷ []) = []
words (a ∷ b ∷ c ∷ []) = []
words (a ∷ b ∷ c ∷ d ∷ s) = word_of a b c d ∷ words s

abbrev pub kind : ℕ → ℕ
kind w = w / 268435456

-- the kinds by their names
unfoldable pub number : Kind → ℕ
number Kind.OwnCourse = 0
number Kind.OwnSpeed = 1
number Kind.OwnCategory = 2
number Kind.Visibility = 3
number Kind.Desired = 4
number Kind.Least = 5
number Kind.Most = 6
number Kind.CpaLimit = 7
number Kind.TcpaLimit = 8
number Kind.Id = 9
number Kind.Bearing = 10
number Kind.Range = 11
number Kind.Course = 12
number Kind.Speed = 13
number Kind.Category = 14
number Kind.Wind = 15

abbrev pub value : ℕ → ℕ
value w = w % 268435456

-- 0 to 8, then 9 to E for each contact
abbrev pub next_kind : ℕ → ℕ
next_kind k = cond (ltb k 14) (k + 1) 9

-- the kinds from k on, up to the place where a contact would begin
unfoldable pub in_order : ℕ → List ℕ → Bool
in_order k [] = eqb k 9
in_order k (w ∷ ws) = eqb (kind w) k && in_order (next_kind k) ws

-- whether the tenth word tells the wind
abbrev pub has_wind : List ℕ → Bool
has_wind ws = eqb (kind (get_or ws 9 0)) 15

-- the words before the contacts
abbrev pub header_length : List ℕ → ℕ
header_length ws = cond (has_wind ws) 10 9

-- 0 to 8, then F or not, then the contacts
unfoldable pub ordered : List ℕ → Bool
ordered ws = in_order 0 (take 9 ws) && in_order 9 (drop (header_length ws) ws)

abbrev pub max_bytes : ℕ
max_bytes = 4096

unfoldable pub layout : List ℕ → Bool
layout s = leb (length s) max_bytes && (eqb (length s % 4) 0 && ordered (words s))
