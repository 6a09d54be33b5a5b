-- The words of a record that a program replays, and what is printed for the records that are
-- answered.
use Rattle.std.specs.Prelude.{List, [], ◌∷◌, map, ℕ, ◌/◌, ◌++◌, ◌-◌, ◌^◌, ◌≡◌, length, false}
use Rattle.std.specs.declared.option.Option.{Option}
use Rattle.std.specs.Int.{w64, from_le_bytes}
use Rattle.std.specs.List.{FoldsTo}
use Rattle.std.specs.Simd.{first_chunks}
use Rattle.std.specs.Io.KnownBytes.{Appends, Consumes}
use Rattle.std.specs.Fmt.{radix_digits, format_spec, padded_integral}

-- eight bytes each, the least significant first; what is left over makes no word
abbrev pub words : List ℕ → List ℕ
words s = map (from_le_bytes w64) (first_chunks 8 (length s / 8) s)

-- sixteen hexadecimal digits and the line's end
abbrev pub line : ℕ → List ℕ
line v = padded_integral (format_spec 32 0 4 16 (2 ^ 64 - 1)) false [] (radix_digits 16 false v) ++ 10 ∷ []

-- One record answered: it is the next bytes of the input, as many as a record has, and the line of
-- its answer is appended to the output. Returns says of a record and a number that the number is an
-- answer to it. A state is what is left of the input and what the output holds.
abbrev pub Answered : (List ℕ → ℕ → Type 0) → ℕ → Option (List ℕ) × Option (List ℕ) → List ℕ → Option (List ℕ) × Option (List ℕ) → Type 0
Answered Returns size before bytes after =
    (length bytes ≡ size) × (v : ℕ) × Consumes before.0 after.0 bytes × Returns bytes v × Appends before.1 after.1 (line v)

-- Records are answered one after another, and the output then holds what it says: each record's
-- line, and nothing else, is appended.
abbrev pub AreAnswered : (List ℕ → ℕ → Type 0) → ℕ → Option (List ℕ) × Option (List ℕ) → Option (List ℕ) → Type 0
AreAnswered Returns size before printed =
    (rest : Option (List ℕ)) × (records : List (List ℕ)) × FoldsTo (Answered Returns size) before records
    (rest, printed)
