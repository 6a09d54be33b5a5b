-- Records and bytes of which the round trip speaks: values of 28 bits, bytes of 8.
use Rattle.std.specs.Prelude.{◌≡◌, List, [], ◌∷◌, ℕ, ◌<◌, None, Some, Ok}
use Rattle.sheet_record.specs.Word.{words}
use Rattle.std.specs.declared.option.Option.{Option}
use Rattle.sheet_record.specs.declared.Header.{Header}
use Rattle.sheet_record.specs.declared.Row.{Row}
use Rattle.sheet_record.specs.Record.{header_of, rows_of, readable}
use Rattle.sheet_record.specs.Encode.{encode}

abbrev pub Value : ℕ → Type 0
Value v = v < 268435456

abbrev pub WindValue : Option ℕ → Type 0
WindValue None = Unit
WindValue (Some n) = Value n

pub record HeaderValues (h : Header) : Type 0 where
  pub course : Value h.course
  pub speed : Value h.speed
  pub category : Value h.category
  pub visibility : Value h.visibility
  pub desired : Value h.desired
  pub least : Value h.least
  pub most : Value h.most
  pub cpa : Value h.cpa_limit
  pub tcpa : Value h.tcpa_limit
  pub wind : WindValue h.wind

pub record RowValues (r : Row) : Type 0 where
  pub id : Value r.id
  pub bearing : Value r.bearing
  pub range : Value r.range
  pub course : Value r.course
  pub speed : Value r.speed
  pub category : Value r.category

abbrev pub AllRowValues : List Row → Type 0
AllRowValues [] = Unit
AllRowValues (r ∷ rs) = RowValues r × AllRowValues rs

abbrev pub Bytes : List ℕ → Type 0
Bytes [] = Unit
Bytes (b ∷ s) = (b < 256) × Bytes s

-- what was encoded is readable, and reading it gives the record back
pub record ReadsBack (h : Header) (rs : List Row) : Type 0 where
  pub accepted : readable (encode h rs) ≡ (Ok tt)
  pub header : header_of (words (encode h rs)) ≡ h
  pub rows : rows_of (words (encode h rs)) ≡ rs

-- encoding what was read gives the bytes back
abbrev pub WritesBack : List ℕ → Type 0
WritesBack s = encode (header_of (words s)) (rows_of (words s)) ≡ s
