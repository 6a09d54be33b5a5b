-- Each refusal of a sheet has its number for exactly its reason: layout, then count, then codes, then the values, whose checks have other numbers.
use Rattle.std.specs.Prelude.{None, Some, Err, Ok}
use mathlib.Core.Path.{◌≡◌, refl, sym, ap, ◌∙◌}
use mathlib.Core.Bool.{Bool, true, false, ◌&&◌, cond}
use mathlib.Core.List.{List, [], ◌∷◌, ◌++◌, map}
use Prim.Native.Nat.{ℕ, ◌≤◌}
use native.Mathlib.Omega.{arith}
use lib.Dec.{leb, lit≤}
use Rattle.elementary.specs.Refusal.{answer_number, number_of}
use Rattle.elementary.specs.declared.error.Refusal.TheVariants as Why
use Rattle.std.specs.declared.option.Option.{Option}
use Rattle.std.specs.declared.result.Result.{Result}
use Rattle.elementary.specs.declared.error.Refusal.{Refusal}
use Rattle.motion.specs.Check.{Check, verdict}
use Rattle.motion.proofs.ArgumentCode.{verdict_joined}
use Rattle.situation.specs.Arguments.{optional_checks, party_checks}
use Rattle.clearance.specs.Traffic.{entry_checks, contacts_checks}
use Rattle.sheet_record.specs.Word.{words, layout}
use Rattle.sheet_record.specs.declared.Header.{Header}
use Rattle.sheet_record.specs.declared.Row.{Row}
use Rattle.sheet_record.specs.Record.{header_of, rows_of, readable}
use Rattle.sheet.specs.Values.{party_of, optional_wind, wind_from, entry_of}
use Rattle.sheet.specs.Sheet.{category_checks, code_checks, value_checks, if_readable, sheet_verdict}
use Rattle.sheet.specs.Exactly.{few, known_rows, known, codes, values, Exactly}

-- ---- the numbers of the values' checks
abbrev Within : List Check → Type 0
Within [] = Unit
Within (c ∷ cs) = (number_of c.why ≤ 6) × Within cs

within_both : (a b : List Check) → Within a → Within b → Within (a ++ b)
within_both [] b w v = v
within_both (c ∷ a) b w v = (w.0, within_both a b w.1 v)

number_within : (cs : List Check) → Within cs → answer_number (verdict cs (Ok tt)) ≤ 6
unfolding verdict
number_within [] w = lit≤ tt
number_within (c ∷ cs) w = go c.good (number_within cs w.1)
  where
    go : (b : Bool) → answer_number (verdict cs (Ok tt)) ≤ 6 → answer_number (cond b (verdict cs (Ok tt)) (Err c.why)) ≤ 6
    go true later = later
    go false later = w.0

-- a sheet's parties have no heading of their own
rows_within : (rs : List Row) → Within (contacts_checks (map entry_of rs))
unfolding contacts_checks entry_checks party_checks entry_of party_of
rows_within [] = tt
rows_within (r ∷ rs) = (lit≤ tt, (lit≤ tt, (lit≤ tt, (lit≤ tt, rows_within rs))))

wind_within : (w : Option ℕ) → Within (optional_checks (optional_wind w))
wind_within None = tt
wind_within (Some n) = (lit≤ tt, tt)

values_within : (h : Header) (rs : List Row) → Within (value_checks h (map entry_of rs))
unfolding value_checks wind_from
values_within h rs = (lit≤ tt, (lit≤ tt, (lit≤ tt, (lit≤ tt, (lit≤ tt, (lit≤ tt, (lit≤ tt, within_both (optional_checks (optional_wind h.wind)) (contacts_checks (map entry_of rs)) (wind_within h.wind) (rows_within rs))))))))

-- ---- the codes
categories_decide : (rs : List Row) (rest : Result (Unit {0}) Refusal) → verdict (category_checks rs) rest ≡ cond (known_rows rs) rest (Err Why.UnknownCode)
unfolding verdict category_checks known_rows
categories_decide [] rest = refl
categories_decide (r ∷ rs) rest = go (leb r.category 7) (categories_decide rs rest)
  where
    go : (b : Bool) → verdict (category_checks rs) rest ≡ cond (known_rows rs) rest (Err Why.UnknownCode) → cond b (verdict (category_checks rs) rest) (Err Why.UnknownCode) ≡ cond (b && known_rows rs) rest (Err Why.UnknownCode)
    go true later = later
    go false later = refl

codes_decide : (h : Header) (rs : List Row) (rest : Result (Unit {0}) Refusal) → verdict (code_checks h rs) rest ≡ cond (known h rs) rest (Err Why.UnknownCode)
unfolding verdict code_checks known
codes_decide h rs rest = go (leb h.category 7) (leb h.visibility 1)
  where
    go : (a b : Bool) → cond a (cond b (verdict (category_checks rs) rest) (Err Why.UnknownCode)) (Err Why.UnknownCode) ≡ cond (a && (b && known_rows rs)) rest (Err Why.UnknownCode)
    go true true = categories_decide rs rest
    go true false = refl
    go false b = refl

-- ---- the order
abbrev in_order : Bool → Bool → Bool → Result (Unit {0}) Refusal → Result (Unit {0}) Refusal
in_order l f c v = cond l (cond f (cond c v (Err Why.UnknownCode)) (Err Why.TooManyContacts)) (Err Why.Layout)

by_layout_lem : (l f : Bool) (v : Result (Unit {0}) Refusal) → if_readable (cond l (cond f (Ok tt) (Err Why.TooManyContacts)) (Err Why.Layout)) v ≡ cond l (cond f v (Err Why.TooManyContacts)) (Err Why.Layout)
by_layout_lem true true v = refl
by_layout_lem true false v = refl
by_layout_lem false f v = refl

-- ---- which number has which reason
module _ (v : Result (Unit {0}) Refusal) (small : answer_number v ≤ 6) where
  for_15 : (l f c : Bool) → answer_number (in_order l f c v) ≡ 15 → l ≡ false
  for_15 true true true e = absurd (omega (arith, small, e))
  for_15 true true false e = absurd (omega (arith, e))
  for_15 true false c e = absurd (omega (arith, e))
  for_15 false f c e = refl

  for_14 : (l f c : Bool) → answer_number (in_order l f c v) ≡ 14 → (l ≡ true) × (f ≡ false)
  for_14 true true true e = absurd (omega (arith, small, e))
  for_14 true true false e = absurd (omega (arith, e))
  for_14 true false c e = (refl, refl)
  for_14 false f c e = absurd (omega (arith, e))

  for_16 : (l f c : Bool) → answer_number (in_order l f c v) ≡ 16 → (l ≡ true) × (f ≡ true) × (c ≡ false)
  for_16 true true true e = absurd (omega (arith, small, e))
  for_16 true true false e = (refl, refl, refl)
  for_16 true false c e = absurd (omega (arith, e))
  for_16 false f c e = absurd (omega (arith, e))

  for_0 : (l f c : Bool) → answer_number (in_order l f c v) ≡ 0 → (l ≡ true) × (f ≡ true) × (c ≡ true) × (answer_number v ≡ 0)
  for_0 true true true e = (refl, refl, refl, e)
  for_0 true true false e = absurd (omega (arith, e))
  for_0 true false c e = absurd (omega (arith, e))
  for_0 false f c e = absurd (omega (arith, e))

module _ (s : List ℕ) where
  abbrev h : Header
  h = header_of (words s)

  abbrev rs : List Row
  rs = rows_of (words s)

  in_order_lem : sheet_verdict s ≡ in_order (layout s) (few s) (codes s) (values s)
  unfolding sheet_verdict readable
  in_order_lem =
      ap (if_readable (readable s)) (verdict_joined (code_checks h rs) (value_checks h (map entry_of rs)) (Ok tt) ∙ codes_decide h rs (values s))
      ∙ by_layout_lem (layout s) (few s) (cond (codes s) (values s) (Err Why.UnknownCode))

  small : answer_number (values s) ≤ 6
  small = number_within (value_checks h (map entry_of rs)) (values_within h rs)

  pub exactly : Exactly s
  exactly = record {
    order = in_order_lem;
    value_numbers = small;
    is_15 = λ e. for_15 (values s) small (layout s) (few s) (codes s) (ap answer_number (sym in_order_lem) ∙ e);
    is_14 = λ e. for_14 (values s) small (layout s) (few s) (codes s) (ap answer_number (sym in_order_lem) ∙ e);
    is_16 = λ e. for_16 (values s) small (layout s) (few s) (codes s) (ap answer_number (sym in_order_lem) ∙ e);
    is_accepted = λ e. for_0 (values s) small (layout s) (few s) (codes s) (ap answer_number (sym in_order_lem) ∙ e);
  }
